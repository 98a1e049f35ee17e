-- The fields, the name behind them and zeros behind the name are the header section.
use mathlib.Core.Path.{refl, ◌∙◌}
use native.Mathlib.Omega.{arith}
use Rattle.octets.proofs.Stands.{length_fields_lem}
use Rattle.sff_sections.specs.Sections.{section_fields, clip_fields}
use Rattle.sff_sections.proofs.Sections.{head_put, counted, counted_section, counted_fields}
use Rattle.sff_sections.proofs.inner.put_read_header.Goals as goal

pub put_fields-requires-clause-in_bounds : goal.put_fields-requires-clause-in_bounds
put_fields-requires-clause-in_bounds c = rw length_fields_lem (omega arith)

pub returns : goal.returns
unfolding section_fields clip_fields
returns c =
    let a = c.args in
    rw counted_section at
    (head_put _ (counted a.name.now a.clips a.bases) _ c.put_fields.ensures
    (rw (c.up8.ensures, c.from.ensures, c.from-2.ensures, c.from-3.ensures, c.from-4.ensures) (counted_fields a.name.now a.clips a.bases))
    c.put_bytes.ensures c.put_padding.ensures c.requires.name_in_bounds)
