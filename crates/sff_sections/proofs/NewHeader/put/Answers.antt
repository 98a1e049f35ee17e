-- The fields, the flow characters, the key and zeros, each behind the one before it, are a new file's layout.
use mathlib.Core.Path.{refl}
use native.Mathlib.Omega.{arith}
use Rattle.octets.proofs.Stands.{length_fields_lem}
use Rattle.sff_format.specs.Model.{header_fields}
use Rattle.sff_sections.proofs.Sections.{new_put}
use Rattle.sff_sections.proofs.NewHeader.put.Goals as goal

pub put_fields-requires-clause-in_bounds : goal.put_fields-requires-clause-in_bounds
put_fields-requires-clause-in_bounds c = rw length_fields_lem (omega arith)

pub returns : goal.returns
unfolding header_fields
returns c =
    new_put _ _ _ c.put_fields.ensures (rw c.size.ensures refl)
    c.put_bytes.ensures c.put_bytes-2.ensures c.put_padding.ensures c.requires.in_bounds
