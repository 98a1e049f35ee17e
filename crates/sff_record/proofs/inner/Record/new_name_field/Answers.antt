-- A well-formed record has 96 bytes.
use native.Mathlib.Omega.{arith}
use Rattle.sff_record.proofs.Names.{whole_end}
use Rattle.sff_record.proofs.inner.Record.new_name_field.Goals as goal

pub slice_bounds-result-end : goal.slice_bounds-result-end
slice_bounds-result-end c =
    let s = c.args.self.now in
    omega (arith, whole_end _ _ s.formed s.fields_of)
