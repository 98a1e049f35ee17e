-- The fields of a well-formed record say where its new name ends.
use native.Mathlib.Omega.{arith}
use Rattle.sff_record.proofs.Names.{new_end, new-fits}
use Rattle.sff_record.proofs.inner.Record.new_name.Goals as goal

pub overflow_add-end : goal.overflow_add-end
overflow_add-end c =
    let s = c.args.self.now in
    omega (arith, new-fits _ _ s.formed s.fields_of)

pub slice_bounds-result-end : goal.slice_bounds-result-end
slice_bounds-result-end c =
    let s = c.args.self.now in
    new_end _ _ s.formed s.fields_of
