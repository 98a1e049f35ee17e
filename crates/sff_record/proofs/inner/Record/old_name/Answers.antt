-- The fields of a well-formed record say where its old name ends.
use native.Mathlib.Omega.{arith}
use Rattle.sff_record.proofs.Names.{old_end, old-fits}
use Rattle.sff_record.proofs.inner.Record.old_name.Goals as goal

pub overflow_add-end : goal.overflow_add-end
overflow_add-end c =
    let s = c.args.self.now in
    omega (arith, old-fits _ _ s.formed s.fields_of)

pub slice_bounds-result-end : goal.slice_bounds-result-end
slice_bounds-result-end c =
    let s = c.args.self.now in
    old_end _ _ s.formed s.fields_of
