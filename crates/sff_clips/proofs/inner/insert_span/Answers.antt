-- There is a first base; what lies between the base before it and the last, or itself where that comes earlier, is the
-- stretch's size.
use Prim.Native.Nat.{suc, ◌-◌}
use mathlib.Core.Path.{◌≡◌}
use native.Mathlib.Omega.{arith}
use Rattle.sff_format.proofs.Inserted.{first-least}
use Rattle.sff_clips.proofs.inner.insert_span.Goals as goal

pub overflow_sub-before : goal.overflow_sub-before
overflow_sub-before c = let o = first-least c.args.view.quality_left c.args.view.adapter_left in omega arith

pub returns : goal.returns
returns c =
    let view = c.args.view in
    let o = first-least view.quality_left view.adapter_left in
    let before = c.first_base-first.result.0 - 1 in
    let n : c.greatest-end.result - before ≡ suc c.last_base.result.0 - c.first_base-first.result.0 = omega arith in
    rw (n, c.first_base-first.ensures, c.last_base.ensures)
