use native.Mathlib.Omega.{arith}
use mathlib.Core.Path.{◌∙◌}
use Rattle.filter_narrow.proofs.Units.{Turn, measuring_more, measuring_done}
use Rattle.filter_narrow.proofs.inner.narrowed_length.Goals as goal

pub loop-unit-preserved : goal.loop-unit-preserved
loop-unit-preserved g c =
    let i = c.loop-unit.invariant in
    let s = c.in-Some.ensures.steps in
    let n = c.narrow_length-size.ensures in
    let t : Turn g.U.Unit.WIDTH _ _ _ = record { is = s.1.0; long = s.1.1 ∙ i.0; positive = g.met.U.Unit.is_width.0 } in
    (s.0 ∙ i.0, measuring_more i.1 t _ _ c.get.ensures n.0 n.1)

pub returns : goal.returns
returns g c = measuring_done c.loop-unit.invariant.1 (omega (arith, c.loop-unit.invariant.0, c.in-None.ensures.steps.1.0))
