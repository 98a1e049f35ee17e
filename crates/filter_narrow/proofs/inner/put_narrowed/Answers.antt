use native.Mathlib.Omega.{arith}
use mathlib.Core.Path.{◌∙◌}
use Rattle.filter_narrow.proofs.Units.{Turn, narrowing_start, narrowing_room, narrowing_more, narrowing_done}
use Rattle.filter_narrow.proofs.inner.put_narrowed.Goals as goal

pub loop-unit-init : goal.loop-unit-init
loop-unit-init g c =
    let e = c.into_iter-unit-iterator.ensures.into_iter_gives in
    let k = c.chunks_exact-unit-items.ensures in
    (rw e (k.size ∙ c.WIDTH.ensures), rw (e, k.rest) (narrowing_start g.U.Unit.WIDTH c.args.at c.args.source.now c.args.out.now c.requires.0 c.requires.1))

pub put_narrow-to-requires : goal.put_narrow-to-requires
put_narrow-to-requires g c =
    let i = c.loop-unit.invariant in
    let s = c.in-Some.ensures.steps in
    let t : Turn g.U.Unit.WIDTH _ _ _ = record { is = s.1.0; long = s.1.1 ∙ i.0; positive = g.met.U.Unit.is_width.0 } in
    narrowing_room i.1 t _ c.get.ensures

pub loop-unit-preserved : goal.loop-unit-preserved
loop-unit-preserved g c =
    let i = c.loop-unit.invariant in
    let s = c.in-Some.ensures.steps in
    let k = c.put_narrow-to.ensures in
    let t : Turn g.U.Unit.WIDTH _ _ _ = record { is = s.1.0; long = s.1.1 ∙ i.0; positive = g.met.U.Unit.is_width.0 } in
    (s.0 ∙ i.0, narrowing_more i.1 t _ c.get.ensures k.0 k.1)

pub returns : goal.returns
returns g c = narrowing_done c.loop-unit.invariant.1 (omega (arith, c.loop-unit.invariant.0, c.in-None.ensures.steps.1.0))
