use Rattle.std.proofs.Common.{refl, ◌∙◌}
use native.Mathlib.Nat.{zero-mod}
use Rattle.filter_delta.proofs.Pass.{differencing_start, turn, done}
use Rattle.filter_delta.proofs.inner.delta_pass.Goals as goal

pub loop-i-init : goal.loop-i-init
loop-i-init g c =
    let w = c.WIDTH.ensures in
    differencing_start g.U.Unit.WIDTH _ _ c.args.bytes.now c.requires (c.low-previous.ensures ∙ zero-mod _) (rw w)

pub loop-i-preserved : goal.loop-i-preserved
loop-i-preserved g c =
    let w = c.WIDTH-in-loop-i.ensures in
    turn c.loop-i.invariant c.loop-i-test.true (rw w at c.get-unit.ensures) c.minus.ensures refl (rw w at c.put.ensures)

pub returns : goal.returns
returns g c = done c.loop-i.invariant c.loop-i-test.false
