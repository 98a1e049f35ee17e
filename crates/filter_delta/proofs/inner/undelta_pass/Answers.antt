use Rattle.std.proofs.Common.{◌∙◌}
use native.Mathlib.Nat.{zero-mod}
use Rattle.filter_format.proofs.Levels.{one_level_less}
use Rattle.filter_delta.proofs.Pass.{summing_start, turn, done}
use Rattle.filter_delta.proofs.inner.undelta_pass.Goals as goal

pub loop-i-init : goal.loop-i-init
loop-i-init g c =
    let w = c.WIDTH.ensures in
    summing_start g.U.Unit.WIDTH _ _ c.args.bytes.now c.requires (c.low-sum.ensures ∙ zero-mod _) (rw w)

pub loop-i-preserved : goal.loop-i-preserved
loop-i-preserved g c =
    let w = c.WIDTH-in-loop-i.ensures in
    turn c.loop-i.invariant c.loop-i-test.true (rw w at c.get.ensures) c.plus-sum.ensures c.plus-sum.ensures (rw w at c.put.ensures)

pub returns-clause-bytes_after : goal.returns-clause-bytes_after
returns-clause-bytes_after g c = done c.loop-i.invariant c.loop-i-test.false

pub returns-clause-one_level_less : goal.returns-clause-one_level_less
returns-clause-one_level_less g c = rw (done c.loop-i.invariant c.loop-i-test.false) (one_level_less g.U.Unit.WIDTH g.met.U.Unit.is_width.0 c.args.bytes.now)
