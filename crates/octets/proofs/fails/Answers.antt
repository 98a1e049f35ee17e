use Rattle.octets.proofs.Every.{told_more}
use Rattle.octets.proofs.fails.Goals as goal

pub loop-x-preserved : goal.loop-x-preserved
loop-x-preserved c = told_more c.loop-x.invariant c.loop-x-test.true c.passes.ensures
