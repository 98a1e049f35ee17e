-- At each turn as many reads are behind the boundary as were passed (`Walk`): past any index the next read begins
-- there, and at the end that is the read at the position.
use Rattle.sff_format.specs.Walk.{Walk}
use Rattle.sff_find.proofs.inner.seek.Given as goal

abbrev pub invariant-loop-passed : goal.invariant-loop-passed
invariant-loop-passed l = Walk l.file l._passed l.at
