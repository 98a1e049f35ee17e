-- At each turn both tests still seek, from this base on, what they sought from the first (`Matched`). So each of the
-- three breaks yields `matched_count`, with the flow position there (`Stopped`). At the end both tests are through. Else
-- the walk breaks at that place, or `walk_stop` gives `walked_count` from the next base on: `bases_test` is made of these
-- two.
use Rattle.std.proofs.Common.{◌+◌, ◌-◌}
use Rattle.sff_walk.proofs.Walk.{Matched}
use Rattle.sff_walk.proofs.inner.bases_test.Given as goal

abbrev pub invariant-loop-k : goal.invariant-loop-k
invariant-loop-k l = Matched l.characters l.increments l.bases l.base.0 l.flow.0

abbrev pub decreases-loop-k : goal.decreases-loop-k
decreases-loop-k l = l.count + 1 - l.base.0
