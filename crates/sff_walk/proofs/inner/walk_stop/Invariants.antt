-- At each turn the walk still seeks, from this base on, what it sought from the first (`Walked`): so a base that breaks
-- it is the place sought, and the increments' end is that where none does.
use Prim.Native.Nat.{◌+◌, ◌-◌}
use mathlib.Core.Path.{◌≡◌}
use lib.ListN.{length}
use Rattle.sff_walk.proofs.Walk.{Walked}
use Rattle.sff_walk.proofs.inner.walk_stop.Given as goal

abbrev pub invariant-loop-base : goal.invariant-loop-base
invariant-loop-base l =
    (l.bases ≡ length l.increments) × (Walked l.flows l.initial.flow.0 l.initial.base.0 l.increments l.base.0 l.flow.0)

abbrev pub decreases-loop-base : goal.decreases-loop-base
decreases-loop-base l = l.bases + 1 - l.base.0
