-- Each turn counts the unit that begins the rest: those counted and those that begin in the rest are all of them, and
-- the rest lacks what the whole lacks.
use lib.ListN.{length}
use Rattle.filter_narrow.proofs.Walk.{Counting}
use Rattle.filter_narrow.proofs.inner.count_units.Given as goal

abbrev pub invariant-loop-byte : goal.invariant-loop-byte
invariant-loop-byte l = Counting l.width l.units l.rest l.source

abbrev pub decreases-loop-byte : goal.decreases-loop-byte
decreases-loop-byte l = length l.rest
