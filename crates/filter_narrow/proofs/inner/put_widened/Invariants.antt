-- Each turn puts the next unit whole: what is put and what is to come are together all the source's units.
use lib.ListN.{length}
use Rattle.filter_narrow.proofs.Walk.{Widening}
use Rattle.filter_narrow.proofs.inner.put_widened.Given as goal

abbrev pub invariant-loop-byte : goal.invariant-loop-byte
invariant-loop-byte g l = Widening g.U.Unit.WIDTH l.to l.rest l.source l.initial.out l.out

abbrev pub decreases-loop-byte : goal.decreases-loop-byte
decreases-loop-byte g l = length l.rest
