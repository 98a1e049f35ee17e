-- Each turn puts the sum of one unit and of those before it: what is made and the sums of the units to come are
-- together those of all the units.
use Rattle.filter_delta.proofs.Pass.{Summing}
use Rattle.filter_delta.proofs.inner.undelta_pass.Given as goal

abbrev pub invariant-loop-i : goal.invariant-loop-i
invariant-loop-i g l = let u = g.U.Unit in Summing u.WIDTH (u.value l.sum) l.i l.i-end l.initial.bytes l.bytes
