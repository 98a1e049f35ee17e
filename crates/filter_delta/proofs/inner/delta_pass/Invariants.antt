-- Each turn puts one unit less the one before it: what is made and the differences of the units to come are together
-- those of all the units.
use Rattle.filter_delta.proofs.Pass.{Differencing}
use Rattle.filter_delta.proofs.inner.delta_pass.Given as goal

abbrev pub invariant-loop-i : goal.invariant-loop-i
invariant-loop-i g l = let u = g.U.Unit in Differencing u.WIDTH (u.value l.previous) l.i l.i-end l.initial.bytes l.bytes
