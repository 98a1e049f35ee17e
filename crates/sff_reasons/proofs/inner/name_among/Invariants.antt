-- At each turn the reads at the boundary and after it decide: the one at it ends the search or is passed over, and
-- where none is left, none has the name.
use Rattle.sff_reasons.proofs.Sought.{Sought}
use Rattle.sff_reasons.proofs.inner.name_among.Given as goal

abbrev pub invariant-loop-behind : goal.invariant-loop-behind
invariant-loop-behind l = Sought l.name l.file l.position l.behind l.at
