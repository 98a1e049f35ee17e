-- Each turn takes one value more: the largest, the smallest and the sum of those seen, with those to come, are the
-- whole's.
use Rattle.sff_signal.proofs.Totals.{Seen}
use Rattle.sff_signal.proofs.inner.add_up.Given as goal

abbrev pub invariant-loop-i : goal.invariant-loop-i
invariant-loop-i l = Seen l.file l.at l.flows l.most l.least l.sum l.i
