use native.Mathlib.Omega.{arith}
use Rattle.sff_signal.proofs.Totals.{seen_all, totals}
use Rattle.sff_signal.proofs.inner.add_up.Goals as goal

pub loop-i-init : goal.loop-i-init
loop-i-init c = search totals

pub loop-i-preserved : goal.loop-i-preserved
loop-i-preserved c = search totals

pub returns : goal.returns
returns c = seen_all c.loop-i.invariant (omega arith)
