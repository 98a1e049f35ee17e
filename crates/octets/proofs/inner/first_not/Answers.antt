use native.Mathlib.Omega.{arith}
use Rattle.octets.proofs.Scan.{seen_more, seen_stop, seen_end}
use Rattle.octets.proofs.inner.first_not.Goals as goal

pub loop-j-preserved : goal.loop-j-preserved
loop-j-preserved c = seen_more c.loop-j.invariant c.loop-j-test.true c.passes.ensures c.if-not-passes.false

pub returns-then-not-passes : goal.returns-then-not-passes
returns-then-not-passes c =
    seen_stop c.loop-j.invariant c.loop-j-test.true c.passes.ensures c.if-not-passes.true (omega arith)

pub returns : goal.returns
returns c = seen_end c.loop-j.invariant c.loop-j-test.false (omega arith)
