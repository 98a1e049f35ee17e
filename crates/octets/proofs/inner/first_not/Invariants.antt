-- No byte before the next one fails, so that what is sought from `from` on is sought from there on.
use Prim.Native.Nat.{◌-◌}
use Rattle.octets.specs.Scans.{passes}
use Rattle.octets.proofs.Scan.{Seen}
use Rattle.octets.proofs.inner.first_not.Given as goal

abbrev pub invariant-loop-j : goal.invariant-loop-j
invariant-loop-j l = Seen (passes l.test) l.from (l.to - l.from) l.bytes l.j
