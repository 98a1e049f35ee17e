-- After each turn the answer is that of the bytes seen so far; at the end all are seen.
use Rattle.octets.specs.Scans.{passes}
use Rattle.octets.proofs.Every.{Told}
use Rattle.octets.proofs.fails.Given as goal

abbrev pub invariant-loop-x : goal.invariant-loop-x
invariant-loop-x l = Told (passes l.test) l.bytes l.x-index l.failed
