-- Each turn puts the two bytes of one value more, behind those of the values before it.
use Rattle.octets.proofs.Worded.{Worded}
use Rattle.buffers.proofs.inner.put_words.Given as goal

abbrev pub invariant-loop-j : goal.invariant-loop-j
invariant-loop-j l = Worded l.at l.values l.initial.buffer l.buffer l.j
