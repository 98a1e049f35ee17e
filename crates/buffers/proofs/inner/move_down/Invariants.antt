-- From the first block on, each turn puts one block more, which is still as it was; the bytes left are one piece more.
use Prim.Native.Nat.{◌*◌}
use Rattle.octets.specs.Parts.{part}
use Rattle.octets.proofs.Moves.{Up}
use Rattle.buffers.proofs.inner.move_down.Given as goal

abbrev pub invariant-loop-blocks : goal.invariant-loop-blocks
invariant-loop-blocks l = Up l.to l.n (part l.from l.n l.fn.buffer) l.fn.buffer l.buffer (l.blocks * 16384)
