-- The bytes above the blocks are moved first. Then, from the last block on, each turn puts one block more, which is
-- still as it was.
use Prim.Native.Nat.{◌-◌, ◌*◌}
use Rattle.octets.specs.Parts.{part}
use Rattle.octets.proofs.Moves.{Down}
use Rattle.buffers.proofs.inner.move_up.Given as goal

abbrev pub invariant-loop-blocks : goal.invariant-loop-blocks
invariant-loop-blocks l = Down l.to l.n (part l.from l.n l.fn.buffer) l.fn.buffer l.buffer (l.whole - l.blocks * 16384)
