-- The block goes into the array and out of it, so that what is put is what stood in the slice before anything was put.
use native.Mathlib.Omega.{arith}
use Prim.Native.Nat.{ℕ}
use lib.ListN.{replicate, length-replicate}
use Rattle.octets.proofs.Moves.{moved_through}
use Rattle.buffers.proofs.inner.move_block.Goals as goal

pub returns : goal.returns
returns c =
    let a = c.args in
    moved_through a.from a.to 16384 (replicate 16384 0) a.buffer.now (length-replicate {A = ℕ} 16384 0) (omega arith)
    c.copy.ensures c.copy-2.ensures
