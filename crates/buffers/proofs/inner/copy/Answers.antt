-- The part that is written holds the n bytes of the source, and the rest of the buffer is as it was.
use Prim.Native.Nat.{◌+◌, ◌-◌}
use mathlib.Core.Path.{◌≡◌}
use native.Mathlib.Omega.{arith}
use Rattle.octets.proofs.Lists.{length_part}
use Rattle.buffers.proofs.Written.{written}
use Rattle.buffers.proofs.inner.copy.Goals as goal

pub returns : goal.returns
returns c =
    let a = c.args in
    let n : a.from + a.n - a.from ≡ a.n = omega arith in
    let len = length_part a.from a.n a.source.now c.requires.1 in
    written a.at _ a.buffer.now _ _ (rw n at c.copy_from_slice.ensures.after) (omega (arith, len))
