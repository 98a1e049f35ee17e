-- The part that is written holds the value in each of its places, and the rest of the buffer is as it was.
use Prim.Native.Nat.{◌-◌}
use mathlib.Core.Path.{sym}
use native.Mathlib.Omega.{arith}
use lib.ListN.{length-replicate}
use Rattle.octets.proofs.Lists.{length_part}
use Rattle.buffers.proofs.Written.{written}
use Rattle.buffers.proofs.inner.fill.Goals as goal

pub returns : goal.returns
returns c =
    let a = c.args in
    let len = length_part a.from (a.to - a.from) a.buffer.now (omega arith) in
    written a.from _ a.buffer.now _ _ (rw len at (c.fill.ensures.after (λ y e. e))) (sym (length-replicate _ _))
