-- The part that is written holds the source, and the rest of the buffer is as it was.
use native.Mathlib.Omega.{arith}
use Rattle.buffers.proofs.Written.{written}
use Rattle.sff_sections.proofs.inner.put_bytes.Goals as goal

pub returns : goal.returns
returns c =
    let a = c.args in
    written a.at _ a.buffer.now _ _ c.copy_from_slice.ensures.after (omega arith)
