-- The part that is written holds the last N of the value's eight bytes, which are its N low ones.
use mathlib.Core.Path.{◌∙◌}
use native.Mathlib.Omega.{arith}
use Rattle.octets.proofs.Digits.{length-bytes_of}
use Rattle.buffers.proofs.Written.{written, low_bytes}
use Rattle.buffers.proofs.inner.put_number.Goals as goal

pub returns : goal.returns
returns g c =
    let a = c.args in
    let n = g.row.N in
    written a.at _ a.buffer.now _ _
    (c.copy_from_slice.ensures.after ∙ low_bytes n a.value c.to_be_bytes-bytes.result c.requires.0 c.to_be_bytes-bytes.ensures)
    (omega (arith, length-bytes_of n a.value))
