-- The part that is written holds the last bytes of the value's eight, which are its low ones.
use mathlib.Core.Path.{◌∙◌}
use native.Mathlib.Omega.{arith}
use Rattle.octets.proofs.Digits.{length-bytes_of}
use Rattle.buffers.proofs.Written.{written, low_bytes}
use Rattle.sff_sections.proofs.inner.put_number.Goals as goal

pub returns : goal.returns
returns c =
    let a = c.args in
    written a.at _ a.buffer.now _ _
    (c.copy_from_slice.ensures.after ∙ low_bytes a.width a.value c.to_be_bytes-bytes.result c.requires.0 c.to_be_bytes-bytes.ensures)
    (omega (arith, length-bytes_of a.width a.value))
