-- The part that is written holds zeros, as many as lie between the used bytes and the next multiple of 8.
use Prim.Native.Nat.{◌+◌, ◌-◌}
use mathlib.Core.Path.{◌≡◌, ◌∙◌}
use native.Mathlib.Omega.{arith}
use lib.ListN.{length, length-replicate}
use Rattle.octets.specs.Parts.{part, up8}
use Rattle.octets.proofs.Lists.{length_part}
use Rattle.buffers.proofs.Written.{written}
use Rattle.sff_sections.proofs.inner.put_padding.Goals as goal

pub returns : goal.returns
returns c =
    let a = c.args in
    let n : length (part (a.at + a.used) (a.at + c.up8.result - (a.at + a.used)) a.buffer.now) ≡ up8 a.used - a.used =
    length_part (a.at + a.used) (a.at + c.up8.result - (a.at + a.used)) a.buffer.now (omega arith) ∙ omega arith in
    written (a.at + a.used) _ a.buffer.now _ _ (rw n at (c.fill.ensures.after (λ y e. e))) (rw length-replicate (omega arith))
