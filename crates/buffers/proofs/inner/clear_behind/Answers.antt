-- Zeros put from n to the end of the buffer leave its first n bytes with zeros up to its length.
use mathlib.Core.Path.{◌∙◌}
use Rattle.octets.proofs.FilledFront.{zeros-behind}
use Rattle.buffers.proofs.inner.clear_behind.Goals as goal

pub returns : goal.returns
returns c =
    c.fill.ensures ∙ zeros-behind c.args.n c.args.buffer.now c.requires
