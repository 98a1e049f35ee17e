-- One store at a place inside the buffer is a piece of one byte put there.
use Rattle.std.proofs.Common.{refl, [], ◌∷◌}
use Rattle.octets.proofs.Lists.{put_sets}
use Rattle.text.proofs.inner.TextWriter.put_byte.Goals as goal

pub returns : goal.returns
returns c = record { out = put_sets (c.args.x ∷ []) _ _ c.requires.fits; at = refl; same_buffer = refl }
