-- `resize` to no byte moves the tail to `at` and zeroes the n bytes freed behind it: the file with nothing in their
-- place.
use native.Mathlib.Nat.{add-zero}
use Rattle.octets.specs.Parts.{spliced}
use Rattle.splice.proofs.inner.cut.Goals as goal

pub returns : goal.returns
unfolding spliced
returns c = rw add-zero at c.resize.ensures
