-- Encoding and undoing SCF samples as one call: undone where the first number is not 0. Assumes nothing: these are
-- definitions.
use Rattle.std.specs.Prelude.{ℕ, cond, List, eqb}
use Rattle.filter_format.specs.Undo.{Result}
use Rattle.filter_format.specs.Samples.{encode_samples, undo_samples}

unfoldable pub samples : ℕ → ℕ → ℕ → List ℕ → Result
samples undone room precision source =
    cond (eqb undone 0) (encode_samples room precision source) (undo_samples room precision source)
