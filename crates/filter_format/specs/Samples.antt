-- "SCF samples of precision 1 or 2 are level 2 without block bytes". Assumes nothing: these are definitions.
use Rattle.std.specs.Prelude.{ℕ, not, ◌||◌, List, length, eqb, ltb}
use Rattle.answers.specs.Answer.{Answer, when, ◌then◌}
use Rattle.filter_format.specs.Units.{not_whole}
use Rattle.filter_format.specs.Delta.{delta_bytes, undelta_bytes}
use Rattle.filter_format.specs.Undo.{Result, tested}

-- "either way refuses 42 (precision), 43, 26 in that order, changing nothing, and else writes as many bytes as it
-- reads"
unfoldable pub samples_test : ℕ → ℕ → List ℕ → Answer
samples_test room precision source =
    when (not (eqb precision 1 || eqb precision 2)) 42 0
    then when (not_whole precision source) 43 0
    then when (ltb room (length source)) 26 0

-- encoded, and undone
unfoldable pub encode_samples : ℕ → ℕ → List ℕ → Result
encode_samples room precision source = tested (samples_test room precision source) (delta_bytes precision 2 source)

unfoldable pub undo_samples : ℕ → ℕ → List ℕ → Result
undo_samples room precision source = tested (samples_test room precision source) (undelta_bytes precision 2 source)
