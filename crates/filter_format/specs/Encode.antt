-- Encoding one layer. Assumes nothing: these are definitions.
use Rattle.std.specs.Prelude.{ℕ, ◌-◌, Bool, false, not, ◌≡◌, List, [], ◌∷◌, ◌++◌, length, replicate, eqb, ltb}
use Rattle.octets.specs.Parts.{put_at}
use Rattle.answers.specs.Answer.{Answer, when, ◌then◌}
use Rattle.filter_format.specs.declared.Filter.{Filter}
use Rattle.filter_format.specs.declared.Filter.TheVariants.{Raw, Delta, Narrow, Follow, Other}
use Rattle.filter_format.specs.Units.{units_of, not_whole}
use Rattle.filter_format.specs.Delta.{delta_bytes}
use Rattle.filter_format.specs.Narrow.{narrow}
use Rattle.filter_format.specs.Follow.{followed}
use Rattle.filter_format.specs.Block.{filter_of, is_filter, header_length, level_at, follow_at, bad_level}
use Rattle.filter_format.specs.Undo.{Result, tested}

-- the header behind the format byte
unfoldable pub header_rest : Filter → ℕ → List ℕ → List ℕ
header_rest Raw level follow = []
header_rest (Delta width) level follow = level ∷ replicate (header_length (Delta width) - 2) 0
header_rest (Narrow width) level follow = []
header_rest Follow level follow = follow
header_rest Other level follow = []

-- the data, filtered
unfoldable pub encoded_data : Filter → ℕ → List ℕ → List ℕ → List ℕ
encoded_data Raw level follow source = source
encoded_data (Delta width) level follow source = delta_bytes width level source
encoded_data (Narrow width) level follow source = narrow width (units_of width source)
encoded_data Follow level follow source = followed follow source
encoded_data Other level follow source = []

-- the block that one layer over the data makes
unfoldable pub encoded : ℕ → ℕ → List ℕ → List ℕ → List ℕ
encoded format level follow source =
    format ∷ (header_rest (filter_of format) level follow ++ encoded_data (filter_of format) level follow source)

-- "42 (level, or follow bytes not 256 for 72)": the level is judged for 64 to 66 alone, the follow bytes for 72 alone
unfoldable pub bad_given : Filter → ℕ → List ℕ → Bool
bad_given Raw level follow = false
bad_given (Delta width) level follow = bad_level level
bad_given (Narrow width) level follow = false
bad_given Follow level follow = not (eqb (length follow) 256)
bad_given Other level follow = false

-- "43": the data are not whole units
unfoldable pub bad_units : Filter → List ℕ → Bool
bad_units Raw source = false
bad_units (Delta width) source = not_whole width source
bad_units (Narrow width) source = not_whole width source
bad_units Follow source = false
bad_units Other source = false

-- "Encoding one layer refuses 41 (format not 64 to 66 or 70 to 72), 42 (level, or follow bytes not 256 for 72), 43, 26
-- in that order"
unfoldable pub encode_test : ℕ → ℕ → ℕ → List ℕ → List ℕ → Answer
encode_test room format level follow source =
    when (not (is_filter (filter_of format))) 41 0
    then when (bad_given (filter_of format) level follow) 42 0
    then when (bad_units (filter_of format) source) 43 0
    then when (ltb room (length (encoded format level follow source))) 26 0

-- that block, or its refusal
unfoldable pub encode : ℕ → ℕ → ℕ → List ℕ → List ℕ → Result
encode room format level follow source =
    tested (encode_test room format level follow source) (encoded format level follow source)

-- the lent buffer afterwards: "changing nothing; success writes the block only"
abbrev pub out_after : Result → List ℕ → List ℕ
out_after result out = put_at 0 result.bytes out

-- "Encode after undo returns the block for 64, 65, 66, 72 (same level and follow bytes); not for 70, 71": what it asks
-- for a block of that filter
abbrev pub SameFor : Filter → List ℕ → ℕ → List ℕ → Type 0
SameFor Raw block level follow = ⊥
SameFor (Delta width) block level follow = level ≡ level_at block
SameFor (Narrow width) block level follow = ⊥
SameFor Follow block level follow = follow ≡ follow_at block
SameFor Other block level follow = ⊥
