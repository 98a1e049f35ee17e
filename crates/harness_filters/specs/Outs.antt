-- What the filters' calls leave: what is lent to a call comes first, then the number that it answers and what it leaves
-- in the memory lent to it. Assumes nothing: these are definitions.
use Rattle.std.specs.Prelude.{ℕ, ◌≡◌, List, length}
use Rattle.answers.specs.Answer.{number_of}
use Rattle.filter_format.specs.Undo.{Result, room_of, first_after, second_after, undo, undo_layer}
use Rattle.filter_format.specs.Encode.{encode, out_after}
use Rattle.harness_filters.specs.Samples.{samples}

-- what an undoing with this result leaves: number of its answer, count of bytes and both buffers
abbrev pub UndoneWith : Result → List ℕ → List ℕ → ℕ → ℕ → List ℕ → List ℕ → Type 0
UndoneWith result first second number made first-after second-after =
    (number ≡ number_of result.answer)
    × (made ≡ length result.bytes)
    × (first-after ≡ first_after result first)
    × (second-after ≡ second_after second)

-- that of a whole block
abbrev pub Undone : List ℕ → List ℕ → List ℕ → ℕ → ℕ → List ℕ → List ℕ → Type 0
Undone block first second = UndoneWith (undo (room_of first second) block) first second

-- that of one layer
abbrev pub LayerUndone : List ℕ → List ℕ → List ℕ → ℕ → ℕ → List ℕ → List ℕ → Type 0
LayerUndone block first second = UndoneWith (undo_layer (room_of first second) block) first second

-- what a filter with this result leaves in one buffer: number of its answer, count of bytes and the buffer
abbrev pub FilteredWith : Result → List ℕ → ℕ → ℕ → List ℕ → Type 0
FilteredWith result out number made out-after =
    (number ≡ number_of result.answer) × (made ≡ length result.bytes) × (out-after ≡ out_after result out)

-- that of a block's encoding
abbrev pub Encoded : ℕ → ℕ → List ℕ → List ℕ → List ℕ → ℕ → ℕ → List ℕ → Type 0
Encoded format level follow source out = FilteredWith (encode (length out) format level follow source) out

-- that of SCF samples, encoded or undone
abbrev pub SamplesFiltered : ℕ → ℕ → List ℕ → List ℕ → ℕ → ℕ → List ℕ → Type 0
SamplesFiltered precision undone source out = FilteredWith (samples undone (length out) precision source) out
