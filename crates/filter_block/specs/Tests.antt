-- Words of this crate's contracts: a part of a block's tests, and what undoing a filter asks. Assumes nothing: these
-- are definitions.
use Rattle.std.specs.Prelude.{ℕ, ◌≤◌, ◌≡◌, false, List, length, ltb}
use Rattle.answers.specs.Answer.{Answer, when, ◌then◌}
use Rattle.filter_format.specs.declared.Filter.{Filter}
use Rattle.filter_format.specs.Block.{HasUnitWidth, header_length, data_at, bad_data, undone}

-- the tests of the data and of the room, the end of `contents_test`
unfoldable pub data_test : Filter → ℕ → List ℕ → Answer
data_test filter room block =
    when (bad_data filter (data_at filter block)) 43 0
    then when (ltb room (length (undone filter block))) 26 0

-- what undoing the filter of a block asks, and the tests give: the block is right, and its result has room
abbrev pub Undoable : Filter → List ℕ → ℕ → Type 0
Undoable filter block room =
    (HasUnitWidth filter) × (header_length filter ≤ length block) × (bad_data filter (data_at filter block) ≡ false)
    × (length (undone filter block) ≤ room)
