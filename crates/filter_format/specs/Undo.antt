-- Undoing: one layer alone, and layer after layer until format 0. Assumes nothing: these are definitions.
use Rattle.std.specs.Prelude.{ℕ, zero, suc, min, cond, not, ◌&&◌, List, [], length, eqb}
use Rattle.octets.specs.Parts.{filled}
use Rattle.answers.specs.Answer.{Answer, Accepted, when, ◌then◌, accepted_or}
use Rattle.filter_format.specs.Block.{filter_at, is_raw, is_filter, contents_test, undone}

-- the result of a call: its answer, and the bytes that it makes, none where it refuses
pub record Result : Type 0 where
  pub answer : Answer
  pub bytes : List ℕ

-- carried out, and refused
abbrev pub making : List ℕ → Result
making bytes = record { answer = Accepted; bytes = bytes }

abbrev pub refusing : Answer → Result
refusing answer = record { answer = answer; bytes = [] }

-- the bytes where the test accepts, else its refusal
abbrev pub tested : Answer → List ℕ → Result
tested answer bytes = accepted_or answer (making bytes) (refusing answer)

-- "Undoing uses two lent buffers, room being the shorter length"
abbrev pub room_of : List ℕ → List ℕ → ℕ
room_of first second = min (length first) (length second)

-- "Order per layer: 40 empty block; 41 other format; 44 a ninth filter;" then the tests of the contents. `left` filters
-- may still be opened
unfoldable pub block_test : ℕ → ℕ → List ℕ → Answer
block_test left room block =
    when (eqb (length block) 0) 40 0
    then when (not (is_raw (filter_at block)) && not (is_filter (filter_at block))) 41 0
    then when (is_filter (filter_at block) && eqb left 0) 44 0
    then contents_test (filter_at block) room block

-- "Undoing a filter gives another block, until format 0. An opened layer hands its block to the choice of format, which
-- opens the next layer"
unfoldable pub undo_from : ℕ → ℕ → List ℕ → Result
undo_from zero room block = tested (block_test 0 room block) (undone (filter_at block) block)
undo_from (suc left) room block =
    accepted_or (block_test (suc left) room block)
    (cond (is_raw (filter_at block)) (making (undone (filter_at block) block))
    (undo_from left room (undone (filter_at block) block)))
    (refusing (block_test (suc left) room block))

-- "eight at most"
abbrev pub most_filters : ℕ
most_filters = 8

-- a whole block, undone until format 0
abbrev pub undo : ℕ → List ℕ → Result
undo room block = undo_from most_filters room block

-- what a filter answers: its refusal or none, and how many bytes it made
pub record Filtered : Type 0 where
  pub answer : Answer
  pub made : ℕ

-- what a call answers: "a filter the number of bytes it made (refused: 0)"
abbrev pub filtered : Result → Filtered
filtered result = record { answer = result.answer; made = length result.bytes }

-- what the two buffers hold afterwards: "On success the first buffer holds the data, then zeros; the other is zero. A
-- refusal zeroes both"
abbrev pub first_after : Result → List ℕ → List ℕ
first_after result first = filled (length first) result.bytes

abbrev pub second_after : List ℕ → List ℕ
second_after second = filled (length second) []

-- "One layer of these six formats (any other is 41) can be undone alone, with the same refusals and buffers"
unfoldable pub layer_test : ℕ → List ℕ → Answer
layer_test room block =
    when (eqb (length block) 0) 40 0
    then when (not (is_filter (filter_at block))) 41 0
    then contents_test (filter_at block) room block

unfoldable pub undo_layer : ℕ → List ℕ → Result
undo_layer room block = tested (layer_test room block) (undone (filter_at block) block)
