-- The whole-file test: the header, then what each boundary asks. Assumes nothing: these are definitions.
use Rattle.std.specs.Prelude.{ℕ, zero, suc, ◌+◌, Bool, false, cond, not, ◌&&◌, ◌||◌, List, length, ltb, eqb}
use Rattle.answers.specs.Answer.{Answer, Accepted, when, ◌then◌}
use Rattle.sff_format.specs.Rules.{declared, index_size}
use Rattle.sff_format.specs.HeaderTest.{index_offset, index_length, read_count, header_length, flows, flow_characters, header_test}
use Rattle.sff_format.specs.ReadTest.{read_test, read_end}

-- "an index declared there and not yet passed"
unfoldable pub index_due : ℕ → ℕ → ℕ → Bool → Bool
index_due offset len place passed = not passed && (declared offset len && eqb place offset)

abbrev pub index_here : List ℕ → ℕ → Bool → Bool
index_here file place passed = index_due (index_offset file) (index_length file) place passed

-- "is passed (1 if cut short)"
unfoldable pub pass_test : List ℕ → ℕ → Answer
pass_test file place = when (ltb (length file) (place + index_size (index_length file))) 1 place

unfoldable pub index_test : List ℕ → ℕ → Bool → Answer
index_test file place passed = cond (index_here file place passed) (pass_test file place) Accepted

-- "to the boundary at its end"
unfoldable pub past_index : List ℕ → ℕ → Bool → ℕ
past_index file place passed = cond (index_here file place passed) (place + index_size (index_length file)) place

abbrev pub now_passed : List ℕ → ℕ → Bool → Bool
now_passed file place passed = passed || index_here file place passed

-- "the end: 13, then 12"
unfoldable pub end_test : List ℕ → ℕ → Bool → Answer
end_test file place passed =
    when (declared (index_offset file) (index_length file) && not passed) 13 8
    then when (ltb place (length file)) 12 place

-- "At each boundary: an index declared there and not yet passed is passed ..; else, if reads remain, a read is tested;
-- else the end", with n reads that remain
unfoldable pub boundary_test : List ℕ → ℕ → ℕ → Bool → Answer
boundary_test file zero place passed =
    index_test file place passed then end_test file (past_index file place passed) (now_passed file place passed)
boundary_test file (suc n) place passed =
    let at = past_index file place passed in
    let more = boundary_test file n (read_end (flows file) file at) (now_passed file place passed) in
    index_test file place passed then read_test (flow_characters file) file at then more

-- "Order of the file's tests": the header's, and the boundary at its end, with as many reads as the count says
unfoldable pub file_test : List ℕ → Answer
file_test file = header_test file then boundary_test file (read_count file) (header_length file) false
