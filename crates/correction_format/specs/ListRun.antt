-- A list of records, run in turn. Assumes nothing: these are definitions.
use Rattle.std.specs.Prelude.{ℕ, zero, suc, ◌*◌, ◌/◌, ◌%◌, cond, List, length, take, eqb}
use Rattle.octets.specs.Parts.{part}
use Rattle.correction_format.specs.declared.ListOutcome as code
use Rattle.answers.specs.Answer.{Answer, Accepted, Refused, answer_of, accepted_or}
use Rattle.correction_format.specs.Correct.{correct_test, correct_outcome, correct_buffer}

-- "A list is records of 96 bytes, no header": the record at position k of the list
abbrev pub record_at : ℕ → List ℕ → List ℕ
record_at k list = part (96 * k) 96 list

-- its first k records
abbrev pub first_records : ℕ → List ℕ → List ℕ
first_records k list = take (96 * k) list

-- what a list run answers: how many records were carried out, and the answer and the file's length that the last record
-- tried was given
pub record ListOutcome : Type 0 where
  pub count : ℕ
  pub answer : Answer
  pub length : ℕ

-- what the code's form of it says
abbrev pub list_outcome_of : code.ListOutcome → ListOutcome
list_outcome_of outcome = record { count = outcome.count; answer = answer_of outcome.answer; length = outcome.length }

-- what a run leaves: its answer and the buffer
pub record Run : Type 0 where
  pub outcome : ListOutcome
  pub buffer : List ℕ

abbrev pub ran : ℕ → Answer → ℕ → List ℕ → Run
ran count answer len buffer = record { outcome = record { count = count; answer = answer; length = len }; buffer = buffer }

-- "Records run in turn, each on the buffer and length that the one before left .. The first refusal ends it; earlier
-- ones stand. The answer has their count and the number, place and length of the last record tried." m records are
-- left, and the next is at position k
unfoldable pub turns : ℕ → ℕ → List ℕ → ℕ → List ℕ → Run
turns zero k buffer len list = ran k Accepted len buffer
turns (suc m) k buffer len list =
    let «record» = record_at k list in
    let outcome = correct_outcome buffer len «record» in
    let more = turns m (suc k) (correct_buffer buffer len «record») outcome.length list in
    accepted_or (correct_test buffer len «record») more (ran k outcome.answer outcome.length (correct_buffer buffer len «record»))

-- "A list's length is a multiple of 96, else 20 before all else, with nothing done"
unfoldable pub run_list : List ℕ → ℕ → List ℕ → Run
run_list buffer len list =
    cond (eqb (length list % 96) 0) (turns (length list / 96) 0 buffer len list) (ran 0 (Refused 20 0) len buffer)
