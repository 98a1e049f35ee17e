-- What `correct` prints of a list run, and whether it writes a new file. Assumes nothing: these are definitions.
use Rattle.std.specs.Prelude.{ℕ, Bool, true, List, [], ◌++◌, ltb}
use Rattle.answers.specs.Answer.{Answer, Accepted, Refused, number_of, place_of, accepted_or}
use Rattle.correction_format.specs.ListRun.{ListOutcome}
use Rattle.lines.specs.Lines.{refusal_line, answer_line}

-- "The answer has their count and the number, place and length of the last record tried"
abbrev pub answered : ListOutcome → List ℕ
answered outcome =
    answer_line outcome.count (number_of outcome.answer) (place_of outcome.answer) outcome.length

-- a refusal's line, as the lister prints it
unfoldable pub refusal : Answer → List ℕ
refusal Accepted = []
refusal (Refused number place) = refusal_line number place

-- the answer, then the refusal if there is one
unfoldable pub reported : ListOutcome → List ℕ
reported outcome = answered outcome ++ refusal outcome.answer

-- a new file is written where the list, or some of its records, were carried out
unfoldable pub is_written : ListOutcome → Bool
is_written outcome = accepted_or outcome.answer true (ltb 0 outcome.count)
