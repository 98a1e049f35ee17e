-- One correction, for every buffer, every stated length and every record. Assumes nothing: these are definitions.
use Rattle.std.specs.Prelude.{ℕ, max, List, length, take, ltb}
use Rattle.octets.specs.Parts.{filled_front}
use Rattle.answers.specs.Answer.{Answer, when, accepted_or, ◌then◌}
use Rattle.sff_format.specs.Writing.{Outcome}
use Rattle.sff_format.specs.Model.{layout}
use Rattle.sff_format.specs.FileTest.{file_test}
use Rattle.sff_format.specs.Parse.{parse}
use Rattle.sff_format.specs.Writing.{outcome}
use Rattle.correction_format.specs.Record.{record_test}
use Rattle.correction_format.specs.RecordLayout.{parse_record}
use Rattle.correction_format.specs.Edit.{edited}
use Rattle.correction_format.specs.Reasons.{reasons}

-- "Order, place 0 for the record's own: 14; 20 ..; the file's refusal; 21 ..; 22 ..; 25 ..; 23 ..; 24 ..; 26 no room.
-- None is given otherwise."
unfoldable pub correct_test : List ℕ → ℕ → List ℕ → Answer
correct_test buffer len «record» =
    when (ltb (length buffer) len) 14 0
    then record_test «record»
    then file_test (take len buffer)
    then reasons (length buffer) (parse_record «record») (parse (take len buffer))

-- the file written afresh from its reads, with the one of the record changed or left out
abbrev pub corrected : List ℕ → ℕ → List ℕ → List ℕ
corrected buffer len «record» = layout (edited (parse_record «record») (parse (take len buffer)))

-- the answer, and "the file's length afterwards (the length given if nothing is done)"
unfoldable pub correct_outcome : List ℕ → ℕ → List ℕ → Outcome
correct_outcome buffer len «record» = outcome (correct_test buffer len «record») len (length (corrected buffer len «record»))

-- the file `new` over one of length `len`: "If the file shrinks, bytes from new to old length become 0; all beyond the
-- longer of the two keep their contents"
abbrev pub file_replaced : List ℕ → ℕ → List ℕ → List ℕ
file_replaced new len buffer = filled_front new (max len (length new)) buffer

-- the whole buffer: as it was where the correction is refused
unfoldable pub correct_buffer : List ℕ → ℕ → List ℕ → List ℕ
correct_buffer buffer len «record» = accepted_or (correct_test buffer len «record») (file_replaced (corrected buffer len «record») len buffer) buffer
