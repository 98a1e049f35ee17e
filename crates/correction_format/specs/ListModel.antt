-- A list of records over the model of the file, as its records have left it. Assumes nothing: these are definitions.
use Rattle.std.specs.Prelude.{ℕ, zero, suc, ◌/◌, ◌%◌, max, cond, not, List, ◌∷◌, length, take, ltb, eqb}
use Rattle.octets.specs.Parts.{filled_front}
use Rattle.answers.specs.Answer.{Answer, Accepted, Refused, when, accepted_or, ◌then◌}
use Rattle.answers.specs.Reasons.{Reason}
use Rattle.sff_format.specs.Model.{File, layout}
use Rattle.sff_format.specs.FileTest.{file_test}
use Rattle.sff_format.specs.Parse.{parse}
use Rattle.correction_format.specs.Record.{record_test}
use Rattle.correction_format.specs.Correction.{Correction}
use Rattle.correction_format.specs.RecordLayout.{parse_record}
use Rattle.correction_format.specs.Edit.{edited}
use Rattle.correction_format.specs.Reasons.{reasons}
use Rattle.correction_format.specs.InOrder.{malformed, correction_reasons}
use Rattle.correction_format.specs.ListRun.{record_at, Run, ran}

-- the correction that the record at position k of the list says
abbrev pub correction_at : List ℕ → ℕ → Correction
correction_at list k = parse_record (record_at k list)

-- the file as the first n of the corrections, one after the other, have left it
unfoldable pub file_after : ℕ → (ℕ → Correction) → File → File
file_after zero corrections content = content
file_after (suc n) corrections content = edited (corrections n) (file_after n corrections content)

-- the first reason against the record at position k "in its turn", in a buffer of so many bytes
unfoldable pub reason_for : ℕ → ℕ → List ℕ → File → Answer
reason_for room k list content = record_test (record_at k list) then reasons room (correction_at list k) (file_after k (correction_at list) content)

-- the same in words of the model: 14 and the file's refusal are not among them, since a record that was carried out
-- leaves an accepted file in the buffer
abbrev pub reasons_in_turn : ℕ → ℕ → List ℕ → File → List Reason
reasons_in_turn room k list content =
    malformed (record_at k list) ∷ correction_reasons room (correction_at list k) (file_after k (correction_at list) content)

-- the first of the m positions from k on for which a reason holds in its turn, or their end
unfoldable pub first_refused : ℕ → ℕ → ℕ → List ℕ → File → ℕ
first_refused zero k room list content = k
first_refused (suc m) k room list content =
    let more = first_refused m (suc k) room list content in
    accepted_or (reason_for room k list content) more k

-- the greatest length that the file had while the first n of the corrections were carried out
unfoldable pub greatest : ℕ → (ℕ → Correction) → File → ℕ
greatest zero corrections content = length (layout content)
greatest (suc n) corrections content =
    max (greatest n corrections content) (length (layout (file_after (suc n) corrections content)))

-- what the last record tried was answered, where n of `all` were carried out
unfoldable pub last_tried : ℕ → ℕ → ℕ → List ℕ → File → Answer
last_tried all n room list content = cond (ltb n all) (reason_for room n list content) Accepted

-- the whole answer and the whole buffer, where n of `all` records were carried out: the file written afresh, zeros up
-- to the greatest length, the rest as it was
abbrev pub run_on : ℕ → ℕ → List ℕ → List ℕ → File → Run
run_on all n buffer list content =
    let corrections = correction_at list in
    let new = layout (file_after n corrections content) in
    ran n (last_tried all n (length buffer) list content) (length new)
    (filled_front new (greatest n corrections content) buffer)

-- what is asked before any record's own reasons: 14, the first record's 20, the file's refusal
unfoldable pub first_test : List ℕ → ℕ → List ℕ → Answer
first_test buffer len list =
    when (ltb (length buffer) len) 14 0 then record_test (record_at 0 list) then file_test (take len buffer)

-- any list on any buffer with any stated length. "A list's length is a multiple of 96, else 20 before all else, with
-- nothing done"; "An empty list is carried out with count 0, the file untested and the length as given"; one that
-- `first_test` refuses does nothing; of any other the records before the first for which a reason holds are carried out
unfoldable pub list_afresh : List ℕ → ℕ → List ℕ → Run
list_afresh buffer len list =
    let all = length list / 96 in
    let content = parse (take len buffer) in
    cond (not (eqb (length list % 96) 0)) (ran 0 (Refused 20 0) len buffer)
    (
    cond (eqb (length list) 0) (ran 0 Accepted len buffer)
    (
    accepted_or (first_test buffer len list)
    (run_on all (first_refused all 0 (length buffer) list content) buffer list content)
    (ran 0 (first_test buffer len list) len buffer)
    )
    )
