-- Document 01's "Correction records" and "Order": what a record says, and the reasons as tests and in words. Assumes
-- nothing.
use Prim.Native.Nat.{ℕ, ◌≤◌}
use mathlib.Core.Path.{◌≡◌}
use mathlib.Core.Bool.{Bool, true, false, ◌&&◌}
use mathlib.Core.List.{List}
use borrow.Author.Tests.{le-ltb}
use lib.ListN.{length}
use Rattle.octets.specs.Numbers.{Bytes}
use Rattle.answers.specs.Answer.{Accepted}
use Rattle.answers.specs.Rows.{RowByRow}
use Rattle.sff_format.specs.Model.{File}
use Rattle.correction_format.specs.Record.{record_test}
use Rattle.correction_format.specs.Correction.{Correction, ValidCorrection}
use Rattle.correction_format.specs.RecordLayout.{layout_record, parse_record}
use Rattle.correction_format.specs.Reasons.{has_target, other_name, clip_above, name_taken, no_room, reason_rows}
use Rattle.correction_format.specs.InOrder.{correction_reasons}
use Rattle.correction_format.proofs.RecordsLaid.{parsed_valid, parsed_laid, record_taken, laid_parsed}
use Rattle.correction_format.proofs.InOrder.{rows_agree}

-- A well-formed record says one correction, which keeps the rules and is laid out as that record.
-- Shuts out:
--   - a record of which one clip is read at another's place (correction_format/clip_of_another_place)
pub what_a_record_says : («record» : List ℕ) → Bytes «record» → record_test «record» ≡ Accepted
    → ValidCorrection (parse_record «record») × (layout_record (parse_record «record») ≡ «record»)
what_a_record_says «record» y e = (parsed_valid «record» y e, parsed_laid «record» y e)

-- And the record of a correction that keeps the rules is well formed and says it.
pub the_record_of : (correction : Correction) → ValidCorrection correction
    → (record_test (layout_record correction) ≡ Accepted) × (parse_record (layout_record correction) ≡ correction)
the_record_of correction v = (record_taken correction v, laid_parsed correction v)

-- The correction's own reasons as tests (21, 22, 25, 23, 24, 26, in this order) and in words of the model agree row by
-- row.
-- Shuts out:
--   - a test in another's row (correction_format/index_before_name)
--   - a test that asks for the name of a read that is not there (correction_format/name_of_no_read)
pub tests_agree : (room : ℕ) (correction : Correction) (content : File)
    → RowByRow (reason_rows room correction content) (correction_reasons room correction content)
tests_agree = rows_agree

-- Without a read at the position only 21 and 25 can hold: the others speak of that read.
pub without_a_read : (room : ℕ) (correction : Correction) (content : File)
    → length content.reads ≤ correction.position
    → (other_name room correction content ≡ false) × (clip_above room correction content ≡ false)
    × (name_taken room correction content ≡ false) × (no_room room correction content ≡ false)
unfolding other_name clip_above name_taken no_room
without_a_read room correction content h =
    let e : has_target correction content ≡ false = le-ltb correction.position (length content.reads) h in
    (rw e, rw e, rw e, rw e)
