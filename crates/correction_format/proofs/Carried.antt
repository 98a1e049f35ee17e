-- One correction, refused or carried out: what is answered, and what is left. Assumes nothing.
use Prim.Native.Nat.{ℕ, ◌≤◌, max}
use mathlib.Core.Path.{◌≡◌, ◌∙◌}
use mathlib.Core.List.{List}
use native.Mathlib.Omega.{arith}
use borrow.Author.Tests.{le-ltb}
use lib.ListN.{length, take}
use Rattle.octets.specs.Numbers.{Bytes}
use Rattle.octets.proofs.FilledFront.{take_filled_front, length_filled_front}
use Rattle.answers.specs.Answer.{Accepted, Refused, when, accepted_or, ◌then◌}
use Rattle.sff_format.specs.Valid.{Valid}
use Rattle.sff_format.specs.FileTest.{file_test}
use Rattle.sff_format.specs.Parse.{parse}
use Rattle.answers.proofs.Answers.{first-ok, second-ok, under_ok}
use Rattle.sff_format.proofs.FileLaid.{file_valid}
use Rattle.sff_format.proofs.FileTaken.{file_taken, file-back}
use Rattle.correction_format.specs.Record.{record_test}
use Rattle.correction_format.specs.RecordLayout.{parse_record}
use Rattle.correction_format.specs.Edit.{edited}
use Rattle.correction_format.specs.Reasons.{reasons}
use Rattle.correction_format.specs.Correct.{correct_test, corrected, correct_outcome, file_replaced, correct_buffer}
use Rattle.correction_format.proofs.RecordsLaid.{parsed_valid}
use Rattle.correction_format.proofs.Edited.{reasons_room, edited_valid}

module _ (buffer : List ℕ) (len : ℕ) (r : List ℕ) where
  -- refused: nothing is done
  module _ {n p : ℕ} (e : correct_test buffer len r ≡ Refused n p) where
    pub refused_outcome : correct_outcome buffer len r ≡ record { answer = Refused n p; length = len }
    unfolding correct_outcome accepted_or
    refused_outcome = rw e

    pub refused_buffer : correct_buffer buffer len r ≡ buffer
    unfolding correct_buffer accepted_or
    refused_buffer = rw e

  -- carried out: no reason holds, and the file is written afresh
  module _ (e : correct_test buffer len r ≡ Accepted) where
    pub test_inside : len ≤ length buffer
    unfolding correct_test
    test_inside = under_ok _ _ _ _ (first-ok _ _ e)

    pub test_record : record_test r ≡ Accepted
    unfolding correct_test
    test_record = first-ok _ _ (second-ok _ _ e)

    pub test_file : file_test (take len buffer) ≡ Accepted
    unfolding correct_test
    test_file = first-ok _ _ (second-ok _ _ (second-ok _ _ e))

    pub test_reasons : reasons (length buffer) (parse_record r) (parse (take len buffer)) ≡ Accepted
    unfolding correct_test
    test_reasons = second-ok _ _ (second-ok _ _ (second-ok _ _ e))

    pub done-outcome : correct_outcome buffer len r ≡ record { answer = Accepted; length = length (corrected buffer len r) }
    unfolding correct_outcome accepted_or
    done-outcome = rw e

    pub done-buffer : correct_buffer buffer len r ≡ file_replaced (corrected buffer len r) len buffer
    unfolding correct_buffer accepted_or
    done-buffer = rw e

    pub done-fits : length (corrected buffer len r) ≤ length buffer
    done-fits = reasons_room (length buffer) (parse_record r) (parse (take len buffer)) test_reasons

    pub done-length : length (file_replaced (corrected buffer len r) len buffer) ≡ length buffer
    done-length =
        let f = done-fits in
        let i = test_inside in
        length_filled_front (corrected buffer len r) (max len (length (corrected buffer len r))) buffer (omega arith) (omega arith)

    pub done-front : take (length (corrected buffer len r)) (file_replaced (corrected buffer len r) len buffer) ≡ corrected buffer len r
    done-front = take_filled_front (corrected buffer len r) (max len (length (corrected buffer len r))) buffer

    module _ (y : Bytes (take len buffer)) (z : Bytes r) where
      pub done_valid : Valid (edited (parse_record r) (parse (take len buffer)))
      done_valid = edited_valid (length buffer) (parse_record r) (parse (take len buffer)) test_reasons (parsed_valid r z test_record) (file_valid (take len buffer) y test_file)

      -- the next record meets an accepted file
      pub done-accepted : file_test (take (length (corrected buffer len r)) (file_replaced (corrected buffer len r) len buffer)) ≡ Accepted
      done-accepted = rw done-front (file_taken (edited (parse_record r) (parse (take len buffer))) done_valid)

      pub done_parsed : parse (take (length (corrected buffer len r)) (file_replaced (corrected buffer len r) len buffer)) ≡ edited (parse_record r) (parse (take len buffer))
      done_parsed = rw done-front (file-back (edited (parse_record r) (parse (take len buffer))) done_valid)

-- the tests in order, for the code: each where those before it accept
module _ (buffer : List ℕ) (len : ℕ) (r : List ℕ) where
  module _ (h : len ≤ length buffer) where
    pub test_from_20 : correct_test buffer len r ≡ (record_test r then file_test (take len buffer) then reasons (length buffer) (parse_record r) (parse (take len buffer)))
    unfolding correct_test ◌then◌ when
    test_from_20 = rw (le-ltb (length buffer) len h)

    module _ (q : record_test r ≡ Accepted) where
      pub test_from_file : correct_test buffer len r ≡ (file_test (take len buffer) then reasons (length buffer) (parse_record r) (parse (take len buffer)))
      unfolding ◌then◌
      test_from_file = test_from_20 ∙ rw q

      pub test_from_21 : file_test (take len buffer) ≡ Accepted → correct_test buffer len r ≡ reasons (length buffer) (parse_record r) (parse (take len buffer))
      unfolding ◌then◌
      test_from_21 t = test_from_file ∙ rw t
