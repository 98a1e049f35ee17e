-- One correction by its number: 0 exactly if no reason holds; what is left with 0, and with any other. Assumes nothing.
use Prim.Native.Nat.{ℕ, ◌+◌, ◌≤◌}
use mathlib.Core.Path.{◌≡◌, refl, sym, ap, ◌∙◌}
use mathlib.Core.Logic.{◌↔◌}
use mathlib.Core.List.{List, ◌++◌}
use lib.ListN.{length, take, drop}
use Rattle.octets.specs.Parts.{put_at}
use Rattle.octets.specs.Numbers.{Bytes, bytes_of}
use Rattle.octets.proofs.AllBytes.{bytes_take}
use Rattle.answers.specs.Answer.{Answer, Accepted, Refused, number_of, Among}
use Rattle.answers.specs.Reasons.{NoneHolds, FirstHolds}
use Rattle.answers.proofs.Reasons.{none_accepted}
use Rattle.sff_format.specs.Model.{no_index, layout_read, layout_reads}
use Rattle.sff_format.specs.Valid.{Valid}
use Rattle.sff_format.specs.Writing.{write_each}
use Rattle.sff_format.proofs.Writers.{write_each_lem}
use Rattle.sff_format.specs.Parse.{parse}
use Rattle.sff_format.specs.Places.{read_place}
use Rattle.correction_format.specs.Record.{position}
use Rattle.correction_format.specs.RecordLayout.{change_in, parse_record}
use Rattle.correction_format.specs.Edit.{replacement, target, edited}
use Rattle.correction_format.specs.InOrder.{reasons_against}
use Rattle.correction_format.specs.Numbers.{correct_numbers}
use Rattle.correction_format.specs.Correct.{correct_test, corrected, correct_outcome, file_replaced, correct_buffer}
use Rattle.correction_format.proofs.RecordsLaid.{parsed_valid}
use Rattle.correction_format.proofs.InOrder.{correct-judged, correct-numbers, correct_zero}
use Rattle.correction_format.proofs.EditedBytes.{sections_kept}
use Rattle.correction_format.proofs.Carried.{test_file, test_record, test_reasons, refused_outcome, refused_buffer, done-outcome, done-buffer, done_valid, done-front}

module _ (buffer : List ℕ) (len : ℕ) («record» : List ℕ) where
  -- the answer is that of the tests in order
  answer_is : (correct_outcome buffer len «record»).answer ≡ correct_test buffer len «record»
  unfolding correct_outcome
  answer_is = refl

  pub outcome-numbers : Among correct_numbers (correct_outcome buffer len «record»).answer
  outcome-numbers = rw answer_is (correct-numbers buffer len «record»)

  pub outcome_zero : number_of (correct_outcome buffer len «record»).answer ≡ 0
      → correct_test buffer len «record» ≡ Accepted
  outcome_zero e = correct_zero buffer len «record» (ap number_of (sym answer_is) ∙ e)

  pub refused_left : (number_of (correct_outcome buffer len «record»).answer ≡ 0 → ⊥)
      → ((correct_outcome buffer len «record»).length ≡ len) × (correct_buffer buffer len «record» ≡ buffer)
  refused_left h = go (correct_test buffer len «record») refl
    where
      go : (a : Answer) → correct_test buffer len «record» ≡ a
          → ((correct_outcome buffer len «record»).length ≡ len) × (correct_buffer buffer len «record» ≡ buffer)
      go Accepted e = absurd (h (ap number_of (answer_is ∙ e)))
      go (Refused n p) e = (rw (refused_outcome buffer len «record» e), refused_buffer buffer len «record» e)

  module _ (y : Bytes buffer) (z : Bytes «record») where
    pub first-answered : FirstHolds (reasons_against buffer len «record») (correct_outcome buffer len «record»).answer
    first-answered = rw answer_is (correct-judged buffer len «record» y z).first

    pub carried_exactly : (number_of (correct_outcome buffer len «record»).answer ≡ 0)
        ↔ NoneHolds (reasons_against buffer len «record»)
    carried_exactly = (
      (λ e. (correct-judged buffer len «record» y z).none (outcome_zero e)),
      (λ n. ap number_of (none_accepted (reasons_against buffer len «record») (correct_outcome buffer len «record»).answer first-answered n)),
    )

    module _ (e : number_of (correct_outcome buffer len «record»).answer ≡ 0) where
      pub carried_left : ((correct_outcome buffer len «record»).length ≡ length (corrected buffer len «record»))
          × (correct_buffer buffer len «record» ≡ file_replaced (corrected buffer len «record») len buffer)
      carried_left =
          (rw (done-outcome buffer len «record» (outcome_zero e)), done-buffer buffer len «record» (outcome_zero e))

      pub carried_valid : Valid (edited (parse_record «record») (parse (take len buffer)))
      carried_valid = done_valid buffer len «record» (outcome_zero e) (bytes_take len buffer y) z

      -- what stands before that read and after it keeps every byte but the count at 20
      pub carried_kept : take (correct_outcome buffer len «record»).length (correct_buffer buffer len «record»)
          ≡ put_at 20 (bytes_of 4 (length (edited (parse_record «record») (parse (take len buffer))).reads))
          (
          take (read_place (take len buffer) (position «record»)) (take len buffer)
          ++ (layout_reads (replacement (change_in «record») (target (parse_record «record») (parse (take len buffer)))) ++ drop (read_place (take len buffer) (position «record») + length (layout_read (target (parse_record «record») (parse (take len buffer))))) (take len buffer))
          )
      carried_kept =
          let t = outcome_zero e in
          rw (done-outcome buffer len «record» t, done-buffer buffer len «record» t, done-front buffer len «record» t)
          (sections_kept (length buffer) (parse_record «record») (take len buffer) (bytes_take len buffer y) (test_file buffer len «record» t) (parsed_valid «record» z (test_record buffer len «record» t)) (test_reasons buffer len «record» t))

      -- the writers leave the same bytes
      pub corrected-written : (parse (take len buffer)).index ≡ no_index → (other : List ℕ)
          → length (corrected buffer len «record») ≤ length other
          → write_each other (edited (parse_record «record») (parse (take len buffer)))
          ≡ record { outcome = correct_outcome buffer len «record»; buffer = put_at 0 (take (correct_outcome buffer len «record»).length (correct_buffer buffer len «record»)) other }
      unfolding edited
      corrected-written i other h =
          let t = outcome_zero e in
          write_each_lem (edited (parse_record «record») (parse (take len buffer))) i carried_valid other h
          ∙ rw (done-outcome buffer len «record» t, done-buffer buffer len «record» t, done-front buffer len «record» t)
