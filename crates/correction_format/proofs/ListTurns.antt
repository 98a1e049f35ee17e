-- One turn of a list run. Assumes nothing.
use Prim.Native.Nat.{ℕ, suc, ◌/◌, ◌%◌}
use mathlib.Core.Path.{◌≡◌, ◌∙◌}
use mathlib.Core.List.{List}
use lib.ListN.{length}
use borrow.Author.Tests.{eq-eqb, ne_eqb}
use Rattle.answers.specs.Answer.{Accepted, Refused, accepted_or}
use Rattle.correction_format.specs.Correct.{correct_test, corrected, file_replaced}
use Rattle.correction_format.specs.ListRun.{record_at, ran, turns, run_list}
use Rattle.correction_format.proofs.Carried.{refused_outcome, refused_buffer, done-outcome, done-buffer}

module _ (m k : ℕ) (buffer : List ℕ) (len : ℕ) (l : List ℕ) where
  pub turn_on : correct_test buffer len (record_at k l) ≡ Accepted
      → turns (suc m) k buffer len l ≡ turns m (suc k) (file_replaced (corrected buffer len (record_at k l)) len buffer) (length (corrected buffer len (record_at k l))) l
  unfolding turns accepted_or
  turn_on e = rw (e, done-buffer buffer len (record_at k l) e, done-outcome buffer len (record_at k l) e)

  pub turn_stop : (n p : ℕ) → correct_test buffer len (record_at k l) ≡ Refused n p → turns (suc m) k buffer len l ≡ ran k (Refused n p) len buffer
  unfolding turns accepted_or
  turn_stop n p e = rw (e, refused_buffer buffer len (record_at k l) e, refused_outcome buffer len (record_at k l) e)

-- what comes before the first turn
module _ (buffer : List ℕ) (len : ℕ) (l : List ℕ) where
  pub list_20 : (length l % 96 ≡ 0 → ⊥) → run_list buffer len l ≡ ran 0 (Refused 20 0) len buffer
  unfolding run_list
  list_20 h = rw (ne_eqb (length l % 96) 0 h)

  pub list_run : length l % 96 ≡ 0 → run_list buffer len l ≡ turns (length l / 96) 0 buffer len l
  unfolding run_list
  list_run h = rw (eq-eqb (length l % 96) 0 h)

  pub list_none : length l % 96 ≡ 0 → length l / 96 ≡ 0 → run_list buffer len l ≡ ran 0 Accepted len buffer
  unfolding turns
  list_none h z = list_run h ∙ rw z
