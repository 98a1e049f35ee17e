-- SCF samples: either way undoes the other. Assumes nothing.
use mathlib.Core.Path.{◌≡◌, refl, ap, ◌∙◌}
use mathlib.Core.Bool.{Bool, true, false, not, ◌||◌}
use mathlib.Core.List.{List}
use Prim.Native.Nat.{ℕ, ◌%◌, ◌<◌, ◌≤◌}
use native.Mathlib.Omega.{arith}
use borrow.Author.Tests.{eqb-true, not-false}
use lib.Dec.{eqb}
use lib.ListN.{length}
use Rattle.octets.specs.Numbers.{Bytes}
use Rattle.answers.specs.Answer.{Accepted}
use Rattle.answers.proofs.Answers.{first-ok, second-ok, both_ok, when-ok, under_ok, ok_under, same_ok}
use Rattle.filter_format.specs.Units.{IsWidth}
use Rattle.filter_format.specs.Delta.{delta_bytes, undelta_bytes}
use Rattle.filter_format.specs.Undo.{making, tested}
use Rattle.filter_format.specs.Samples.{samples_test, encode_samples, undo_samples}
use Rattle.filter_format.proofs.Levels.{length-delta, length-undelta, undelta_delta_bytes, delta_undelta_bytes}
use Rattle.filter_format.proofs.Results.{tested_ok, tested_makes}

-- a precision that is one is a width
pub precision_width : (p : ℕ) → not (eqb p 1 || eqb p 2) ≡ false → IsWidth p
precision_width p e = go (eqb p 1) (eqb p 2) refl refl (not-false _ e)
  where
    go : (t u : Bool) → eqb p 1 ≡ t → eqb p 2 ≡ u → (t || u) ≡ true → IsWidth p
    go true u f g h = let k = eqb-true p 1 f in (omega arith, omega arith, λ q. omega arith)
    go false true f g h = let k = eqb-true p 2 g in (omega arith, omega arith, λ q. omega arith)
    go false false f g h = let z : ◌≡◌ {A = ℕ} 0 1 = cc in absurd (omega arith)

-- the tests, one by one
module _ (room precision : ℕ) (s : List ℕ) (ok : samples_test room precision s ≡ Accepted) where
  pub samples-width : IsWidth precision
  unfolding samples_test
  samples-width = precision_width precision (when-ok _ _ _ (first-ok _ _ ok))

  pub samples_whole : length s % precision ≡ 0
  unfolding samples_test
  samples_whole = same_ok (length s % precision) 0 _ _ (first-ok _ _ (second-ok _ _ ok))

  pub samples_fit : length s ≤ room
  unfolding samples_test
  samples_fit = under_ok room (length s) _ _ (second-ok _ _ (second-ok _ _ ok))

  -- other data of the same length are accepted with room enough
  samples-again : (room' : ℕ) (t : List ℕ) → length t ≡ length s → length s ≤ room' → samples_test room' precision t ≡ Accepted
  unfolding samples_test
  samples-again room' t e fits =
      rw e (both_ok _ _ (first-ok _ _ ok) (both_ok _ _ (first-ok _ _ (second-ok _ _ ok)) (ok_under room' (length s) _ _ fits)))

-- one way and back, over which is which
module _ (room room' precision : ℕ) (source : List ℕ) (y : Bytes source) (fits : length source ≤ room') where
  there_and_back : (there back : List ℕ → List ℕ)
      → (0 < precision → length source % precision ≡ 0 → (length (there source) ≡ length source) × (back (there source) ≡ source))
      → (tested (samples_test room precision source) (there source)).answer ≡ Accepted
      → tested (samples_test room' precision (tested (samples_test room precision source) (there source)).bytes)
      (back (tested (samples_test room precision source) (there source)).bytes)
      ≡ making source
  there_and_back there back h ok =
      let test = tested_ok (samples_test room precision source) (there source) ok in
      let k = h (samples-width room precision source test).0 (samples_whole room precision source test) in
      rw (tested_makes (samples_test room precision source) (there source) test)
      (tested_makes (samples_test room' precision (there source)) (back (there source)) (samples-again room precision source test room' (there source) k.0 fits) ∙ ap making k.1)

  pub undo_after_encode_samples : (encode_samples room precision source).answer ≡ Accepted
      → undo_samples room' precision (encode_samples room precision source).bytes ≡ making source
  unfolding encode_samples undo_samples
  undo_after_encode_samples ok =
      there_and_back (delta_bytes precision 2) (undelta_bytes precision 2)
      (λ p whole. (length-delta precision p source whole 2, undelta_delta_bytes precision p source whole y 2)) ok

  pub encode_after_undo_samples : (undo_samples room precision source).answer ≡ Accepted
      → encode_samples room' precision (undo_samples room precision source).bytes ≡ making source
  unfolding encode_samples undo_samples
  encode_after_undo_samples ok =
      there_and_back (undelta_bytes precision 2) (delta_bytes precision 2)
      (λ p whole. (length-undelta precision p source whole 2, delta_undelta_bytes precision p source whole y 2)) ok
