-- What the header's fields show of its tests. Assumes nothing.
use Prim.Native.Nat.{ℕ, ◌<◌}
use mathlib.Core.Path.{◌≡◌, sym, ◌∙◌}
use mathlib.Core.Bool.{true, false, not}
use mathlib.Core.List.{List}
use lib.Dec.{ltb, eqb}
use lib.ListN.{length, get_or}
use Rattle.octets.specs.Parts.{up8}
use Rattle.octets.specs.Numbers.{number}
use Rattle.octets.proofs.Digits.{number_one}
use Rattle.answers.specs.Answer.{Answer, Accepted, when, ◌then◌}
use Rattle.answers.proofs.Answers.{second-ok, same_ok}
use Rattle.answers.proofs.Chains.{differ, same}
use Rattle.sff_format.specs.HeaderTest.{header_length, characters_end, fixed_test, characters_test, header_test}

-- a test whose answer is acceptance
pub accepted : (test : Answer) {x : Answer} → x ≡ test → x ≡ Accepted → test ≡ Accepted
accepted test e t = sym e ∙ t

-- what 5 asks, where the first tests accepted
pub length-good : (b : List ℕ) → Accepted ≡ fixed_test b → header_length b ≡ up8 (characters_end b)
unfolding fixed_test
length-good b e = same_ok _ _ _ _ (second-ok _ _ (second-ok _ _ (second-ok _ _ (sym e))))

-- the header's test, over its length as it was read
pub header_tested : (b : List ℕ) {n : ℕ} → n ≡ header_length b → {x : Answer} → x ≡
    (when (ltb (length b) 31) 1 0
    then fixed_test b
    then when (ltb (length b) n) 1 0
    then characters_test b)
    → x ≡ header_test b
unfolding header_test
header_tested b e f = rw (← e) f

-- a field of one byte, as the code reads it
module _ (b : List ℕ) (at y : ℕ) (fits : at < length b) where
  pub byte_differs : (get_or b at 0 ≡ y → ⊥) → not (eqb (number 1 at b) y) ≡ true
  byte_differs g = rw number_one (differ _ _ g)

  pub byte_is : get_or b at 0 ≡ y → not (eqb (number 1 at b) y) ≡ false
  byte_is g = rw number_one (same _ _ g)
