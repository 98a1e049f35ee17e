-- What the record's tests say of bytes and lengths as the code has them. Assumes nothing.
use Prim.Native.Nat.{ℕ, ◌+◌, ◌-◌, ◌≤◌}
use mathlib.Core.Path.{◌≡◌, sym, ◌∙◌}
use mathlib.Core.Bool.{Bool, true, false, cond}
use mathlib.Core.List.{List}
use native.Mathlib.Omega.{arith}
use native.Mathlib.Nat.{add-sub_cancel_left}
use Rattle.octets.specs.Parts.{part}
use Rattle.octets.specs.Scans.{fails, is_zero}
use Rattle.answers.specs.Answer.{Answer, Accepted, Refused, when, ◌then◌}
use Rattle.answers.proofs.Chains.{handed_on, handed_back}
use Rattle.correction_format.specs.Record.{name_field_test, unused_test}

-- bytes from p to p + n
pub part-tested : (p n : ℕ) (r : List ℕ) (test : ℕ → Bool) {t v : Bool} → t ≡ fails test (part p (p + n - p) r) → t ≡ v
    → fails test (part p n r) ≡ v
part-tested p n r test e f = sym (rw add-sub_cancel_left at e) ∙ f

-- the zeros after a name of n bytes
pub zeros-after : (p n : ℕ) (r : List ℕ) {x : Answer} → n ≤ 40 → x ≡ unused_test (p + n) (p + 40 - (p + n)) r
    → x ≡ when (fails is_zero (part (p + n) (40 - n) r)) 20 0
unfolding unused_test
zeros-after p n r h e = let w : p + 40 - (p + n) ≡ 40 - n = omega arith in rw w at e

-- a name of m bytes, tested by the length n that a call gave
module _ (p m : ℕ) (r : List ℕ) {n : ℕ} (e : n ≡ m) {x : Answer} (f : x ≡ name_field_test p n r) where
  pub name-tested : x ≡ name_field_test p m r
  name-tested = rw (← e) f

-- the same of a test that a `?` follows: it hands back what it refuses with, and else hands on
module _ (p m : ℕ) (r : List ℕ) (rest : Answer) {n : ℕ} (e : n ≡ m) {y : Answer} where
  pub name_refuses : {k q : ℕ} → Refused k q ≡ name_field_test p n r → y ≡ Refused k q → y ≡ (name_field_test p m r then rest)
  name_refuses f g = handed_back _ rest (rw e at f) g

  pub name_accepts : Accepted ≡ name_field_test p n r → y ≡ rest → y ≡ (name_field_test p m r then rest)
  name_accepts f g = handed_on _ rest (rw e at f) g

-- what the kind leaves unused is tested
module _ (t : Bool) (a b : Answer) {x : Answer} where
  pub used : t ≡ true → x ≡ a → x ≡ cond t a b
  used e f = rw e f

  pub unused : t ≡ false → x ≡ b → x ≡ cond t a b
  unused e f = rw e f
