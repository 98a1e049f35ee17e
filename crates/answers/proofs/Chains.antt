-- A chain of tests met one test at a time, as code makes them: one that refuses ends the chain, one that accepts hands
-- on. Assumes nothing.
use Prim.Native.Nat.{ℕ, ◌+◌, ◌-◌, ◌≤◌, ◌<◌}
use mathlib.Core.Path.{◌≡◌, sym, ap, ◌∙◌}
use mathlib.Core.Bool.{Bool, true, false, not, ◌&&◌, ◌||◌}
use native.Mathlib.Omega.{arith}
use lib.Dec.{ltb, eqb}
use borrow.Author.Tests.{lt-ltb, le-ltb, eq-eqb, ne_eqb}
use Rattle.std.specs.Prelude.{Result, Ok, Err}
use Rattle.std.specs.Result.{IsErr, IsErrAnd}
use Rattle.answers.specs.declared.Refusal.{Refusal}
use Rattle.answers.specs.Causes.{number}
use Rattle.answers.specs.Answer.{Answer, Accepted, Refused, answer_of, when, stopped, ◌then◌}

-- a test that gave x
module _ (a rest : Answer) {x : Answer} (e : x ≡ a) where
  pub refuses : {n p : ℕ} → x ≡ Refused n p → x ≡ (a then rest)
  unfolding ◌then◌
  refuses f = rw (← e, f)

  pub accepts : x ≡ Accepted → {y : Answer} → y ≡ rest → y ≡ (a then rest)
  unfolding ◌then◌
  accepts f g = rw (← e, f) g

-- a test that a `?` follows: it hands on where the test accepts, and hands back what the test refuses with
module _ (a rest : Answer) where
  pub handed_on : Accepted ≡ a → {y : Answer} → y ≡ rest → y ≡ (a then rest)
  unfolding ◌then◌
  handed_on e f = rw (← e) f

  pub handed_back : {n p : ℕ} → Refused n p ≡ a → {y : Answer} → y ≡ Refused n p → y ≡ (a then rest)
  unfolding ◌then◌
  handed_back e f = rw (← e) f

pub returned : {T : Type 0} (r : Result T Refusal) (e : Refusal) → IsErr r × IsErrAnd r (λ x. x ≡ e) → answer_of r ≡ Refused (number e.0) e.1
returned (Ok x) e (h, k) = absurd k
returned (Err x) e (h, k) = rw k

-- a condition, in front of the rest and as the last test
module _ (t : Bool) (n p : ℕ) where
  pub holds : (rest : Answer) → t ≡ true → Refused n p ≡ (when t n p then rest)
  unfolding ◌then◌ when
  holds rest e = rw e

  pub passes : (rest : Answer) → t ≡ false → {y : Answer} → y ≡ rest → y ≡ (when t n p then rest)
  unfolding ◌then◌ when
  passes rest e f = rw e f

  pub holds_last : t ≡ true → Refused n p ≡ when t n p
  unfolding when
  holds_last e = rw e

  pub passes_last : t ≡ false → Accepted ≡ when t n p
  unfolding when
  passes_last e = rw e

-- a scan that came to x
module _ (n scan end : ℕ) {x : ℕ} (e : x ≡ scan) where
  pub stops : (rest : Answer) → x < end → Refused n x ≡ (stopped n scan end then rest)
  unfolding ◌then◌ when
  stops rest h = rw (← e, lt-ltb x end h)

  pub reaches : (rest : Answer) → end ≤ x → {y : Answer} → y ≡ rest → y ≡ (stopped n scan end then rest)
  unfolding ◌then◌ when
  reaches rest h f = rw (← e, le-ltb x end h) f

  pub stops_last : x < end → Refused n x ≡ stopped n scan end
  unfolding when
  stops_last h = rw (← e, lt-ltb x end h)

  pub reaches_last : end ≤ x → Accepted ≡ stopped n scan end
  unfolding when
  reaches_last h = rw (← e, le-ltb x end h)

-- a condition by what a call gave: s itself, or one of the numbers that it compares
module _ (s : Bool) {t v : Bool} (e : t ≡ s) where
  pub told : t ≡ v → s ≡ v
  told f = sym e ∙ f

  pub not_told : not t ≡ v → not s ≡ v
  not_told f = rw (← e) f

  pub and_told : (r : Bool) → (t && r) ≡ v → (s && r) ≡ v
  and_told r f = rw (← e) f

module _ (x y : ℕ) where
  pub differ : (x ≡ y → ⊥) → not (eqb x y) ≡ true
  differ h = ap not (ne_eqb x y h)

  pub same : x ≡ y → not (eqb x y) ≡ false
  same h = ap not (eq-eqb x y h)

  module _ {u : ℕ} (e : u ≡ x) where
    pub told_under : u < y → ltb x y ≡ true
    told_under h = rw (← e) (lt-ltb u y h)

    pub told_not_under : y ≤ u → ltb x y ≡ false
    told_not_under h = rw (← e) (le-ltb u y h)

    pub told_differ : (u ≡ y → ⊥) → not (eqb x y) ≡ true
    told_differ h = rw (← e) (ap not (ne_eqb u y h))

    pub told_same : u ≡ y → not (eqb x y) ≡ false
    told_same h = rw (← e) (ap not (eq-eqb u y h))

  module _ {u : ℕ} (e : u ≡ y) where
    pub under_told : x < u → ltb x y ≡ true
    under_told h = rw (← e) (lt-ltb x u h)

    pub not_under_told : u ≤ x → ltb x y ≡ false
    not_under_told h = rw (← e) (le-ltb x u h)

    pub differ_told : (x ≡ u → ⊥) → not (eqb x y) ≡ true
    differ_told h = rw (← e) (ap not (ne_eqb x u h))

    pub same_told : x ≡ u → not (eqb x y) ≡ false
    same_told h = rw (← e) (ap not (eq-eqb x u h))

-- one of two conditions, or neither
pub or_first : (s t : Bool) → s ≡ true → (s || t) ≡ true
or_first s t e = rw e

pub or_second : (s t : Bool) → s ≡ false → t ≡ true → (s || t) ≡ true
or_second s t e f = rw e f

pub or_neither : (s t : Bool) → s ≡ false → t ≡ false → (s || t) ≡ false
or_neither s t e f = rw e f

-- a sum against a limit m, tested so that no sum wraps: the first summand, then the other against what that leaves
module _ (m f k : ℕ) where
  pub over_first : m < f → ltb m (f + k) ≡ true
  over_first h = lt-ltb m (f + k) (omega arith)

  pub over_second : f ≤ m → m - f < k → ltb m (f + k) ≡ true
  over_second h l = lt-ltb m (f + k) (omega arith)

  pub not_over : f ≤ m → k ≤ m - f → ltb m (f + k) ≡ false
  not_over h l = le-ltb m (f + k) (omega arith)

-- For `search`, which finds what the code's tests gave: `onward` where each of them hands on, `refusal` where the last
-- of them refuses. Each test on the way takes one of the search's depth.
pub ruleset onward = (accepts, handed_on, passes, passes_last, reaches, reaches_last, le-ltb, ne_eqb, same, told, not_told, and_told, told_not_under, told_same, not_under_told, same_told, or_neither)

pub ruleset refusal = (onward, refuses, handed_back, returned, holds, holds_last, stops, stops_last, lt-ltb, eq-eqb, differ, told_under, told_differ, under_told, differ_told, or_first, or_second)
