-- The laws of decimal digits: one more digit, how many there are, and the number that they spell. Assumes nothing.
use mathlib.Core.Path.{◌≡◌, refl, ap, ◌∙◌}
use mathlib.Core.List.{List, [], ◌∷◌, ◌++◌}
use mathlib.Core.Bool.{Bool, true, false, cond}
use Prim.Native.Nat.{ℕ, zero, suc, ◌+◌, ◌-◌, ◌*◌, ◌/◌, ◌%◌, ◌^◌, ◌≤◌, ◌<◌}
use native.Mathlib.Nat.{pow-suc}
use native.Mathlib.Omega.{arith}
use borrow.Author.Tests.{ltb-true, lt-ltb, le-ltb}
use lib.Dec.{ltb}
use lib.ListN.{length, length-append}
use Rattle.text.specs.Decimal.{decimal_of, decimal}

-- no digit where there is room for none, one for a number below 10, else the digits of the tenth and one more
pub no_digit : (k n : ℕ) → k ≡ 0 → decimal_of k n ≡ []
unfolding decimal_of
no_digit k n e = rw e

module _ (k n : ℕ) (h : k ≡ 0 → ⊥) where
  some : k ≡ suc (k - 1)
  some = let g = h in omega (arith, g)

  pub one_digit : n < 10 → decimal_of k n ≡ (48 + n) ∷ []
  unfolding decimal_of
  one_digit f = ap (λ (i : ℕ). decimal_of i n) some ∙ rw (lt-ltb n 10 f)

  pub more_digits : 10 ≤ n → decimal_of k n ≡ decimal_of (k - 1) (n / 10) ++ ((48 + n % 10) ∷ [])
  unfolding decimal_of
  more_digits f = ap (λ (i : ℕ). decimal_of i n) some ∙ rw (le-ltb n 10 f)

pub digits_short : (k n : ℕ) → length (decimal_of k n) ≤ k
unfolding decimal_of
digits_short zero n = omega arith
digits_short (suc k) n = go (ltb n 10) refl (digits_short k (n / 10))
  where
    go : (b : Bool) → ltb n 10 ≡ b → length (decimal_of k (n / 10)) ≤ k → length (decimal_of (suc k) n) ≤ suc k
    go true e h = rw e (omega arith)
    go false e h = rw (e, length-append) (omega (arith, h))

pub decimal_short : (n : ℕ) → length (decimal n) ≤ 20
decimal_short n = digits_short 20 n

-- what counts the digits needs
pub ruleset counted = (no_digit, one_digit, more_digits, digits_short, length-append)

-- the number that a, followed by the decimal digits xs, spells
unfoldable pub spelt : ℕ → List ℕ → ℕ
spelt a [] = a
spelt a (x ∷ xs) = spelt (a * 10 + (x - 48)) xs

spelt_last : (a : ℕ) (xs : List ℕ) (x : ℕ) → spelt a (xs ++ (x ∷ [])) ≡ spelt a xs * 10 + (x - 48)
unfolding spelt
spelt_last a [] x = refl
spelt_last a (y ∷ xs) x = spelt_last (a * 10 + (y - 48)) xs x

spelt_one : (k n : ℕ) → ltb n 10 ≡ true → spelt 0 (decimal_of (suc k) n) ≡ n
unfolding spelt decimal_of
spelt_one k n e = rw e (omega arith)

spelt-more : (k n : ℕ) → ltb n 10 ≡ false → spelt 0 (decimal_of k (n / 10)) ≡ n / 10 → spelt 0 (decimal_of (suc k) n) ≡ n
unfolding decimal_of
spelt-more k n e h = rw (e, spelt_last, h) (omega arith)

fewer : (k n : ℕ) → n < 10 ^ suc (suc k) → n / 10 < 10 ^ suc k
fewer k n h = let e = pow-suc 10 (suc k) in omega (arith, e)

-- a number of at most k + 1 digits is what they spell
pub enough : (k n : ℕ) → n < 10 ^ suc k → spelt 0 (decimal_of (suc k) n) ≡ n
enough zero n h = spelt_one 0 n (lt-ltb n 10 h)
enough (suc k) n h = go (ltb n 10) refl (enough k (n / 10) (fewer k n h))
  where
    go : (b : Bool) → ltb n 10 ≡ b → spelt 0 (decimal_of (suc k) (n / 10)) ≡ n / 10 → spelt 0 (decimal_of (suc (suc k)) n) ≡ n
    go true e i = spelt_one (suc k) n e
    go false e i = spelt-more (suc k) n e i

-- a number of 64 bits is what its decimal digits spell
pub spells : (n : ℕ) → n < 2 ^ 64 → spelt 0 (decimal n) ≡ n
spells n h = enough 19 n (omega arith)

-- each of them is a digit, from 48 ("0") to 57 ("9")
abbrev pub OfDigits : List ℕ → Type 0
OfDigits [] = Unit {0}
OfDigits (x ∷ xs) = ((48 ≤ x) × (x ≤ 57)) × OfDigits xs

digit_more : (xs : List ℕ) (x : ℕ) → OfDigits xs → (48 ≤ x) × (x ≤ 57) → OfDigits (xs ++ (x ∷ []))
digit_more [] x h k = (k, tt)
digit_more (y ∷ xs) x h k = (h.0, digit_more xs x h.1 k)

all_digits : (k n : ℕ) → OfDigits (decimal_of k n)
unfolding decimal_of
all_digits zero n = tt
all_digits (suc k) n = go (ltb n 10) refl (digit_more (decimal_of k (n / 10)) (48 + n % 10) (all_digits k (n / 10)) (omega arith, omega arith))
  where
    go : (t : Bool) → ltb n 10 ≡ t → OfDigits (decimal_of k (n / 10) ++ ((48 + n % 10) ∷ []))
        → OfDigits (cond t ((48 + n) ∷ []) (decimal_of k (n / 10) ++ ((48 + n % 10) ∷ [])))
    go true e h = let f = ltb-true n 10 e in ((omega arith, omega arith), tt)
    go false e h = h

pub decimal_digits : (n : ℕ) → OfDigits (decimal n)
decimal_digits n = all_digits 20 n
