-- What the numbers of a summary are: the largest and the smallest are values and bound every value; each whole number
-- is exactly a float. Assumes nothing.
use Prim.Native.Nat.{ℕ, zero, suc, ◌+◌, ◌*◌, ◌≤◌, ◌<◌, min, max}
use mathlib.Core.Path.{◌≡◌, refl, ap}
use mathlib.Core.Bool.{Bool, true, false}
use mathlib.Core.List.{List, [], ◌∷◌, sum}
use native.Mathlib.Omega.{arith}
use borrow.Author.Tests.{leb-true, leb-false}
use lib.Dec.{leb}
use lib.IntN.{pos}
use lib.Ieee.{binary64, of_int}
use lib.Ieee.Exact.{HasValue}
use lib.Ieee.Back.{round_whole}
use lib.ListN.{length, get_or}
use Rattle.octets.specs.Numbers.{Words}
use Rattle.sff_signal.specs.Signal.{sum_of, max_of, min_of}

pub max_bounds : (xs : List ℕ) (i : ℕ) → i < length xs → get_or xs i 0 ≤ max_of xs
unfolding max_of
max_bounds [] i h = absurd (omega arith)
max_bounds (x ∷ xs) zero h = omega arith
max_bounds (x ∷ xs) (suc i) h = let k = max_bounds xs i (omega arith) in omega arith

pub min_bounds : (xs : List ℕ) (i : ℕ) → i < length xs → min_of xs ≤ get_or xs i 0
unfolding min_of
min_bounds [] i h = absurd (omega arith)
min_bounds (x ∷ []) zero h = omega arith
min_bounds (x ∷ []) (suc i) h = absurd (omega arith)
min_bounds (x ∷ y ∷ ys) zero h = omega arith
min_bounds (x ∷ y ∷ ys) (suc i) h = let k = min_bounds (y ∷ ys) i (omega arith) in omega arith

-- v is a value of the list
abbrev pub In : ℕ → List ℕ → Type 0
In v xs = (i : ℕ) × (i < length xs) × (get_or xs i 0 ≡ v)

-- one of two is a value of the list, the other its first
one_of : (v w x : ℕ) (xs : List ℕ) (t : Bool) → (t ≡ true → w ≡ v) → (t ≡ false → w ≡ x) → In v xs → In w (x ∷ xs)
one_of v w x xs true f g k = let l = k.1 in let e = f refl in (suc k.0, omega arith, cc)
one_of v w x xs false f g k = let e = g refl in (0, omega arith, cc)

pub max_in : (x : ℕ) (xs : List ℕ) → In (max_of (x ∷ xs)) (x ∷ xs)
unfolding max_of
max_in x [] = (0, omega arith, omega arith)
max_in x (y ∷ ys) =
    let m = max_of (y ∷ ys) in
    one_of m (max x m) x (y ∷ ys) (leb x m) (λ e. let h = leb-true x m e in omega arith) (λ e. let h = leb-false x m e in omega arith) (max_in y ys)

pub min_in : (x : ℕ) (xs : List ℕ) → In (min_of (x ∷ xs)) (x ∷ xs)
unfolding min_of
min_in x [] = (0, omega arith, refl)
min_in x (y ∷ ys) =
    let m = min_of (y ∷ ys) in
    one_of m (min x m) x (y ∷ ys) (leb m x) (λ e. let h = leb-true m x e in omega arith) (λ e. let h = leb-false m x e in omega arith) (min_in y ys)

-- of values that there are
pub largest_in : (xs : List ℕ) → 1 ≤ length xs → In (max_of xs) xs
largest_in [] h = absurd (let a : ⊥ = omega arith in a)
largest_in (x ∷ xs) h = max_in x xs

pub smallest_in : (xs : List ℕ) → 1 ≤ length xs → In (min_of xs) xs
smallest_in [] h = absurd (let a : ⊥ = omega arith in a)
smallest_in (x ∷ xs) h = min_in x xs

-- the sum is the library's
pub sum_is : (xs : List ℕ) → sum_of xs ≡ sum ◌+◌ 0 xs
unfolding sum_of sum
sum_is [] = refl
sum_is (x ∷ xs) = ap (λ (n : ℕ). x + n) (sum_is xs)

-- fewer than 65,536 values of two bytes: each whole number of their summary is below 2^32
sum-small : (xs : List ℕ) → Words xs → sum_of xs ≤ 65535 * length xs
unfolding sum_of
sum-small [] w = omega arith
sum-small (x ∷ xs) w = let k = sum-small xs w.1 in let h = w.0 in omega arith

max-sum : (xs : List ℕ) → max_of xs ≤ sum_of xs
unfolding max_of sum_of
max-sum [] = omega arith
max-sum (x ∷ xs) = let k = max-sum xs in omega arith

min-max : (xs : List ℕ) → min_of xs ≤ max_of xs
unfolding min_of max_of
min-max [] = omega arith
min-max (x ∷ []) = omega arith
min-max (x ∷ y ∷ ys) = omega arith

pub whole_small : (xs : List ℕ) → Words xs → length xs < 65536
    → (max_of xs < 4294967296) × (min_of xs < 4294967296) × (sum_of xs < 4294967296) × (100 * length xs < 4294967296)
whole_small xs w h =
    let s = sum-small xs w in
    let m = max-sum xs in
    let l = min-max xs in
    (omega arith, omega arith, omega arith, omega arith)

-- and such a number is a float exactly
pub exact : (n : ℕ) → n < 4294967296 → HasValue (of_int binary64 (pos n)) false n 1
unfolding of_int
exact n h = round_whole binary64 false n (omega arith)
