-- A test over the whole of a list. Assumes nothing.
use Prim.Native.Nat.compare
use Prim.Native.Nat.{ℕ, zero, suc, ◌+◌, ◌≤◌, ◌<◌}
use mathlib.Core.Path.{◌≡◌, refl, sym, ap, ◌∙◌}
use mathlib.Core.Bool.{Bool, true, false, not, ◌||◌, or_assoc}
use mathlib.Core.List.{List, [], ◌∷◌, ◌++◌}
use native.Mathlib.Omega.{arith}
use native.Mathlib.Numerals.{add-one}
use lib.ListN.{length, take, drop, get_or, take-append-drop}
use lib.Dec.{ltb}
use lib.Seq.{take-suc, take_all}
use borrow.Author.Tests.{ltb-false, le-ltb, lt-ltb}
use Rattle.octets.specs.Parts.{part}
use Rattle.octets.specs.Scans.{one_more, leading_count, Every, fails}
use Rattle.octets.proofs.Scan.{leading_le}

pub none_fails : (test : ℕ → Bool) (xs : List ℕ) → fails test xs ≡ false → Every test xs
none_fails test xs e = let h = ltb-false (leading_count test xs) (length xs) e in omega (arith, h, leading_le test xs)

pub every_passes : (test : ℕ → Bool) (xs : List ℕ) → Every test xs → fails test xs ≡ false
every_passes test xs e = le-ltb (leading_count test xs) (length xs) (omega arith)

-- every element of both lists
pub first_passes : (t : Bool) (k n : ℕ) → one_more t k ≡ suc n → (t ≡ true) × (k ≡ n)
first_passes true k n e = (refl, omega (arith, e))
first_passes false k n e = absurd (let a : ⊥ = omega (arith, e) in a)

pub every_left : (test : ℕ → Bool) (xs ys : List ℕ) → Every test (xs ++ ys) → Every test xs
unfolding leading_count
every_left test [] ys e = refl
every_left test (x ∷ xs) ys e = let f = first_passes (test x) _ _ e in rw f.0 (ap suc (every_left test xs ys f.1))

pub every_right : (test : ℕ → Bool) (xs ys : List ℕ) → Every test (xs ++ ys) → Every test ys
unfolding leading_count
every_right test [] ys e = e
every_right test (x ∷ xs) ys e = every_right test xs ys (first_passes (test x) _ _ e).1

pub every_both : (test : ℕ → Bool) (xs ys : List ℕ) → Every test xs → Every test ys → Every test (xs ++ ys)
unfolding leading_count
every_both test [] ys e f = f
every_both test (x ∷ xs) ys e f = let g = first_passes (test x) _ _ e in rw g.0 (ap suc (every_both test xs ys g.1 f))

-- every element, place by place
pub every_at : (test : ℕ → Bool) (xs : List ℕ) → Every test xs → (i : ℕ) → i < length xs → test (get_or xs i 0) ≡ true
unfolding leading_count
every_at test [] e i h = absurd (let a : ⊥ = omega arith in a)
every_at test (x ∷ xs) e zero h = (first_passes (test x) _ _ e).0
every_at test (x ∷ xs) e (suc i) h = every_at test xs (first_passes (test x) _ _ e).1 i (omega arith)

pub at_every : (test : ℕ → Bool) (xs : List ℕ) → ((i : ℕ) → i < length xs → test (get_or xs i 0) ≡ true) → Every test xs
unfolding leading_count
at_every test [] f = refl
at_every test (x ∷ xs) f =
    let t : test x ≡ true = f 0 (omega arith) in
    rw t (ap suc (at_every test xs (λ i h. f (suc i) (omega arith))))

-- every element by a weaker test, and of a part
pub every_weaker : (strong weak : ℕ → Bool) → ((x : ℕ) → strong x ≡ true → weak x ≡ true) → (xs : List ℕ)
    → Every strong xs → Every weak xs
every_weaker strong weak f xs e = at_every weak xs (λ i h. f (get_or xs i 0) (every_at strong xs e i h))

pub every_part : (test : ℕ → Bool) (at n : ℕ) (xs : List ℕ) → Every test xs → Every test (part at n xs)
every_part test at n xs e =
    let f : Every test (drop at xs) = every_right test (take at xs) (drop at xs) (rw (take-append-drop at xs) e) in
    every_left test (part at n xs) (drop n (drop at xs)) (rw (take-append-drop n (drop at xs)) f)

-- the elements before the first that fails pass, and that one fails
pub leading_passes : (test : ℕ → Bool) (xs : List ℕ) (i : ℕ) → i < leading_count test xs → test (get_or xs i 0) ≡ true
unfolding leading_count
leading_passes test [] i h = absurd (let a : ⊥ = omega arith in a)
leading_passes test (x ∷ xs) i h = go (test x) refl i h (leading_passes test xs)
  where
    go : (t : Bool) → test x ≡ t → (i : ℕ) → i < one_more t (leading_count test xs)
        → ((i : ℕ) → i < leading_count test xs → test (get_or xs i 0) ≡ true) → test (get_or (x ∷ xs) i 0) ≡ true
    go true e zero l more = e
    go true e (suc i) l more = more i (omega arith)
    go false e i l more = absurd (let a : ⊥ = omega arith in a)

pub leading_fails : (test : ℕ → Bool) (xs : List ℕ) → leading_count test xs < length xs
    → test (get_or xs (leading_count test xs) 0) ≡ false
unfolding leading_count
leading_fails test [] h = absurd (let a : ⊥ = omega arith in a)
leading_fails test (x ∷ xs) h = go (test x) refl h (leading_fails test xs)
  where
    go : (t : Bool) → test x ≡ t → one_more t (leading_count test xs) < suc (length xs)
        → (leading_count test xs < length xs → test (get_or xs (leading_count test xs) 0) ≡ false)
        → test (get_or (x ∷ xs) (one_more t (leading_count test xs)) 0) ≡ false
    go true e l more = more (omega arith)
    go false e l more = e

-- one element more
fails_one : (t : Bool) → ltb (one_more t 0) 1 ≡ not t
fails_one true = refl
fails_one false = refl

more-fails : (t : Bool) (k n : ℕ) → ltb (one_more t k) (suc n) ≡ (not t || ltb k n)
more-fails true k n = rw compare.suc-suc
more-fails false k n = lt-ltb 0 (suc n) (omega arith)

pub fails_snoc : (test : ℕ → Bool) (xs : List ℕ) (x : ℕ) → fails test (xs ++ (x ∷ [])) ≡ (fails test xs || not (test x))
unfolding leading_count
fails_snoc test [] x = fails_one (test x)
fails_snoc test (y ∷ xs) x =
    more-fails (test y) _ _
    ∙ ap (λ (b : Bool). not (test y) || b) (fails_snoc test xs x)
    ∙ sym (or_assoc (not (test y)) (fails test xs) (not (test x)))
    ∙ ap (λ (b : Bool). b || not (test x)) (sym (more-fails (test y) _ _))

-- The invariant of a test of a whole list that no element ends: what was seen of its first j elements.
pub record Told (p : ℕ → Bool) (l : List ℕ) (j : ℕ) (failed : Bool) : Type 0 where
  pub low : j ≤ length l
  pub is : failed ≡ fails p (take j l)

pub told_start : (p : ℕ → Bool) (l : List ℕ) → Told p l 0 false
unfolding leading_count
told_start p l = record { low = omega arith; is = refl }

module _ {p : ℕ → Bool} {l : List ℕ} {j : ℕ} {failed : Bool} (s : Told p l j failed) where
  pub told_more : j < length l → {r : Bool} → r ≡ p (get_or l j 0) → Told p l (j + 1) (failed || not r)
  told_more h e = record {
    low = omega arith;
    is = rw (e, s.is, add-one j, take-suc l j 0 h) (sym (fails_snoc p (take j l) (get_or l j 0)));
  }

  pub told_all : length l ≤ j → failed ≡ fails p l
  told_all h = rw (take_all j l h) at s.is
