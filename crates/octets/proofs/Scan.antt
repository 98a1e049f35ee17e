-- The laws of `first_not`, over the test: what each turn of a scan that goes up shows. Assumes nothing.
use mathlib.Core.Path.{◌≡◌, sym, ap, ◌∙◌}
use mathlib.Core.Bool.{Bool, true, false}
use mathlib.Core.List.{List, [], ◌∷◌}
use Prim.Native.Nat.{ℕ, suc, ◌+◌, ◌-◌, ◌≤◌, ◌<◌}
use native.Mathlib.Nat.{add-zero, zero-add, add_assoc}
use native.Mathlib.Omega.{arith}
use lib.ListN.{length, get_or}
use lib.Seq.{take-length}
use Rattle.octets.proofs.Lists.{part_suc, length_part, get_d_part}
use Rattle.octets.specs.Parts.{part}
use Rattle.octets.specs.Scans.{first_not, leading_count, one_more}

module _ (p : ℕ → Bool) (i to : ℕ) (l : List ℕ) where
  -- the element at i fails
  pub stop : i < to → to ≤ length l → p (get_or l i 0) ≡ false → first_not p i to l ≡ i
  unfolding first_not leading_count
  stop h k f =
      let n : to - i ≡ suc (to - (i + 1)) = omega arith in
      rw (n, part_suc i (to - (i + 1)) l (omega arith), f) (omega arith)

  -- the element at i passes
  pub go : i < to → to ≤ length l → p (get_or l i 0) ≡ true → first_not p i to l ≡ first_not p (i + 1) to l
  unfolding first_not leading_count
  go h k t =
      let n : to - i ≡ suc (to - (i + 1)) = omega arith in
      rw (n, part_suc i (to - (i + 1)) l (omega arith), t) (omega arith)

-- there is none left
pub none : (p : ℕ → Bool) (to : ℕ) (l : List ℕ) → first_not p to to l ≡ to
unfolding first_not leading_count
none p to l = let n : to - to ≡ 0 = omega arith in rw n (omega arith)

-- the scan of a whole list
pub first_run : (p : ℕ → Bool) (l : List ℕ) → first_not p 0 (length l) l ≡ leading_count p l
unfolding first_not
first_run p l = let n : length l - 0 ≡ length l = omega arith in rw (n, take-length, zero-add)

-- a count that stops at the first failure is at most the length
pub more_le : (t : Bool) (k n : ℕ) → k ≤ n → one_more t k ≤ suc n
more_le true k n h = omega arith
more_le false k n h = omega arith

pub leading_le : (t : ℕ → Bool) (xs : List ℕ) → leading_count t xs ≤ length xs
unfolding leading_count
leading_le t [] = omega arith
leading_le t (x ∷ xs) = more_le (t x) _ _ (leading_le t xs)

-- The invariant of a scan that goes up: what is sought from `from` on is sought j places on.
pub record Seen (p : ℕ → Bool) (from n : ℕ) (l : List ℕ) (j : ℕ) : Type 0 where
  pub inside : from + n ≤ length l
  pub low : j ≤ n
  pub is : first_not p from (from + n) l ≡ first_not p (from + j) (from + n) l

pub seen_start : (p : ℕ → Bool) (from n : ℕ) (l : List ℕ) → from + n ≤ length l → Seen p from n l 0
seen_start p from n l h = record { inside = h; low = omega arith; is = rw add-zero }

-- r is what a function that tests the next element of the part gave
module _ {p : ℕ → Bool} {from n : ℕ} {l : List ℕ} {j : ℕ} (s : Seen p from n l j) (h : j < length (part from n l)) {r : Bool} (e : r ≡ p (get_or (part from n l) j 0)) where
  below : j < n
  below = rw (length_part from n l s.inside) at h

  tested : p (get_or l (from + j) 0) ≡ r
  tested = ap p (sym (get_d_part from n l j below)) ∙ sym e

  pub seen_more : r ≡ true → Seen p from n l (j + 1)
  seen_more t = record {
    inside = s.inside;
    low = omega (arith, below);
    is = s.is ∙ go p (from + j) (from + n) l (omega (arith, below)) s.inside (tested ∙ t) ∙ rw (add_assoc from j 1);
  }

  pub seen_stop : r ≡ false → {to : ℕ} → to ≡ from + n → (from + j ≡ first_not p from to l) × (from + j ≤ to)
  seen_stop f w = (rw w (sym (s.is ∙ stop p (from + j) (from + n) l (omega (arith, below)) s.inside (tested ∙ f))), omega (arith, below))

pub seen_end : {p : ℕ → Bool} {from n : ℕ} {l : List ℕ} {j : ℕ} → Seen p from n l j → length (part from n l) ≤ j → {to : ℕ} → to ≡ from + n
    → (to ≡ first_not p from to l) × (to ≤ to)
seen_end {p} {from} {n} {l} {j} s h w =
    let e : j ≡ n = omega (arith, length_part from n l s.inside) in
    (rw w (cc (none p (from + n) l, s.is)), omega arith)
