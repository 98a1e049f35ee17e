-- Two scans undo each other, proved once for every pair of step functions that do, and its instances. Assumes nothing.
use mathlib.Core.Path.{◌≡◌, refl, ap, ◌∙◌}
use mathlib.Core.List.{List, [], ◌∷◌}
use Prim.Native.Nat.{ℕ, zero, suc, ◌+◌, ◌-◌, ◌%◌, ◌<◌}
use native.Mathlib.Nat.{mod-lt, mod-eq_of_lt, add-mod-mod, mod-add-mod, add-mod_right}
use native.Mathlib.Omega.{arith}
use lib.ListN.{length, get_or}
use Rattle.octets.specs.Numbers.{Below}
use Rattle.filter_format.specs.Delta.{scan, difference, sum, latest, delta, undelta, deltas, undeltas}

-- an element is below what all are
pub below_at : (m : ℕ) → 0 < m → (xs : List ℕ) → Below m xs → (i : ℕ) → get_or xs i 0 < m
below_at m h [] y i = h
below_at m h (x ∷ xs) y zero = y.0
below_at m h (x ∷ xs) y (suc i) = below_at m h xs y.1 i

-- a scan keeps the length
pub length-scan : (o g : ℕ → ℕ → ℕ) (p : ℕ) (xs : List ℕ) → length (scan o g p xs) ≡ length xs
unfolding scan
length-scan o g p [] = refl
length-scan o g p (x ∷ xs) = ap suc (length-scan o g (g p x) xs)

-- what a scan writes is below m if each step's is
pub below-scan : (m : ℕ) (o g : ℕ → ℕ → ℕ) → ((p x : ℕ) → o p x < m) → (p : ℕ) (xs : List ℕ) → Below m (scan o g p xs)
unfolding scan
below-scan m o g h p [] = tt
below-scan m o g h p (x ∷ xs) = (h p x, below-scan m o g h (g p x) xs)

-- one scan undoes another, if each step does and both remember the same
pub there_and_back : (m : ℕ) (o g o' g' : ℕ → ℕ → ℕ)
    → ((p x : ℕ) → p < m → x < m → o' p (o p x) ≡ x)
    → ((p x : ℕ) → p < m → x < m → g' p (o p x) ≡ g p x)
    → ((p x : ℕ) → p < m → x < m → g p x < m)
    → (p : ℕ) (xs : List ℕ) → p < m → Below m xs → scan o' g' p (scan o g p xs) ≡ xs
unfolding scan
there_and_back m o g o' g' back same stays p [] hp hxs = refl
there_and_back m o g o' g' back same stays p (x ∷ xs) hp hxs =
    rw (back p x hp hxs.0, same p x hp hxs.0)
    (ap (λ (l : List ℕ). x ∷ l) (there_and_back m o g o' g' back same stays (g p x) xs (stays p x hp hxs.0) hxs.1))

-- modulo m, difference and sum undo each other
pub sum-difference : (m p x : ℕ) → p < m → x < m → sum m p (difference m p x) ≡ x
sum-difference m p x hp hx =
    add-mod-mod p (x + (m - p)) m ∙ ap (λ (k : ℕ). k % m) (omega arith) ∙ add-mod_right x m ∙ mod-eq_of_lt hx

pub difference-sum : (m p x : ℕ) → p < m → x < m → difference m p (sum m p x) ≡ x
difference-sum m p x hp hx =
    mod-add-mod (p + x) m (m - p) ∙ ap (λ (k : ℕ). k % m) (omega arith) ∙ add-mod_right x m ∙ mod-eq_of_lt hx

module _ (m : ℕ) (pos : zero < m) where
  pub undelta-delta : (xs : List ℕ) → Below m xs → undelta m (delta m xs) ≡ xs
  undelta-delta xs h = there_and_back m (difference m) latest (sum m) (sum m) (sum-difference m) (sum-difference m) (λ p x hp hx. hx) 0 xs pos h

  pub delta-undelta : (xs : List ℕ) → Below m xs → delta m (undelta m xs) ≡ xs
  delta-undelta xs h =
      there_and_back m (sum m) (sum m) (difference m) latest (difference-sum m) (λ p x hp hx. refl) (λ p x hp hx. mod-lt (p + x) pos) 0 xs pos h

  pub below-delta : (xs : List ℕ) → Below m (delta m xs)
  below-delta xs = below-scan m (difference m) latest (λ p x. mod-lt (x + (m - p)) pos) 0 xs

  pub below-undelta : (xs : List ℕ) → Below m (undelta m xs)
  below-undelta xs = below-scan m (sum m) (sum m) (λ p x. mod-lt (p + x) pos) 0 xs

  pub below-deltas : (k : ℕ) (xs : List ℕ) → Below m xs → Below m (deltas m k xs)
  unfolding deltas
  below-deltas zero xs h = h
  below-deltas (suc k) xs h = below-delta (deltas m k xs)

  -- every level: undone after done, and done after undone
  pub undeltas-deltas : (k : ℕ) (xs : List ℕ) → Below m xs → undeltas m k (deltas m k xs) ≡ xs
  unfolding deltas undeltas
  undeltas-deltas zero xs h = refl
  undeltas-deltas (suc k) xs h = ap (undeltas m k) (undelta-delta (deltas m k xs) (below-deltas k xs h)) ∙ undeltas-deltas k xs h

  pub deltas-undeltas : (k : ℕ) (xs : List ℕ) → Below m xs → deltas m k (undeltas m k xs) ≡ xs
  unfolding deltas undeltas
  deltas-undeltas zero xs h = refl
  deltas-undeltas (suc k) xs h = ap (delta m) (deltas-undeltas k (undelta m xs) (below-undelta xs)) ∙ delta-undelta xs h

  pub below-undeltas : (k : ℕ) (xs : List ℕ) → Below m xs → Below m (undeltas m k xs)
  unfolding undeltas
  below-undeltas zero xs h = h
  below-undeltas (suc k) xs h = below-undeltas k (undelta m xs) (below-undelta xs)

pub length-deltas : (m k : ℕ) (xs : List ℕ) → length (deltas m k xs) ≡ length xs
unfolding deltas
length-deltas m zero xs = refl
length-deltas m (suc k) xs = length-scan (difference m) latest 0 (deltas m k xs) ∙ length-deltas m k xs

pub length-undeltas : (m k : ℕ) (xs : List ℕ) → length (undeltas m k xs) ≡ length xs
unfolding undeltas
length-undeltas m zero xs = refl
length-undeltas m (suc k) xs = length-undeltas m k (undelta m xs) ∙ length-scan (sum m) (sum m) 0 xs
