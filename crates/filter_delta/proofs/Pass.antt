-- A pass along the units of a slice, in place: what is made, and what is to come, are the goal. One turn for every
-- scan. The last three laws are for passes of other crates that add and subtract at 32 bits and put the low bytes, as
-- those along the columns of SCF chromatograms will (docs/CONTINUATION.md): of these the result is the scan's. Assumes
-- nothing.
use Rattle.std.proofs.Common.{◌≡◌, ℕ, zero, suc, ◌+◌, ◌-◌, ◌*◌, ◌/◌, ◌%◌, ◌^◌, ◌<◌, ◌≤◌, List, ◌++◌, length, take, sym, refl, ap, ◌∙◌, append_assoc, append-nil, mod-lt, mod-eq_of_lt, arith, take_all}
use Rattle.std.proofs.Math.Nat.{mul-le-mul_left, zero-mul, sub-zero}
use native.Mathlib.Nat.{mod-add-mod, add-mod-mod, add-mod_right, mod-mod_of_dvd, dvd_of_mod-eq-zero}
use Rattle.octets.specs.Parts.{put_at}
use Rattle.octets.specs.Numbers.{number, bytes_of, unit_bytes, units_at}
use Rattle.octets.proofs.Lists.{length_put, take_put, part-after}
use Rattle.octets.proofs.Digits.{length-bytes_of}
use Rattle.filter_format.specs.Units.{IsWidth, range}
use Rattle.filter_format.specs.Delta.{scan, difference, sum, latest, undeltas, deltas, undelta_bytes, delta_bytes}
use Rattle.filter_format.proofs.Wholes.{units_in}

-- i of the n units are made, p is remembered; what is made and what the scan makes of the others are the goal
pub record Mid (o g : ℕ → ℕ → ℕ) (w p i n : ℕ) (s goal : List ℕ) : Type 0 where
  pub whole : w * n ≡ length s
  pub within : i ≤ n
  pub made : take (i * w) s ++ unit_bytes w (scan o g p (units_at w (n - i) (i * w) s)) ≡ goal

-- what is put before them changes no units
units_after : (w q : ℕ) (xs s : List ℕ) → q + length xs ≤ length s → (n p : ℕ) → q + length xs ≤ p → units_at w n p (put_at q xs s) ≡ units_at w n p s
unfolding units_at number
units_after w q xs s h zero p k = refl
units_after w q xs s h (suc n) p k = rw (part-after p w q xs s k h, units_after w q xs s h n (p + w) (omega arith))

module _ {o g : ℕ → ℕ → ℕ} {w p i n : ℕ} {s goal : List ℕ} (m : Mid o g w p i n s goal) where
  -- the next unit has room
  pub next_fits : i < n → i * w + w ≤ length s
  next_fits h = omega (arith, mul-le-mul_left w (let k : suc i ≤ n = omega arith in k), m.whole)

  -- the next unit x is read, and what the scan makes of it is put
  pub turn : i < n → {x v q : ℕ} {s' : List ℕ} → x ≡ number w (i * w) s → v ≡ o p x → q ≡ g p x → s' ≡ put_at (i * w) (bytes_of w v) s
      → Mid o g w q (i + 1) n s' goal
  unfolding units_at scan unit_bytes
  turn h {x} {v} {q} {s'} ex ev eq put =
      let at : ℕ = i * w in
      let left : ℕ = n - (i + 1) in
      let xs : List ℕ = bytes_of w v in
      let fits : at + w ≤ length s = next_fits h in
      let long : length xs ≡ w = length-bytes_of w v in
      let inside : at + length xs ≤ length s = rw long fits in
      let one : n - i ≡ suc left = omega arith in
      let next : (i + 1) * w ≡ at + w = omega arith in
      let before = rw (one, ← ex, ← ev, ← eq) at m.made in
      record {
        whole = rw put (m.whole ∙ sym (length_put at xs s inside));
        within = omega arith;
        made =
            rw (next, put, take_put at w xs s long fits, units_after w at xs s inside left (at + w) (rw long (omega arith)))
            (append_assoc (take at s) xs (unit_bytes w (scan o g q (units_at w left (at + w) s))) ∙ before);
      }

  -- nothing is to come
  pub done : n ≤ i → s ≡ goal
  unfolding units_at scan unit_bytes
  done h =
      let none : n - i ≡ 0 = omega arith in
      let all : length s ≤ i * w = omega (arith, mul-le-mul_left w h, m.whole) in
      sym (append-nil (take (i * w) s) ∙ take_all (i * w) s all) ∙ rw none at m.made

-- the pass that takes a level off remembers the sum, and the one that puts a level on the unit before
abbrev pub Summing : ℕ → ℕ → ℕ → ℕ → List ℕ → List ℕ → Type 0
Summing w p i n s₀ s = Mid (sum (range w)) (sum (range w)) w p i n s (undelta_bytes w 1 s₀)

abbrev pub Differencing : ℕ → ℕ → ℕ → ℕ → List ℕ → List ℕ → Type 0
Differencing w p i n s₀ s = Mid (difference (range w)) latest w p i n s (delta_bytes w 1 s₀)

module _ (w p n : ℕ) (s : List ℕ) (whole : length s % w ≡ 0) (nothing : p ≡ 0) (count : n ≡ length s / w) where
  in_units : w * n ≡ length s
  in_units = rw count (units_in w s whole)

  pub summing_start : Summing w p 0 n s s
  unfolding undelta_bytes undeltas
  summing_start = record { whole = in_units; within = omega arith; made = rw (nothing, count, zero-mul w, sub-zero (length s / w)) }

  pub differencing_start : Differencing w p 0 n s s
  unfolding delta_bytes deltas
  differencing_start = record { whole = in_units; within = omega arith; made = rw (nothing, count, zero-mul w, sub-zero (length s / w)) }

-- the ranges divide that of 32 bits
pub divides : (w : ℕ) → IsWidth w → 2 ^ 32 % range w ≡ 0
divides zero h = absurd (omega arith)
divides (suc zero) h = refl
divides (suc (suc zero)) h = refl
divides (suc (suc (suc zero))) h = absurd (h.2 refl)
divides (suc (suc (suc (suc zero)))) h = refl
divides (suc (suc (suc (suc (suc w))))) h = absurd (omega arith)

-- sums and differences at 32 bits, modulo a range m
pub sum_seen : (m p x v : ℕ) → 2 ^ 32 % m ≡ 0 → v ≡ (p + x) % 2 ^ 32 → v % m ≡ sum m (p % m) x
sum_seen m p x v d e = rw e (mod-mod_of_dvd m (p + x) (dvd_of_mod-eq-zero m d) ∙ sym (mod-add-mod p m x))

pub difference_seen : (m p x v : ℕ) → 0 < m → 2 ^ 32 % m ≡ 0 → x < m → (v + p) % 2 ^ 32 ≡ x → v % m ≡ difference m (p % m) x
difference_seen m p x v positive d hx e =
    let q : ℕ = p % m in
    let hq : q < m = mod-lt p positive in
    let k : (v + p) % m ≡ x = sym (mod-mod_of_dvd m (v + p) (dvd_of_mod-eq-zero m d)) ∙ ap (λ (n : ℕ). n % m) e ∙ mod-eq_of_lt hx in
    let k' : (v + q) % m ≡ x = add-mod-mod v p m ∙ k in
    sym (ap (λ (n : ℕ). (n + (m - q)) % m) (sym k') ∙ mod-add-mod (v + q) m (m - q) ∙ ap (λ (n : ℕ). n % m) (omega arith) ∙ add-mod_right v m)
