-- The invariants of a loop that puts the list xs, of length n, into a slice at `at`, one store a turn: from its front
-- (`Up`) or from its end (`Down`). Assumes nothing.
use mathlib.Core.Path.{◌≡◌, refl, sym, ap, ◌∙◌}
use mathlib.Core.List.{List, ◌++◌}
use Prim.Native.Nat.{ℕ, suc, ◌+◌, ◌-◌, ◌≤◌, ◌<◌}
use native.Mathlib.Nat.{add-zero, add_assoc}
use native.Mathlib.Numerals.{add-one}
use native.Mathlib.Omega.{arith}
use borrow.Author.Rules.{rules}
use lib.ListN.{replicate, length-replicate, get_or-replicate, length, take, drop, set, get_or, length-set, length-drop, take-append-drop, drop_of_length-le}
use lib.Seq.{take-suc, drop-cons, take_all, take-add, drop-drop, length-take-le}
use Rattle.octets.specs.Parts.{put_at, part}
use Rattle.octets.proofs.Lists.{put_nil, put_snoc, put_cons, put_next, put_before, length_put, get_d-before, get_d_after}
use Rattle.octets.proofs.Lists.{length_part, get_d_part, part_in, part_put, part-before, part-after}

-- s is s₀ with the first j elements of xs put
pub record Up (at n : ℕ) (xs s₀ s : List ℕ) (j : ℕ) : Type 0 where
  pub len : length xs ≡ n
  pub fits : at + n ≤ length s₀
  pub low : j ≤ n
  pub same : length s ≡ length s₀
  pub is : s ≡ put_at at (take j xs) s₀

-- s is s₀ with the elements of xs from index j on put
pub record Down (at n : ℕ) (xs s₀ s : List ℕ) (j : ℕ) : Type 0 where
  pub len : length xs ≡ n
  pub fits : at + n ≤ length s₀
  pub low : j ≤ n
  pub same : length s ≡ length s₀
  pub is : s ≡ put_at (at + j) (drop j xs) s₀

down_step : (at k : ℕ) (xs s₀ : List ℕ) → at + k < length s₀ → k < length xs
    → set (put_at (at + (k + 1)) (drop (k + 1) xs) s₀) (at + k) (get_or xs k 0) ≡ put_at (at + k) (drop k xs) s₀
down_step at k xs s₀ h i = rw (drop-cons xs k 0, ← add_assoc at k 1, add-one k) (put_cons (at + k) (drop (suc k) xs) s₀ (get_or xs k 0) h)

module _ (at n : ℕ) (xs s₀ : List ℕ) where
  pub up_start : length xs ≡ n → at + n ≤ length s₀ → Up at n xs s₀ s₀ 0
  up_start e h = record { len = e; fits = h; low = omega arith; same = refl; is = sym (put_nil at s₀) }

  pub down_start : length xs ≡ n → at + n ≤ length s₀ → Down at n xs s₀ s₀ n
  down_start e h = record { len = e; fits = h; low = omega arith; same = refl; is = rw (drop_of_length-le xs {i = n} (omega arith), put_nil) }

module _ {at n : ℕ} {xs s₀ s : List ℕ} {j : ℕ} where
  pub up_more : Up at n xs s₀ s j → j < n → (x : ℕ) → x ≡ get_or xs j 0 → Up at n xs s₀ (set s (at + j) x) (j + 1)
  up_more u h x e = record {
    len = u.len;
    fits = u.fits;
    low = omega arith;
    same = length-set s (at + j) x ∙ u.same;
    is =
        let len : length (take j xs) ≡ j = length-take-le j xs (omega arith) in
        let in-xs : j < length xs = omega arith in
        rw (u.is, e, add-one, take-suc xs j 0) (rw len at (put_snoc at (take j xs) s₀ (get_or xs j 0) (rw len (omega arith))));
  }

  pub up_done : Up at n xs s₀ s j → n ≤ j → s ≡ put_at at xs s₀
  up_done u h = let all : take j xs ≡ xs = take_all j xs (omega arith) in cc

  -- what stands past what was put is as it was
  up_rest : Up at n xs s₀ s j → (i : ℕ) → at + j ≤ i → get_or s i 0 ≡ get_or s₀ i 0
  up_rest u i h =
      let len : length (take j xs) ≡ j = length-take-le j xs (omega arith) in
      rw u.is (get_d_after at (take j xs) s₀ i (rw len h) (omega arith))

  pub down_more : Down at n xs s₀ s j → 0 < j → (x : ℕ) → x ≡ get_or xs (j - 1) 0 → Down at n xs s₀ (set s (at + (j - 1)) x) (j - 1)
  down_more u h x e = record {
    len = u.len;
    fits = u.fits;
    low = omega arith;
    same = length-set s (at + (j - 1)) x ∙ u.same;
    is =
        let step = down_step at (j - 1) xs s₀ (omega arith) (omega arith) in
        let is-next : j ≡ j - 1 + 1 = omega arith in
        cc;
  }

  pub down_done : Down at n xs s₀ s j → j ≤ 0 → s ≡ put_at at xs s₀
  down_done u h = let none : j ≡ 0 = omega arith in cc (add-zero at)

  -- what stands before what was put is as it was
  down_rest : Down at n xs s₀ s j → (i : ℕ) → i < at + j → get_or s i 0 ≡ get_or s₀ i 0
  down_rest u i h = rw u.is (get_d-before (at + j) (drop j xs) s₀ i h (omega arith))

-- what a turn stores, as `up_more` and `down_more` ask for it: one value, or an element of the list itself
pub same_value : (n i v : ℕ) → i < n → v ≡ get_or (replicate n v) i 0
same_value n i v h = sym (get_or-replicate n i v 0 h)

pub part_value : (from n : ℕ) (l : List ℕ) (i : ℕ) → i < n → get_or l (from + i) 0 ≡ get_or (part from n l) i 0
part_value from n l i h = sym (get_d_part from n l i h)

pub up_value : {at from n : ℕ} {s₀ s : List ℕ} {j : ℕ} → Up at n (part from n s₀) s₀ s j → at ≤ from → j < n
    → get_or s (from + j) 0 ≡ get_or (part from n s₀) j 0
up_value {at} {from} {n} {s₀} {s} {j} u h k = up_rest u (from + j) (omega arith) ∙ part_value from n s₀ j k

pub down_value : {at from n : ℕ} {s₀ s : List ℕ} {j : ℕ} → Down at n (part from n s₀) s₀ s j → from ≤ at → 0 < j
    → get_or s (from + (j - 1)) 0 ≡ get_or (part from n s₀) (j - 1) 0
down_value {at} {from} {n} {s₀} {s} {j} u h k = down_rest u (from + (j - 1)) (omega arith) ∙ part_value from n s₀ (j - 1) (omega arith)

-- k elements moved by way of a list of as many, which holds them in between
pub moved_through : (from to k : ℕ) (b s : List ℕ) {held t : List ℕ} → length b ≡ k → from + k ≤ length s
    → held ≡ put_at 0 (part from k s) b → t ≡ put_at to (part 0 k held) s → t ≡ put_at to (part from k s) s
moved_through from to k b s e h i w = rw (w, i, part_put 0 k (part from k s) b (length_part from k s h) (omega arith))

-- A block of k elements moved at once, of a move whose two stretches may overlap: what it reads is still as it was.
module _ {at from n : ℕ} {s₀ s : List ℕ} {j : ℕ} where
  pub up_block : Up at n (part from n s₀) s₀ s j → at ≤ from → from + n ≤ length s₀ → (k : ℕ) → j + k ≤ n → {t : List ℕ}
      → t ≡ put_at (at + j) (part (from + j) k s) s → Up at n (part from n s₀) s₀ t (j + k)
  up_block u h i k l {t} w =
      let xs : List ℕ = part from n s₀ in
      let len : length (take j xs) ≡ j = length-take-le j xs (omega arith) in
      let read : part (from + j) k s ≡ part j k xs =
      rw u.is (part-after (from + j) k at (take j xs) s₀ (rw len (omega arith)) (rw len (omega arith)) ∙ sym (part_in j k from n s₀ l i)) in
      let put : t ≡ put_at at (take (j + k) xs) s₀ =
      w ∙ rw (read, take-add) (rw u.is (put_next at j (take j xs) (part j k xs) s₀ len (omega arith))) in
      let room : at + length (take (j + k) xs) ≤ length s₀ = rw (length-take-le (j + k) xs (omega arith)) (omega arith) in
      record { len = u.len; fits = u.fits; low = l; same = rw put (length_put at (take (j + k) xs) s₀ room); is = put }

  -- the rest of the move as one block
  pub up_last : Up at n (part from n s₀) s₀ s j → at ≤ from → from + n ≤ length s₀ → {t : List ℕ}
      → t ≡ put_at (at + j) (part (from + j) (n - j) s) s → t ≡ put_at at (part from n s₀) s₀
  up_last u h i w = up_done (up_block u h i (n - j) (omega arith) w) (omega arith)

  pub down_block : Down at n (part from n s₀) s₀ s j → from ≤ at → (k : ℕ) → k ≤ j → {t : List ℕ}
      → t ≡ put_at (at + (j - k)) (part (from + (j - k)) k s) s → Down at n (part from n s₀) s₀ t (j - k)
  down_block u h k l {t} w =
      let xs : List ℕ = part from n s₀ in
      let m : ℕ = j - k in
      let e : j ≡ m + k = omega arith in
      let e' : at + j ≡ at + m + k = omega arith in
      let read : part (from + m) k s ≡ part m k xs =
      rw u.is (part-before (from + m) k (at + j) (drop j xs) s₀ (omega arith) (omega arith) ∙ sym (part_in m k from n s₀ (omega arith) (omega arith))) in
      let len : length (part m k xs) ≡ k = length_part m k xs (omega arith) in
      let rest : part m k xs ++ drop j xs ≡ drop m xs =
      ap (λ (i : ℕ). part m k xs ++ drop i xs) e ∙ ap (λ (r : List ℕ). part m k xs ++ r) (sym (drop-drop k m xs)) ∙ take-append-drop k (drop m xs) in
      let was : s ≡ put_at (at + m + k) (drop j xs) s₀ = u.is ∙ ap (λ (i : ℕ). put_at i (drop j xs) s₀) e' in
      let put : t ≡ put_at (at + m) (drop m xs) s₀ =
      w
      ∙ ap (λ (r : List ℕ). put_at (at + m) r s) read
      ∙ ap (λ (r : List ℕ). put_at (at + m) (part m k xs) r) was
      ∙ put_before (at + m) k (part m k xs) (drop j xs) s₀ len (omega arith)
      ∙ ap (λ (r : List ℕ). put_at (at + m) r s₀) rest in
      record { len = u.len; fits = u.fits; low = omega arith; same = rw put (length_put (at + m) (drop m xs) s₀ (simp length-drop (omega arith))); is = put }

  pub down_last : Down at n (part from n s₀) s₀ s j → from ≤ at → {t : List ℕ} → t ≡ put_at at (part from j s) s → t ≡ put_at at (part from n s₀) s₀
  down_last u h w =
      let none : j - j ≡ 0 = omega arith in
      down_done (down_block u h j (omega arith) (rw (none, add-zero at, add-zero from) w)) (omega arith)

-- what `search` needs for the every need of a loop that moves
pub ruleset moves =
    (up_start, up_more, up_done, down_start, down_more, down_done, same_value, part_value, up_value, down_value, length-replicate, length_part, rules)
