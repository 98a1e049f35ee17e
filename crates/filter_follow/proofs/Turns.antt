-- Each byte of format 72 by the one before it, both ways, and the loops' invariant. Assumes nothing.
use Rattle.std.proofs.Common.{add-one, ◌≡◌, ℕ, zero, suc, ◌+◌, ◌-◌, ◌<◌, ◌≤◌, List, [], ◌∷◌, length, get_or, set, sym, refl, ap, ◌∙◌, add-zero, arith, length-set, get_or-set_same, drop-set-lt}
use lib.Seq.{set-get_or, take-set-le}
use Rattle.octets.specs.Parts.{put_at}
use Rattle.octets.proofs.Moves.{Up, up_start, up_more, up_done}
use Rattle.filter_format.specs.Delta.{scan, latest}
use Rattle.filter_format.specs.Follow.{predicted, followed, unfollowed}
use Rattle.filter_format.proofs.Following.{length-followed, length-unfollowed}

-- what a scan puts at j, by what it remembers there: that is p, and then what a scan puts that writes what it remembers
scan-at : (o g : ℕ → ℕ → ℕ) (p : ℕ) (xs : List ℕ) (j : ℕ) → j < length xs
    → get_or (scan o g p xs) j 0 ≡ o (get_or (p ∷ scan g g p xs) j 0) (get_or xs j 0)
unfolding scan
scan-at o g p [] j h = absurd (omega arith)
scan-at o g p (x ∷ xs) zero h = refl
scan-at o g p (x ∷ xs) (suc j) h = scan-at o g (g p x) xs j (omega arith)

scan-latest : (p : ℕ) (xs : List ℕ) → scan latest latest p xs ≡ xs
unfolding scan
scan-latest p [] = refl
scan-latest p (x ∷ xs) = ap (λ (l : List ℕ). x ∷ l) (scan-latest x xs)

-- `made` is of xs: the first byte as it is, each other one predicted by the byte before it in `seen`
pub record Made (f seen xs made : List ℕ) : Type 0 where
  pub all : length made ≡ length xs
  pub first : get_or made 0 0 ≡ get_or xs 0 0
  pub shown : get_or seen 0 0 ≡ get_or xs 0 0
  pub next : (j : ℕ) → suc j < length xs → get_or made (suc j) 0 ≡ predicted f (get_or seen j 0) (get_or xs (suc j) 0)

pub made-followed : (f xs : List ℕ) → Made f xs xs (followed f xs)
unfolding followed
made-followed f [] = record { all = refl; first = refl; shown = refl; next = λ j h. absurd (omega arith) }
made-followed f (x ∷ ys) = record {
  all = length-followed f (x ∷ ys);
  first = refl;
  shown = refl;
  next =
      λ j h.
      scan-at (predicted f) latest x ys j (omega arith)
      ∙ ap (λ (l : List ℕ). predicted f (get_or (x ∷ l) j 0) (get_or ys j 0)) (scan-latest x ys);
}

pub made-unfollowed : (f xs : List ℕ) → Made f (unfollowed f xs) xs (unfollowed f xs)
unfolding unfollowed
made-unfollowed f [] = record { all = refl; first = refl; shown = refl; next = λ j h. absurd (omega arith) }
made-unfollowed f (x ∷ ys) = record {
  all = length-unfollowed f (x ∷ ys);
  first = refl;
  shown = refl;
  next = λ j h. scan-at (predicted f) (predicted f) x ys j (omega arith);
}

-- the first j bytes of what is made are put, and p is the byte before the next one
pub record Turn (at : ℕ) (f seen xs made s₀ s : List ℕ) (p j : ℕ) : Type 0 where
  pub by : Made f seen xs made
  pub up : Up at (length xs) made s₀ s j
  pub begun : 0 < j
  pub last : p ≡ get_or seen (j - 1) 0

module _ (at : ℕ) (s₀ : List ℕ) {f seen xs made : List ℕ} (m : Made f seen xs made) (room : at + length xs ≤ length s₀) where
  pub none : length xs ≡ 0 → s₀ ≡ put_at at made s₀
  none e = up_done (up_start at (length xs) made s₀ m.all room) (omega arith)

  -- the loop begins with the first byte put
  pub start : 0 < length xs → Turn at f seen xs made (set s₀ at (get_or xs 0 0)) (set s₀ at (get_or xs 0 0)) (get_or xs 0 0) 1
  start h =
      let s₁ : List ℕ = set s₀ at (get_or xs 0 0) in
      let there : get_or s₁ at 0 ≡ get_or xs 0 0 = get_or-set_same s₀ at (get_or xs 0 0) 0 (omega arith) in
      let fits : at + length xs ≤ length s₁ = rw (length-set s₀ at (get_or xs 0 0)) room in
      let u = up_more (up_start at (length xs) made s₁ m.all fits) h (get_or s₁ at 0) (there ∙ sym m.first) in
      record {
        by = m;
        up = rw (add-zero at, set-get_or s₁ at 0) at u;
        begun = omega arith;
        last = sym m.shown;
      }

module _ {at : ℕ} {f seen xs made s₁ s : List ℕ} {p j : ℕ} (t : Turn at f seen xs made s₁ s p j) where
  -- the byte v is put: what is remembered then is the byte of `seen` there
  pub more : j < length xs → {v n x i : ℕ} → x ≡ get_or xs j 0 → v ≡ predicted f p x → (v ≡ get_or made j 0 → n ≡ get_or seen j 0) → i ≡ at + j
      → Turn at f seen xs made s₁ (set s i v) n (j + 1)
  more h {v} ex ev k here =
      let is-next : suc (j - 1) ≡ j = omega (arith, t.begun) in
      let there = rw is-next at (t.by.next (j - 1) (omega (arith, t.begun))) in
      let put : v ≡ get_or made j 0 = rw (ex, t.last) at ev ∙ sym there in
      let one_less : j + 1 - 1 ≡ j = omega arith in
      record { by = t.by; up = rw here (up_more t.up h v put); begun = omega arith; last = rw one_less (k put) }

  -- s₀ is the buffer before the first byte was put
  module _ (s₀ : List ℕ) (e : s₁ ≡ set s₀ at (get_or xs 0 0)) where
    pub done : 0 < length xs → length xs ≤ j → s ≡ put_at at made s₀
    unfolding put_at
    done some h =
        let x : ℕ = get_or xs 0 0 in
        let put = rw e at (up_done t.up h) in
        rw (take-set-le at s₀ at x (omega arith), drop-set-lt (at + length made) s₀ at x (omega (arith, t.by.all))) at put

-- the first byte, and the byte at j of those after it
module _ {x : ℕ} {xs ys : List ℕ} (e : xs ≡ x ∷ ys) where
  pub first_byte : x ≡ get_or xs 0 0
  first_byte = rw e

  pub byte_after : (j : ℕ) → get_or ys j 0 ≡ get_or xs (j + 1) 0
  byte_after j = rw (add-one j, e)
