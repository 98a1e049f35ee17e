-- A pass for each level over data that were copied: the levels left, of what stands, come to all the levels of the
-- data. One argument for both ways. Assumes nothing.
use Rattle.std.proofs.Common.{◌≡◌, ℕ, suc, ◌+◌, ◌-◌, ◌%◌, ◌<◌, ◌≤◌, List, length, drop, get_or, sym, ap, ◌∙◌, append_assoc, arith}
use Rattle.std.proofs.Math.Nat.{sub-zero}
use lib.Seq.{drop-drop}
use borrow.Rule.Slice.PartMut.{put_mid}
use Rattle.octets.specs.Parts.{put_at}
use Rattle.octets.specs.Numbers.{Bytes}
use Rattle.octets.proofs.AllBytes.{bytes_of_lem}
use Rattle.filter_format.specs.Delta.{undelta_bytes, delta_bytes}
use Rattle.filter_format.proofs.Levels.{undelta_next, delta_next, undelta_none, delta_none, length-undelta, length-delta}

-- f k makes k levels of data in units of w bytes
pub record Way (w : ℕ) (f : ℕ → List ℕ → List ℕ) : Type 0 where
  pub next : (s : List ℕ) (k : ℕ) → f k (f 1 s) ≡ f (suc k) s
  pub none : (s : List ℕ) → length s % w ≡ 0 → Bytes s → f 0 s ≡ s
  pub same : (s : List ℕ) → length s % w ≡ 0 → (k : ℕ) → length (f k s) ≡ length s

module _ (w : ℕ) (positive : 0 < w) where
  pub undone : Way w (undelta_bytes w)
  undone = record { next = undelta_next w positive; none = undelta_none w positive; same = length-undelta w positive }

  pub done : Way w (delta_bytes w)
  done = record { next = delta_next w positive; none = delta_none w positive; same = length-delta w positive }

-- `made` of the levels are made of s: that is t
pub record Levels (w : ℕ) (f : ℕ → List ℕ → List ℕ) (level made : ℕ) (s t : List ℕ) : Type 0 where
  pub way : Way w f
  pub whole : length s % w ≡ 0
  pub same : length t ≡ length s
  pub bytes : (i : ℕ) → get_or t i 0 < 256
  pub comes : f (level - made) t ≡ f level s

pub levels_start : {w : ℕ} {f : ℕ → List ℕ → List ℕ} → Way w f → (level : ℕ) {s t : List ℕ} → length s % w ≡ 0 → t ≡ s → ((i : ℕ) → get_or t i 0 < 256)
    → Levels w f level 0 s t
levels_start {w} {f} way level {s} {t} whole e bytes = record { way = way; whole = whole; same = ap length e; bytes = bytes; comes = rw (sub-zero level) (ap (f level) e) }

module _ {w level made : ℕ} {f : ℕ → List ℕ → List ℕ} {s t : List ℕ} (l : Levels w f level made s t) where
  in_units : length t % w ≡ 0
  in_units = rw l.same l.whole

  -- a pass has made one level more
  pub levels_more : made < level → {t' : List ℕ} → t' ≡ f 1 t → ((i : ℕ) → get_or t' i 0 < 256) → Levels w f level (made + 1) s t'
  levels_more some {t'} e bytes =
      let one : suc (level - (made + 1)) ≡ level - made = omega arith in
      record {
        way = l.way;
        whole = l.whole;
        same = ap length e ∙ l.way.same t in_units 1 ∙ l.same;
        bytes = bytes;
        comes = ap (f (level - (made + 1))) e ∙ l.way.next t (level - (made + 1)) ∙ ap (λ (k : ℕ). f k t) one ∙ l.comes;
      }

  -- all are made, and the part of the buffer that was lent to them is back
  pub levels_put : level ≤ made → (at : ℕ) (out : List ℕ)
      → put_mid at (at + length s - at) out t ≡ put_at at (f level s) out
  unfolding put_at
  levels_put all at out =
      let none : level - made ≡ 0 = omega arith in
      let is : t ≡ f level s = sym (l.way.none t in_units (bytes_of_lem t l.bytes)) ∙ rw none at l.comes in
      let n : at + length s - at ≡ length s = omega arith in
      let end : at + length (f level s) ≡ at + length s = ap (λ (xs : List ℕ). at + length xs) (sym is) ∙ ap (λ (k : ℕ). at + k) l.same in
      rw (n, end, drop-drop (length s) at out, is) (sym (append_assoc _ (f level s) (drop (at + length s) out)))
