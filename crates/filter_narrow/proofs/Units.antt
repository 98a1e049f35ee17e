-- Units narrowed: one of them, and the invariants of the loops over all of them, which speak of the rest that is still
-- to come. Assumes nothing.
use mathlib.Core.Path.{◌≡◌, refl, sym, ap, ◌∙◌}
use mathlib.Core.Bool.{Bool, true, false, cond, ◌||◌}
use mathlib.Core.List.{List, [], ◌∷◌, ◌++◌}
use Prim.Native.Nat.{ℕ, zero, suc, ◌+◌, ◌*◌, ◌/◌, ◌%◌, ◌<◌, ◌≤◌}
use native.Mathlib.Omega.{arith}
use borrow.Author.Tests.{leb-true}
use lib.Dec.{leb}
use lib.ListN.{length, set, take, drop, length-append}
use lib.Seq.{drop-drop}
use Rattle.std.proofs.Common.{add-one, take_at, drop_at, take_all}
use Rattle.std.proofs.Math.Nat.{add-div_left, add-mod_left, mod-eq_of_lt, zero-div}
use Rattle.std.proofs.lemmas.List.{nil_from_length}
use Rattle.octets.specs.Parts.{put_at}
use Rattle.octets.specs.Numbers.{number, bytes_of, units_at}
use Rattle.octets.proofs.Lists.{put_sets, put_put}
use Rattle.octets.proofs.Digits.{length-bytes_of}
use Rattle.filter_format.specs.Units.{units_of}
use Rattle.filter_format.specs.Narrow.{least_narrowed, narrow_unit, narrow}
use Rattle.filter_narrow.specs.Counted.{fits_one}
use Rattle.filter_narrow.proofs.Filling.{Filling, filling_start, filling_room, filling_more, filling_done}

-- t is what the test of the unit u gave
module _ (w u : ℕ) {t : Bool} (e : t ≡ fits_one w u) where
  narrow_one : t ≡ true → narrow_unit w u ≡ u % 256 ∷ []
  unfolding narrow_unit
  narrow_one f = go (leb u 127) (leb (least_narrowed w) u) refl (sym e ∙ f)
    where
      go : (a b : Bool) → leb u 127 ≡ a → (a || b) ≡ true
          → cond a (u ∷ []) (cond b (u % 256 ∷ []) (128 ∷ bytes_of w u)) ≡ u % 256 ∷ []
      go true b h o = let small = leb-true u 127 h in ap (λ (x : ℕ). x ∷ []) (let q : u ≡ u % 256 = omega arith in q)
      go false true h o = refl
      go false false h o = cc

  narrow_whole : t ≡ false → narrow_unit w u ≡ 128 ∷ bytes_of w u
  unfolding narrow_unit
  narrow_whole f = go (leb u 127) (leb (least_narrowed w) u) (sym e ∙ f)
    where
      go : (a b : Bool) → (a || b) ≡ false → cond a (u ∷ []) (cond b (u % 256 ∷ []) (128 ∷ bytes_of w u)) ≡ 128 ∷ bytes_of w u
      go true b o = cc
      go false true o = cc
      go false false o = refl

  pub length_one : t ≡ true → length (narrow_unit w u) ≡ 1
  length_one f = ap length (narrow_one f)

  pub length_whole : t ≡ false → length (narrow_unit w u) ≡ 1 + w
  length_whole f = ap length (narrow_whole f) ∙ ap suc (length-bytes_of w u) ∙ omega arith

  module _ (at : ℕ) (out : List ℕ) (room : at + length (narrow_unit w u) ≤ length out) where
    pub put_one : t ≡ true → set out at (u % 256) ≡ put_at at (narrow_unit w u) out
    put_one f = rw (narrow_one f) (put_sets (u % 256 ∷ []) out at (omega (arith, length_one f, room)))

    pub put_whole : t ≡ false → (out' : List ℕ) → out' ≡ put_at (at + 1) (bytes_of w u) (set out at 128)
        → out' ≡ put_at at (narrow_unit w u) out
    put_whole f out' d =
        let h : at + 1 ≤ length out = omega (arith, length_whole f, room) in
        let first = ap (λ (l : List ℕ). put_at (at + 1) (bytes_of w u) l) (put_sets (128 ∷ []) out at h) in
        d ∙ rw (narrow_whole f) (first ∙ put_put at (128 ∷ []) (bytes_of w u) out h)

-- the data r are the bytes x of a unit and then r'
pub record Turn (w : ℕ) (x r r' : List ℕ) : Type 0 where
  pub is : r ≡ x ++ r'
  pub long : length x ≡ w
  pub positive : 0 < w

units_after : (w k : ℕ) (x t : List ℕ) → length x ≡ k → (n p q : ℕ) → q ≡ k + p → units_at w n q (x ++ t) ≡ units_at w n p t
unfolding units_at number
units_after w k x t h zero p q e = refl
units_after w k x t h (suc n) p q e =
    let there : drop q (x ++ t) ≡ drop p t = rw e (sym (drop-drop p k (x ++ t)) ∙ ap (drop p) (drop_at x t k h)) in
    rw (there, units_after w k x t h n (p + w) (q + w) (omega arith))

module _ {w : ℕ} {x r r' : List ℕ} (t : Turn w x r r') where
  longer : length r ≡ w + length r'
  longer = ap length t.is ∙ length-append x r' ∙ ap (λ (k : ℕ). k + length r') t.long

  -- its unit, and those after it
  units_next : units_of w r ≡ number w 0 x ∷ units_of w r'
  unfolding units_at number
  units_next =
      let count : length r / w ≡ suc (length r' / w) = ap (λ (k : ℕ). k / w) longer ∙ add-div_left (length r') t.positive ∙ add-one (length r' / w) in
      let first : take w (x ++ r') ≡ take w x = take_at x r' w t.long ∙ sym (take_all w x (omega (arith, t.long))) in
      rw (count, t.is, first, units_after w w x r' t.long (length r' / w) 0 (0 + w) (omega arith))

  pub whole_next : length r % w ≡ 0 → length r' % w ≡ 0
  whole_next h = sym (ap (λ (k : ℕ). k % w) longer ∙ add-mod_left w (length r')) ∙ h

  pub narrow_next : (u : ℕ) → u ≡ number w 0 x → narrow w (units_of w r) ≡ narrow_unit w u ++ narrow w (units_of w r')
  unfolding narrow
  narrow_next u e = rw (units_next, e)

-- no whole unit is left
narrow_none : (w : ℕ) (r : List ℕ) → length r % w ≡ 0 → length r < w → narrow w (units_of w r) ≡ []
unfolding units_at narrow
narrow_none w r whole less = let none = nil_from_length r (sym (mod-eq_of_lt less) ∙ whole) in rw (none, zero-div w)

-- the units before the rest r take `size` bytes; they hold at least two bytes each, so that the sum stays small
pub record Measuring (w size : ℕ) (r s : List ℕ) : Type 0 where
  pub whole : length r % w ≡ 0
  pub sum : size + length (narrow w (units_of w r)) ≡ length (narrow w (units_of w s))
  pub few : 2 * size + 3 * length r ≤ 3 * length s
  pub wide : 2 ≤ w

module _ {w size : ℕ} {r s : List ℕ} (m : Measuring w size r s) where
  pub measuring_more : {x r' : List ℕ} → Turn w x r r' → (u n : ℕ) → u ≡ number w 0 x → n ≡ length (narrow_unit w u) → n ≤ w + 1 → Measuring w (size + n) r' s
  measuring_more {x} {r'} t u n e l h =
      let k = ap length (narrow_next t u e) ∙ length-append (narrow_unit w u) (narrow w (units_of w r')) in
      let long = ap length t.is ∙ length-append x r' in
      record { whole = whole_next t m.whole; sum = omega (arith, m.sum, k, l); few = omega (arith, m.few, m.wide, h, long, t.long); wide = m.wide }

  pub measuring_done : length r < w → (size ≡ length (narrow w (units_of w s))) × (2 * size ≤ 3 * length s)
  measuring_done h = let k = ap length (narrow_none w r m.whole h) in (omega (arith, m.sum, k), omega (arith, m.few))

-- the units before the rest r are put, from `at` up to `to`
pub record Narrowing (w at to : ℕ) (r s out₀ out : List ℕ) : Type 0 where
  pub whole : length r % w ≡ 0
  pub filling : Filling at to (narrow w (units_of w r)) (narrow w (units_of w s)) out₀ out

pub narrowing_start : (w at : ℕ) (s out : List ℕ) → length s % w ≡ 0 → at + length (narrow w (units_of w s)) ≤ length out
    → Narrowing w at at s s out out
narrowing_start w at s out e h = record { whole = e; filling = filling_start at (narrow w (units_of w s)) out h }

module _ {w at to : ℕ} {r s out₀ out : List ℕ} (m : Narrowing w at to r s out₀ out) where
  module _ {x r' : List ℕ} (t : Turn w x r r') (u : ℕ) (e : u ≡ number w 0 x) where
    pub narrowing_room : to + length (narrow_unit w u) ≤ length out
    narrowing_room = filling_room m.filling (narrow_unit w u) (narrow w (units_of w r')) (narrow_next t u e)

    pub narrowing_more : {next : ℕ} {out' : List ℕ} → next ≡ to + length (narrow_unit w u) → out' ≡ put_at to (narrow_unit w u) out
        → Narrowing w at next r' s out₀ out'
    narrowing_more {next} {out'} n d = record {
      whole = whole_next t m.whole;
      filling = filling_more m.filling (narrow_unit w u) (narrow w (units_of w r')) (narrow_next t u e) next out' n d;
    }

  pub narrowing_done : length r < w → out ≡ put_at at (narrow w (units_of w s)) out₀
  narrowing_done h = filling_done m.filling (narrow_none w r m.whole h)
