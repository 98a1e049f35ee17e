-- The walk over units of formats 70 and 71, a unit a turn: the invariants of the count and of the loop that puts the
-- units whole. Each speaks of the rest that is still to be walked. Assumes nothing.
use mathlib.Core.Path.{◌≡◌, sym, ap, ◌∙◌}
use mathlib.Core.List.{List, ◌∷◌, ◌++◌}
use Prim.Native.Nat.{ℕ, suc, ◌+◌, ◌<◌, ◌≤◌}
use native.Mathlib.Omega.{arith}
use borrow.Author.Tests.{lt-ltb, le-ltb}
use lib.ListN.{length, take, drop, take-append-drop, length-drop}
use Rattle.std.proofs.Common.{length-take-le}
use Rattle.std.specs.Prelude.{Some, None}
use Rattle.std.proofs.lemmas.List.{nil_from_length}
use Rattle.octets.specs.Parts.{put_at}
use Rattle.octets.specs.Numbers.{number, bytes_of, Bytes}
use Rattle.octets.proofs.AllBytes.{bytes_take, bytes_drop}
use Rattle.octets.proofs.Digits.{length-bytes_of, bytes_of-big_endian}
use Rattle.filter_format.specs.Narrow.{extended, widen, lacking}
use Rattle.filter_format.proofs.Narrowing.{widen_whole, lacking_whole, widen_long, widen_short, lacking_long, lacking_short, enough}
use Rattle.filter_narrow.specs.Counted.{begun, counted}
use Rattle.filter_narrow.proofs.Begun.{begun_whole, begun_long, begun_short}
use Rattle.filter_narrow.proofs.Filling.{Filling, filling_start, filling_room, filling_more, filling_done, filling_count}

-- the unit that begins the data r has the bytes u, and r' are those after it
pub record Turn (w : ℕ) (u r r' : List ℕ) : Type 0 where
  pub after : length r' < length r
  pub long : length u ≡ w
  pub widens : widen w 0 r ≡ u ++ widen w 0 r'
  pub lacks : lacking w 0 r ≡ lacking w 0 r'
  pub begins : begun w 0 r ≡ suc (begun w 0 r')

-- a byte that is not 128 is the unit
pub short_turn : (w c : ℕ) (t r : List ℕ) → r ≡ c ∷ t → (c ≡ 128 → ⊥) → Turn w (bytes_of w (extended w c)) r t
short_turn w c t r e n = record {
  after = omega (arith, ap length e);
  long = length-bytes_of w (extended w c);
  widens = rw e (widen_short w c t n);
  lacks = rw e (lacking_short w c t n);
  begins = rw e (begun_short w c t n);
}

module _ (w c : ℕ) (t r : List ℕ) (is : r ≡ c ∷ t) (e : c ≡ 128) where
  -- nothing is lacking, so the unit is there
  pub long_within : lacking w 0 r ≡ 0 → w ≤ length t
  long_within none = enough w w t (sym (lacking_long w c t e) ∙ rw is at none)

  -- after 128 comes the unit
  pub long_turn : w ≤ length t → Turn w (take w t) r (drop w t)
  long_turn h =
      let u : List ℕ = take w t in
      let t' : List ℕ = drop w t in
      let n : length u ≡ w = length-take-le w t h in
      let two : t ≡ u ++ t' = sym (take-append-drop w t) in
      record {
        after = omega (arith, ap length is, length-drop w t);
        long = n;
        widens = rw is (widen_long w c t e) ∙ ap (widen w w) two ∙ ap (λ (k : ℕ). widen w k (u ++ t')) (sym n) ∙ widen_whole w u t';
        lacks = rw is (lacking_long w c t e) ∙ ap (lacking w w) two ∙ ap (λ (k : ℕ). lacking w k (u ++ t')) (sym n) ∙ lacking_whole w u t';
        begins =
            rw is (begun_long w c t e)
            ∙ ap suc (ap (begun w w) two ∙ ap (λ (k : ℕ). begun w k (u ++ t')) (sym n) ∙ begun_whole w u t');
      }

-- so many units are counted, and the rest r of the data s has the others
pub record Counting (w units : ℕ) (r s : List ℕ) : Type 0 where
  pub lacks : lacking w 0 r ≡ lacking w 0 s
  pub sum : units + begun w 0 r ≡ begun w 0 s
  pub few : units + length r ≤ length s

module _ {w units : ℕ} {r s : List ℕ} (m : Counting w units r s) where
  pub counting_more : {u r' : List ℕ} → Turn w u r r' → Counting w (units + 1) r' s
  counting_more t = record { lacks = sym t.lacks ∙ m.lacks; sum = omega (arith, m.sum, t.begins); few = omega (arith, m.few, t.after) }

  -- the unit after 128 is cut short
  pub counting_lacking : (c : ℕ) (t : List ℕ) → r ≡ c ∷ t → c ≡ 128 → length t < w → None ≡ counted w s
  unfolding counted
  counting_lacking c t is e short =
      let some : lacking w 0 s ≡ 0 → ⊥ = λ none. (let k = long_within w c t r is e (m.lacks ∙ none) in omega (arith, k)) in
      rw (lt-ltb 0 (lacking w 0 s) (omega (arith, some)))

  pub counting_done : length r ≡ 0 → Some units ≡ counted w s
  unfolding counted lacking begun
  counting_done h =
      let none = nil_from_length r h in
      let e : lacking w 0 s ≡ 0 = sym m.lacks ∙ ap (lacking w 0) none in
      let n : begun w 0 s ≡ units = sym m.sum ∙ rw none (omega arith) in
      rw (le-ltb 0 (lacking w 0 s) (omega (arith, e)), n)

-- the units before the rest r are put, up to `to`
pub record Widening (w to : ℕ) (r s out₀ out : List ℕ) : Type 0 where
  pub bytes : Bytes r
  pub whole : lacking w 0 r ≡ 0
  pub filling : Filling 0 to (widen w 0 r) (widen w 0 s) out₀ out

pub widening_start : (w : ℕ) (s out : List ℕ) → Bytes s → lacking w 0 s ≡ 0 → length (widen w 0 s) ≤ length out → Widening w 0 s s out out
widening_start w s out y e h = record { bytes = y; whole = e; filling = filling_start 0 (widen w 0 s) out (omega arith) }

module _ {w to : ℕ} {r s out₀ out : List ℕ} (m : Widening w to r s out₀ out) where
  pub widening_done : length r ≡ 0 → (to ≡ length (widen w 0 s)) × (out ≡ put_at 0 (widen w 0 s) out₀)
  unfolding widen
  widening_done h =
      let none = ap (widen w 0) (nil_from_length r h) in
      (filling_count m.filling none ∙ omega arith, filling_done m.filling none)

  module _ {u r' : List ℕ} (t : Turn w u r r') where
    fits : to + w ≤ length out
    fits = rw t.long at (filling_room m.filling u (widen w 0 r') t.widens)

    more_by : Bytes r' → (v : ℕ) (out' : List ℕ) → bytes_of w v ≡ u → out' ≡ put_at to (bytes_of w v) out → Widening w (to + w) r' s out₀ out'
    more_by y v out' e d = record {
      bytes = y;
      whole = sym t.lacks ∙ m.whole;
      filling = filling_more m.filling u (widen w 0 r') t.widens (to + w) out' (rw t.long) (rw e at d);
    }

  module _ (c : ℕ) (t : List ℕ) (is : r ≡ c ∷ t) where
    -- after 128 the unit's bytes come
    module _ (e : c ≡ 128) where
      pub long_inside : w ≤ length t
      long_inside = long_within w c t r is e m.whole

      pub long_fits : to + w ≤ length out
      long_fits = fits (long_turn w c t r is e long_inside)

      pub long_more : {v : ℕ} {out' : List ℕ} → v ≡ number w 0 t → out' ≡ put_at to (bytes_of w v) out → Widening w (to + w) (drop w t) s out₀ out'
      unfolding number
      long_more {v} {out'} k d =
          let u : List ℕ = take w t in
          let n : length u ≡ w = length-take-le w t long_inside in
          let bytes : Bytes t = (rw is at m.bytes).1 in
          let same : bytes_of w v ≡ u = rw k (ap (λ (i : ℕ). bytes_of i (number w 0 t)) (sym n) ∙ bytes_of-big_endian u (bytes_take w t bytes) 0) in
          more_by (long_turn w c t r is e long_inside) (bytes_drop w t bytes) v out' same d

    -- another byte is the unit
    module _ (n : c ≡ 128 → ⊥) where
      pub short_fits : to + w ≤ length out
      short_fits = fits (short_turn w c t r is n)

      pub short_more : {v : ℕ} {out' : List ℕ} → v ≡ extended w c → out' ≡ put_at to (bytes_of w v) out → Widening w (to + w) t s out₀ out'
      short_more {v} {out'} k d = more_by (short_turn w c t r is n) (rw is at m.bytes).1 v out' (rw k) d
