-- What was judged, of the case that the filter is. Assumes nothing.
use mathlib.Core.Path.{◌≡◌, refl, sym, ap, ◌∙◌, subst}
use mathlib.Core.Bool.{false}
use mathlib.Core.List.{List, []}
use Prim.Native.Nat.{ℕ, ◌+◌, ◌%◌, ◌≤◌}
use lib.ListN.{length}
use Rattle.octets.specs.Parts.{put_at}
use Rattle.octets.proofs.Lists.{put_nil}
use Rattle.filter_format.specs.declared.Filter.{Filter}
use Rattle.filter_format.specs.declared.Filter.TheVariants.{Raw, Delta, Narrow, Follow, Other}
use Rattle.filter_format.specs.Units.{IsWidth, units_of}
use Rattle.filter_format.specs.Narrow.{narrow}
use Rattle.filter_format.specs.Block.{HasUnitWidth, header_length, bad_level}
use Rattle.filter_format.specs.Encode.{bad_given, bad_units, header_rest, encoded_data}
use Rattle.filter_encode.specs.Judged.{data_length, Judged, Headed}
use Rattle.filter_format.proofs.Wholes.{whole_units}
use Rattle.filter_encode.proofs.Lengths.{follow_long}

pub delta-width : {f : Filter} {w : ℕ} → f ≡ Delta w → HasUnitWidth f → IsWidth w
delta-width e k = subst HasUnitWidth e k

pub narrow-width : {f : Filter} {w : ℕ} → f ≡ Narrow w → HasUnitWidth f → (IsWidth w) × (2 ≤ w)
narrow-width e k = subst HasUnitWidth e k

pub narrow_whole : {f : Filter} {w : ℕ} (s : List ℕ) → f ≡ Narrow w → (HasUnitWidth f) × (bad_units f s ≡ false)
    → (length s % w ≡ 0) × (2 ≤ w)
unfolding bad_units
narrow_whole {w = w} s e h =
    let k : (IsWidth w) × (2 ≤ w) = narrow-width e h.0 in
    let u : bad_units (Narrow w) s ≡ false = subst (λ (x : Filter). bad_units x s ≡ false) e h.1 in
    (whole_units w s u, k.1)

-- the header
module _ {f : Filter} (level : ℕ) (follow : List ℕ) (n : ℕ) (h : Headed f level follow n) where
  headed : {g : Filter} → f ≡ g → Headed g level follow n
  headed e = subst (λ (x : Filter). Headed x level follow n) e h

  pub level_fits : {w : ℕ} → f ≡ Delta w → (bad_level level ≡ false) × (header_length (Delta w) ≤ n)
  unfolding bad_given
  level_fits e = headed e

  pub table_fits : f ≡ Follow → (257 ≤ n) × (bad_given Follow level follow ≡ false)
  unfolding header_length
  table_fits e = ((headed e).1, (headed e).0)

  -- a filter with nothing behind its format byte
  pub no_rest : ((w : ℕ) → f ≡ Delta w → ⊥) → (f ≡ Follow → ⊥) → (out : List ℕ) → out ≡ put_at 1 (header_rest f level follow) out
  unfolding header_rest
  no_rest d k out = rw (nothing f d k) (sym (put_nil 1 out))
    where
      nothing : (g : Filter) → ((w : ℕ) → g ≡ Delta w → ⊥) → (g ≡ Follow → ⊥) → header_rest g level follow ≡ []
      nothing Raw d k = refl
      nothing (Delta w) d k = absurd (d w refl)
      nothing (Narrow w) d k = refl
      nothing Follow d k = absurd (k refl)
      nothing Other d k = refl

-- the data, at their start
module _ {f : Filter} (level : ℕ) (follow s : List ℕ) {start : ℕ} (b : start ≡ header_length f) where
  pub data_put : {g : Filter} → f ≡ g → (out : List ℕ) {out' : List ℕ} → out' ≡ put_at start (encoded_data g level follow s) out
      → out' ≡ put_at (header_length f) (encoded_data f level follow s) out
  data_put e out k = k ∙ rw (b, e)

  module _ (n : ℕ) (h : Judged f level follow s n) where
    judged_as : {g : Filter} → f ≡ g → Judged g level follow s n
    judged_as e = subst (λ (x : Filter). Judged x level follow s n) e h

    begins : {g : Filter} → f ≡ g → start ≡ header_length g
    begins e = b ∙ ap header_length e

    pub delta-fits : {w : ℕ} → f ≡ Delta w → (length s % w ≡ 0) × (start + length s ≤ n)
    unfolding bad_units data_length
    delta-fits {w = w} e = let k = judged_as e in (whole_units w s k.3, rw (begins e) k.4)

    pub narrow-fits : {w : ℕ} → f ≡ Narrow w → (length s % w ≡ 0) × (start + length (narrow w (units_of w s)) ≤ n)
    unfolding bad_units data_length
    narrow-fits {w = w} e = let k = judged_as e in (whole_units w s k.3, rw (begins e) k.4)

    pub follow_fits : f ≡ Follow → (length follow ≡ 256) × (start + length s ≤ n)
    unfolding data_length
    follow_fits e = let k = judged_as e in (follow_long level follow k.2, rw (begins e) k.4)
