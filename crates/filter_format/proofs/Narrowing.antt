-- Formats 70 and 71: the way there and back, and the steps of the way back. Assumes nothing.
use mathlib.Core.Path.{◌≡◌, refl, sym, ap, ◌∙◌}
use mathlib.Core.List.{List, [], ◌∷◌, ◌++◌}
use mathlib.Core.Logic.{◌⊎◌, inl, inr, ⊎_elim}
use Prim.Native.Nat.{ℕ, zero, suc, ◌+◌, ◌-◌, ◌%◌, ◌^◌, ◌<◌, ◌≤◌}
use native.Mathlib.Nat.{pow-suc, one-le-pow}
use native.Mathlib.Decide.{dec_le}
use native.Mathlib.Omega.{arith}
use borrow.Author.Tests.{le-leb, lt-leb, eq-eqb, ne_eqb, lt-ltb, le-ltb}
use lib.ListN.{length}
use Rattle.octets.specs.Numbers.{Below, bytes_of, unit_bytes}
use Rattle.octets.proofs.Digits.{length-bytes_of}
use Rattle.filter_format.specs.Units.{range, IsWidth}
use Rattle.filter_format.specs.Narrow.{least_narrowed, narrow_unit, narrow, extended, widen, lacking}

-- the bytes of a whole unit are taken as they are
pub widen_whole : (w : ℕ) (t s : List ℕ) → widen w (length t) (t ++ s) ≡ t ++ widen w 0 s
unfolding widen
widen_whole w [] s = refl
widen_whole w (c ∷ t) s = ap (λ (l : List ℕ). c ∷ l) (widen_whole w t s)

pub lacking_whole : (w : ℕ) (t s : List ℕ) → lacking w (length t) (t ++ s) ≡ lacking w 0 s
unfolding lacking
lacking_whole w [] s = refl
lacking_whole w (c ∷ t) s = lacking_whole w t s

-- a step at 128, and at another byte
pub widen_long : (w c : ℕ) (s : List ℕ) → c ≡ 128 → widen w 0 (c ∷ s) ≡ widen w w s
unfolding widen
widen_long w c s e = rw (eq-eqb c 128 e)

pub widen_short : (w c : ℕ) (s : List ℕ) → (c ≡ 128 → ⊥) → widen w 0 (c ∷ s) ≡ bytes_of w (extended w c) ++ widen w 0 s
unfolding widen
widen_short w c s n = rw (ne_eqb c 128 n)

pub lacking_long : (w c : ℕ) (s : List ℕ) → c ≡ 128 → lacking w 0 (c ∷ s) ≡ lacking w w s
unfolding lacking
lacking_long w c s e = rw (eq-eqb c 128 e)

pub lacking_short : (w c : ℕ) (s : List ℕ) → (c ≡ 128 → ⊥) → lacking w 0 (c ∷ s) ≡ lacking w 0 s
unfolding lacking
lacking_short w c s n = rw (ne_eqb c 128 n)

-- what is left has the bytes that are to come
pub enough : (w k : ℕ) (s : List ℕ) → lacking w k s ≡ 0 → k ≤ length s
unfolding lacking
enough w zero s e = omega arith
enough w (suc k) [] e = absurd (omega (arith, e))
enough w (suc k) (c ∷ s) e = omega (arith, enough w k s e)

-- a unit is one byte, which is not 128 and stands for it, or whole
abbrev Narrowed : ℕ → ℕ → Type 0
Narrowed w u = ((c : ℕ) × (narrow_unit w u ≡ c ∷ []) × (c ≡ 128 → ⊥) × (extended w c ≡ u)) ⊎ (narrow_unit w u ≡ 128 ∷ bytes_of w u)

narrowed_by : (w u : ℕ) → 0 < w → u < range w → Dec (u ≤ 127) → Dec (least_narrowed w ≤ u) → Narrowed w u
unfolding narrow_unit extended
narrowed_by w u pos fits (yes h) d = inl (u, rw (le-leb u 127 h), (λ e. omega arith), rw (lt-ltb u 128 (omega arith)))
narrowed_by zero u pos fits (no n) d = absurd (omega arith)
narrowed_by (suc v) u pos fits (no n) (yes h) =
    -- the low byte of such a unit is not 128
    let low : (128 < u % 256) × (range (suc v) - 256 + u % 256 ≡ u) = omega (arith, h, fits, pow-suc 256 v, one-le-pow v 256 (omega arith)) in
    inl (u % 256, rw (lt-leb u 127 (omega arith), le-leb (least_narrowed (suc v)) u h), (λ e. omega (arith, e, low.0)), rw (le-ltb (u % 256) 128 (omega (arith, low.0))) low.1)
narrowed_by (suc v) u pos fits (no n) (no h) = inr (rw (lt-leb u 127 (omega arith), lt-leb (least_narrowed (suc v)) u (omega arith)))

module _ (w u : ℕ) (pos : 0 < w) (fits : u < range w) (s : List ℕ) where
  narrowed : Narrowed w u
  narrowed = narrowed_by w u pos fits (dec_le u 127) (dec_le (least_narrowed w) u)

  widen_unit : widen w 0 (narrow_unit w u ++ s) ≡ bytes_of w u ++ widen w 0 s
  widen_unit =
      ⊎_elim
      (λ k. rw k.1 (widen_short w k.0 s k.2 ∙ ap (λ (v : ℕ). bytes_of w v ++ widen w 0 s) k.3))
      (λ e. rw e (widen_long w 128 (bytes_of w u ++ s) refl ∙ ap (λ (n : ℕ). widen w n (bytes_of w u ++ s)) (sym (length-bytes_of w u)) ∙ widen_whole w (bytes_of w u) s))
      narrowed

  lacking_unit : lacking w 0 (narrow_unit w u ++ s) ≡ lacking w 0 s
  lacking_unit =
      ⊎_elim
      (λ k. rw k.1 (lacking_short w k.0 s k.2))
      (λ e. rw e (lacking_long w 128 (bytes_of w u ++ s) refl ∙ ap (λ (n : ℕ). lacking w n (bytes_of w u ++ s)) (sym (length-bytes_of w u)) ∙ lacking_whole w (bytes_of w u) s))
      narrowed

-- undone after done
pub widen-narrow : (w : ℕ) (us : List ℕ) → 0 < w → Below (256 ^ w) us → widen w 0 (narrow w us) ≡ unit_bytes w us
unfolding narrow unit_bytes widen
widen-narrow w [] pos h = refl
widen-narrow w (u ∷ us) pos h = widen_unit w u pos h.0 (narrow w us) ∙ ap (λ (l : List ℕ). bytes_of w u ++ l) (widen-narrow w us pos h.1)

pub lacking-narrow : (w : ℕ) (us : List ℕ) → 0 < w → Below (256 ^ w) us → lacking w 0 (narrow w us) ≡ 0
unfolding narrow lacking
lacking-narrow w [] pos h = refl
lacking-narrow w (u ∷ us) pos h = lacking_unit w u pos h.0 (narrow w us) ∙ lacking-narrow w us pos h.1

-- the unit of one byte at 32 bits, seen at a smaller width
extended_low : (w c : ℕ) → c < 128 → extended w c ≡ c
unfolding extended
extended_low w c h = rw (lt-ltb c 128 h)

extended_high : (w c : ℕ) → 128 ≤ c → extended w c ≡ 256 ^ w - 256 + c
unfolding extended
extended_high w c h = rw (le-ltb c 128 h)

range_by : (w : ℕ) → IsWidth w → (256 ^ w ≡ 256) ⊎ ((256 ^ w ≡ 65536) ⊎ (256 ^ w ≡ 4294967296))
range_by zero h = absurd (omega arith)
range_by (suc zero) h = inl refl
range_by (suc (suc zero)) h = inr (inl refl)
range_by (suc (suc (suc zero))) h = absurd (h.2 refl)
range_by (suc (suc (suc (suc zero)))) h = inr (inr refl)
range_by (suc (suc (suc (suc (suc w))))) h = absurd (omega arith)

seen_by : (w c : ℕ) → IsWidth w → c < 256 → Dec (128 ≤ c) → extended 4 c % 256 ^ w ≡ extended w c
seen_by w c h b (yes k) =
    rw (extended_high 4 c k, extended_high w c k)
    (⊎_elim (λ e. rw e (omega arith)) (⊎_elim (λ e. rw e (omega arith)) (λ e. rw e (omega arith))) (range_by w h))
seen_by w c h b (no k) =
    rw (extended_low 4 c (omega arith), extended_low w c (omega arith))
    (⊎_elim (λ e. rw e (omega arith)) (⊎_elim (λ e. rw e (omega arith)) (λ e. rw e (omega arith))) (range_by w h))

pub extended_seen : (w c : ℕ) → IsWidth w → c < 256 → extended 4 c % 256 ^ w ≡ extended w c
extended_seen w c h b = seen_by w c h b (dec_le 128 c)
