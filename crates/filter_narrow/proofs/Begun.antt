-- How many units begin, step by step, and how long the data are with each unit whole. Assumes nothing.
use Prim.Native.Nat.{ℕ, zero, suc, ◌+◌, ◌*◌}
use mathlib.Core.Path.{◌≡◌, refl, sym, ap, ◌∙◌}
use mathlib.Core.List.{List, [], ◌∷◌, ◌++◌}
use native.Mathlib.Nat.{suc-mul}
use native.Mathlib.Decide.{ℕ_discrete}
use native.Mathlib.Omega.{arith}
use borrow.Author.Tests.{eq-eqb, ne_eqb}
use lib.ListN.{length, length-append}
use Rattle.octets.specs.Numbers.{bytes_of}
use Rattle.octets.proofs.Digits.{length-bytes_of}
use Rattle.filter_format.specs.Narrow.{extended, widen, lacking}
use Rattle.filter_format.proofs.Narrowing.{widen_long, widen_short, lacking_long, lacking_short}
use Rattle.filter_narrow.specs.Counted.{begun}

pub begun_whole : (w : ℕ) (t s : List ℕ) → begun w (length t) (t ++ s) ≡ begun w 0 s
unfolding begun
begun_whole w [] s = refl
begun_whole w (c ∷ t) s = begun_whole w t s

pub begun_long : (w c : ℕ) (s : List ℕ) → c ≡ 128 → begun w 0 (c ∷ s) ≡ suc (begun w w s)
unfolding begun
begun_long w c s e = rw (eq-eqb c 128 e)

pub begun_short : (w c : ℕ) (s : List ℕ) → (c ≡ 128 → ⊥) → begun w 0 (c ∷ s) ≡ suc (begun w 0 s)
unfolding begun
begun_short w c s n = rw (ne_eqb c 128 n)

length_widen_by : (w c : ℕ) (s : List ℕ) → Dec (c ≡ 128) → lacking w 0 (c ∷ s) ≡ 0
    → (lacking w 0 s ≡ 0 → length (widen w 0 s) ≡ 0 + begun w 0 s * w)
    → (lacking w w s ≡ 0 → length (widen w w s) ≡ w + begun w w s * w)
    → length (widen w 0 (c ∷ s)) ≡ 0 + begun w 0 (c ∷ s) * w
length_widen_by w c s (yes q) e short long =
    rw (widen_long w c s q, begun_long w c s q, suc-mul (begun w w s) w) (long (sym (lacking_long w c s q) ∙ e) ∙ omega arith)
length_widen_by w c s (no q) e short long =
    let u : List ℕ = bytes_of w (extended w c) in
    rw (widen_short w c s q, begun_short w c s q, suc-mul (begun w 0 s) w, length-append u (widen w 0 s), length-bytes_of w (extended w c))
    (ap (λ (n : ℕ). w + n) (short (sym (lacking_short w c s q) ∙ e)) ∙ omega arith)

length-widen : (w k : ℕ) (s : List ℕ) → lacking w k s ≡ 0 → length (widen w k s) ≡ k + begun w k s * w
unfolding widen lacking begun
length-widen w zero [] e = omega arith
length-widen w (suc k) [] e = absurd (omega (arith, e))
length-widen w (suc k) (c ∷ s) e = ap suc (length-widen w k s e) ∙ omega arith
length-widen w zero (c ∷ s) e = length_widen_by w c s (ℕ_discrete c 128) e (length-widen w 0 s) (length-widen w w s)

-- the length of the result, by the count: what the room is held against
pub length_widened : (w : ℕ) (s : List ℕ) → lacking w 0 s ≡ 0 → length (widen w 0 s) ≡ begun w 0 s * w
length_widened w s e = let k = length-widen w 0 s e in omega arith
