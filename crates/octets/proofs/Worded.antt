-- The invariant of a loop that puts numbers of 2 bytes into a slice from `at` on, one number a turn. Assumes nothing.
use mathlib.Core.Path.{◌≡◌, refl, sym, ap, ◌∙◌}
use mathlib.Core.List.{List, [], ◌∷◌, ◌++◌, append_assoc, append-nil}
use Prim.Native.Nat.{ℕ, ◌+◌, ◌*◌, ◌≤◌, ◌<◌}
use native.Mathlib.Numerals.{add-one}
use native.Mathlib.Omega.{arith}
use borrow.Author.Rules.{rules}
use lib.ListN.{length, take, get_or}
use lib.Seq.{take-suc, take_all, length-take-le}
use Rattle.octets.specs.Parts.{put_at}
use Rattle.octets.specs.Numbers.{bytes_of, unit_bytes, words}
use Rattle.octets.proofs.Lists.{put_nil, put_next, length_put}
use Rattle.octets.proofs.Digits.{length-bytes_of}
use Rattle.octets.proofs.Stands.{length_units}

words_append : (vs ws : List ℕ) → words (vs ++ ws) ≡ words vs ++ words ws
unfolding unit_bytes
words_append [] ws = refl
words_append (v ∷ vs) ws = rw (words_append vs ws, append_assoc)

words_one : (v : ℕ) → words (v ∷ []) ≡ bytes_of 2 v
unfolding unit_bytes
words_one v = append-nil (bytes_of 2 v)

-- s is s₀ with the first j of the numbers vs put
pub record Worded (at : ℕ) (vs s₀ s : List ℕ) (j : ℕ) : Type 0 where
  pub fits : at + 2 * length vs ≤ length s₀
  pub low : j ≤ length vs
  pub same : length s ≡ length s₀
  pub is : s ≡ put_at at (words (take j vs)) s₀

pub worded_start : (at : ℕ) (vs s₀ : List ℕ) → at + 2 * length vs ≤ length s₀ → Worded at vs s₀ s₀ 0
unfolding unit_bytes
worded_start at vs s₀ h = record { fits = h; low = omega arith; same = refl; is = sym (put_nil at s₀) }

module _ {at : ℕ} {vs s₀ s : List ℕ} {j : ℕ} (w : Worded at vs s₀ s j) where
  pub worded_more : j < length vs → (v : ℕ) → v ≡ get_or vs j 0 → {t : List ℕ} → t ≡ put_at (at + 2 * j) (bytes_of 2 v) s → Worded at vs s₀ t (j + 1)
  worded_more h v e {t} p =
      let count : length (take j vs) ≡ j = length-take-le j vs (omega arith) in
      let len : length (words (take j vs)) ≡ 2 * j = length_units 2 (take j vs) ∙ ap (λ (n : ℕ). 2 * n) count in
      let next : words (take (j + 1) vs) ≡ words (take j vs) ++ bytes_of 2 v =
      rw (add-one, take-suc vs j 0, words_append, words_one, e) in
      let put : t ≡ put_at at (words (take (j + 1) vs)) s₀ =
      p ∙ rw (next, w.is) (put_next at (2 * j) (words (take j vs)) (bytes_of 2 v) s₀ len (omega arith)) in
      record {
        fits = w.fits;
        low = omega arith;
        same = rw p (length_put (at + 2 * j) (bytes_of 2 v) s (rw length-bytes_of (omega arith)) ∙ w.same);
        is = put;
      }

  pub worded_done : length vs ≤ j → s ≡ put_at at (words vs) s₀
  worded_done h = let all : take j vs ≡ vs = take_all j vs (omega arith) in cc

-- what `search` needs for the loop's every need
pub ruleset wording = (worded_start, worded_more, worded_done, rules)
