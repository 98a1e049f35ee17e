-- A buffer with what was made at its front and zeros behind it. Assumes nothing.
use Prim.Native.Nat.{ℕ, ◌<◌, ◌≤◌}
use mathlib.Core.Path.{◌≡◌, sym, ap, ◌∙◌}
use mathlib.Core.Bool.{Bool, true, false, not}
use mathlib.Core.List.{List, []}
use native.Mathlib.Omega.{arith}
use lib.ListN.{length, take}
use Rattle.octets.specs.Parts.{part, put_at, filled}
use Rattle.octets.proofs.Lists.{take-front, length_put, length_part}
use Rattle.answers.specs.Answer.{Answer, Accepted}
use Rattle.filter_format.specs.Undo.{Filtered}
use Rattle.filter_format.specs.Undo.{Result, making, refusing, filtered, second_after}
use Rattle.filter_undo.specs.Sides.{Undid}

-- xs, n bytes of it, was put at the front of s, which is s₁ then
pub record Holds (n : ℕ) (xs s s₁ : List ℕ) : Type 0 where
  pub fits : length xs ≤ length s
  pub is : s₁ ≡ put_at 0 xs s
  pub count : n ≡ length xs

pub holds_all : {n : ℕ} {xs s s₁ : List ℕ} → length xs ≤ length s → (n ≡ length xs) × (s₁ ≡ put_at 0 xs s)
    → Holds n xs s s₁
holds_all h e = record { fits = h; is = e.1; count = e.0 }

-- the data behind the format byte of `here`
module _ {n : ℕ} {s s₁ : List ℕ} (here : List ℕ) (within : n < length here) (fits : n ≤ length s) (is : s₁ ≡ put_at 0 (part 1 n here) s) where
  pub holds-part : Holds n (part 1 n here) s s₁
  holds-part = let l = length_part 1 n here (omega arith) in record { fits = omega arith; is = is; count = sym l }

module _ {n : ℕ} {xs s s₁ : List ℕ} (m : Holds n xs s s₁) where
  pub held_length : length s₁ ≡ length s
  held_length = ap length m.is ∙ length_put 0 xs s (omega (arith, m.fits))

  pub held_inside : n ≤ length s₁
  held_inside = omega (arith, held_length, m.fits, m.count)

  pub held_front : take n s₁ ≡ xs
  held_front = ap (λ (k : ℕ). take k s₁) m.count ∙ ap (take (length xs)) m.is ∙ take-front xs s

  -- then zeros behind it
  pub held_filled : {s₂ : List ℕ} → s₂ ≡ filled (length s₁) (take n s₁) → s₂ ≡ filled (length s) xs
  held_filled e = e ∙ rw (held_length, held_front)

  -- and the other buffer zeroed: a call that makes xs
  pub placed : {s₂ t' : List ℕ} (t : List ℕ) → s₂ ≡ filled (length s₁) (take n s₁) → t' ≡ second_after t
      → Undid (making xs) true s s₂ t t' (record { answer = Accepted; made = n })
  placed t e g = (rw m.count, (held_filled e, g))

-- the same of another list of the same length
pub as_long : (result : Result) (first : Bool) {here' there' : List ℕ} {r : Filtered} (here₁ here there : List ℕ) → length here₁ ≡ length here
    → Undid result first here₁ here' there there' r → Undid result first here here' there there' r
as_long result true here₁ here there e u = (u.0, (u.1.0 ∙ ap (λ (n : ℕ). filled n result.bytes) e, u.1.1))
as_long result false here₁ here there e u = (u.0, (u.1.0 ∙ ap (λ (n : ℕ). filled n []) e, u.1.1))

-- the buffers having changed places
pub swapped : (result : Result) (first : Bool) {here' there' : List ℕ} {r : Filtered} (here there : List ℕ)
    → Undid result (not first) there there' here here' r → Undid result first here here' there there' r
swapped result true here there u = (u.0, (u.1.1, u.1.0))
swapped result false here there u = (u.0, (u.1.1, u.1.0))

-- both zeroed
pub refused : (a : Answer) (first : Bool) {here' there' : List ℕ} {r : Filtered} (here there : List ℕ)
    → (r ≡ filtered (refusing a)) × ((here' ≡ second_after here) × (there' ≡ second_after there)) → Undid (refusing a) first here here' there there' r
refused a true here there u = u
refused a false here there u = u
