-- Format 72: the way there and back, and a turn of the loop. Assumes nothing.
use mathlib.Core.Path.{◌≡◌, refl, ap}
use mathlib.Core.List.{List, [], ◌∷◌}
use Prim.Native.Nat.{ℕ, suc, ◌+◌, ◌-◌, ◌<◌}
use native.Mathlib.Nat.{mod-lt}
use native.Mathlib.Omega.{arith}
use lib.ListN.{length, get_or}
use Rattle.octets.specs.Numbers.{Below}
use Rattle.filter_format.specs.Delta.{latest}
use Rattle.filter_format.specs.Follow.{predicted, followed, unfollowed}
use Rattle.filter_format.proofs.Scans.{length-scan, there_and_back}

module _ (f : List ℕ) (bytes : (i : ℕ) → get_or f i 0 < 256) where
  predicted-predicted : (p x : ℕ) → p < 256 → x < 256 → predicted f p (predicted f p x) ≡ x
  predicted-predicted p x hp hx = omega (arith, bytes p)

  predicted_lt : (p x : ℕ) → predicted f p x < 256
  predicted_lt p x = mod-lt (get_or f p 0 + (256 - x)) (omega arith)

  pub unfollow_follow : (xs : List ℕ) → Below 256 xs → unfollowed f (followed f xs) ≡ xs
  unfolding followed unfollowed
  unfollow_follow [] h = refl
  unfollow_follow (x ∷ xs) h =
      ap (λ (l : List ℕ). x ∷ l) (there_and_back 256 (predicted f) latest (predicted f) (predicted f) predicted-predicted predicted-predicted (λ p y hp hy. hy) x xs h.0 h.1)

  pub follow_unfollow : (xs : List ℕ) → Below 256 xs → followed f (unfollowed f xs) ≡ xs
  unfolding followed unfollowed
  follow_unfollow [] h = refl
  follow_unfollow (x ∷ xs) h =
      ap (λ (l : List ℕ). x ∷ l) (there_and_back 256 (predicted f) (predicted f) (predicted f) latest predicted-predicted (λ p y hp hy. refl) (λ p y hp hy. predicted_lt p y) x xs h.0 h.1)

pub length-followed : (f xs : List ℕ) → length (followed f xs) ≡ length xs
unfolding followed
length-followed f [] = refl
length-followed f (x ∷ xs) = ap suc (length-scan (predicted f) latest x xs)

pub length-unfollowed : (f xs : List ℕ) → length (unfollowed f xs) ≡ length xs
unfolding unfollowed
length-unfollowed f [] = refl
length-unfollowed f (x ∷ xs) = ap suc (length-scan (predicted f) (predicted f) x xs)
