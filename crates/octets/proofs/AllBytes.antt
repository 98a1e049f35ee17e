-- The laws of `Bytes`: which lists hold bytes alone. Assumes nothing.
use Prim.Native.Nat.{ℕ, zero, suc, ◌-◌, ◌/◌, ◌^◌, ◌<◌}
use mathlib.Core.Path.{◌≡◌, refl}
use mathlib.Core.Bool.{Bool, true, false}
use mathlib.Core.List.{List, [], ◌∷◌, ◌++◌}
use native.Mathlib.Omega.{arith}
use native.Mathlib.Nat.{mod-lt}
use lib.ListN.{length, take, drop, get_or, replicate}
use Rattle.octets.specs.Parts.{part, filled}
use Rattle.octets.specs.Numbers.{Bytes, bytes_of, fields, unit_bytes}
use Rattle.octets.specs.Scans.{leading_count, Every}

-- a slice's elements are bytes: `c.type_inv` says so of each
pub bytes_of_lem : (l : List ℕ) → ((i : ℕ) → get_or l i 0 < 256) → Bytes l
bytes_of_lem [] f = tt
bytes_of_lem (x ∷ xs) f = (f 0, bytes_of_lem xs (λ i. f (suc i)))

pub bytes_both : (xs ys : List ℕ) → Bytes xs → Bytes ys → Bytes (xs ++ ys)
bytes_both [] ys a b = b
bytes_both (x ∷ xs) ys a b = (a.0, bytes_both xs ys a.1 b)

pub bytes_left : (xs ys : List ℕ) → Bytes (xs ++ ys) → Bytes xs
bytes_left [] ys a = tt
bytes_left (x ∷ xs) ys a = (a.0, bytes_left xs ys a.1)

pub bytes_right : (xs ys : List ℕ) → Bytes (xs ++ ys) → Bytes ys
bytes_right [] ys a = a
bytes_right (x ∷ xs) ys a = bytes_right xs ys a.1

pub bytes_take : (n : ℕ) (list : List ℕ) → Bytes list → Bytes (take n list)
bytes_take zero list a = tt
bytes_take (suc n) [] a = tt
bytes_take (suc n) (x ∷ list) a = (a.0, bytes_take n list a.1)

pub bytes_drop : (n : ℕ) (l : List ℕ) → Bytes l → Bytes (drop n l)
bytes_drop zero l a = a
bytes_drop (suc n) [] a = tt
bytes_drop (suc n) (x ∷ l) a = bytes_drop n l a.1

bytes-zeros : (n : ℕ) → Bytes (replicate n 0)
bytes-zeros zero = tt
bytes-zeros (suc n) = (omega arith, bytes-zeros n)

bytes-bytes_of : (k v : ℕ) → Bytes (bytes_of k v)
unfolding bytes_of
bytes-bytes_of zero v = tt
bytes-bytes_of (suc k) v = (mod-lt (v / 256 ^ k) (omega arith), bytes-bytes_of k v)

pub bytes-fields : (xs : List (ℕ × ℕ)) → Bytes (fields xs)
unfolding fields
bytes-fields [] = tt
bytes-fields (x ∷ xs) = bytes_both (bytes_of x.0 x.1) (fields xs) (bytes-bytes_of x.0 x.1) (bytes-fields xs)

pub bytes_units : (w : ℕ) (vs : List ℕ) → Bytes (unit_bytes w vs)
unfolding unit_bytes
bytes_units w [] = tt
bytes_units w (v ∷ vs) = bytes_both (bytes_of w v) (unit_bytes w vs) (bytes-bytes_of w v) (bytes_units w vs)

pub bytes-filled : (n : ℕ) (xs : List ℕ) → Bytes xs → Bytes (filled n xs)
unfolding filled
bytes-filled n xs a = bytes_both xs (replicate (n - length xs) 0) a (bytes-zeros (n - length xs))

-- every element passes a test that bytes alone pass
pub bytes_every : (t : ℕ → Bool) → ((x : ℕ) → t x ≡ true → x < 256) → (xs : List ℕ) → Every t xs → Bytes xs
unfolding leading_count
bytes_every t small [] e = tt
bytes_every t small (x ∷ xs) e = go (t x) refl (bytes_every t small xs)
  where
    go : (s : Bool) → t x ≡ s → (Every t xs → Bytes xs) → Bytes (x ∷ xs)
    go true h more = let a : suc (leading_count t xs) ≡ suc (length xs) = rw h at e in (small x h, more (omega arith))
    go false h more = let a : 0 ≡ suc (length xs) = rw h at e in absurd (omega arith)

pub bytes-part : (at n : ℕ) (list : List ℕ) → Bytes list → Bytes (part at n list)
bytes-part at n list a = bytes_take n (drop at list) (bytes_drop at list a)
