-- A part of a slice that was written to, and a number's low bytes. Assumes nothing.
use Prim.Native.Nat.{ℕ, zero, suc, ◌+◌, ◌-◌, ◌/◌, ◌%◌, ◌^◌, ◌≤◌}
use mathlib.Core.Path.{◌≡◌, refl, sym, ap, ◌∙◌}
use mathlib.Core.List.{List, ◌∷◌, append_assoc}
use native.Mathlib.Nat.{div-one, suc-add, zero-add}
use native.Mathlib.Omega.{arith}
use borrow.Rule.Slice.PartMut.{put_mid}
use lib.ListN.{length, take, drop}
use lib.Seq.{paste, drop-drop, take_all}
use Rattle.std.specs.Int.{w64, to_be_bytes, bytes_high_first}
use Rattle.octets.specs.Parts.{part, put_at}
use Rattle.octets.specs.Numbers.{bytes_of}
use Rattle.octets.proofs.Lists.{length_part}
use Rattle.octets.proofs.Digits.{length-bytes_of}

-- the part of k bytes from place `at` on holds xs now
pub written : (at k : ℕ) (l ys xs : List ℕ) → ys ≡ xs → k ≡ length xs → put_mid at k l ys ≡ put_at at xs l
unfolding put_at
written at k l ys xs e h = rw (e, h, drop-drop, append_assoc)

-- the n bytes from `from` on, as the library's copy_within writes them
pub pasted : (from to n m : ℕ) (l : List ℕ) {t : List ℕ} → from + n ≤ length l → m ≡ n → t ≡ paste l to (drop from l) m → t ≡ put_at to (part from n l) l
unfolding put_at
pasted from to n m l h e w = w ∙ rw (e, length_part from n l h)

high-first : (k v : ℕ) → bytes_high_first k v ≡ bytes_of k v
unfolding bytes_of
high-first zero v = refl
high-first (suc zero) v = rw div-one
high-first (suc (suc k)) v = ap (λ (xs : List ℕ). v / 256 ^ suc k % 256 ∷ xs) (high-first (suc k) v)

drop-high : (j k v : ℕ) → drop j (bytes_of (j + k) v) ≡ bytes_of k v
unfolding bytes_of
drop-high zero k v = rw zero-add
drop-high (suc j) k v = rw suc-add (drop-high j k v)

-- the last k of the eight bytes of v are its k low ones
pub low_bytes : (k v : ℕ) (b : List ℕ) → k ≤ 8 → b ≡ to_be_bytes w64 v → take (8 - (8 - k)) (drop (8 - k) b) ≡ bytes_of k v
low_bytes k v b h e =
    let n : 8 - (8 - k) ≡ k = omega arith in
    let m : 8 - k + k ≡ 8 = omega arith in
    let all : b ≡ bytes_of (8 - k + k) v = e ∙ high-first 8 v ∙ ap (λ (i : ℕ). bytes_of i v) (sym m) in
    rw (n, all, drop-high) (take_all k (bytes_of k v) (omega (arith, length-bytes_of k v)))
