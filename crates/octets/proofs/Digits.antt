-- The laws of numbers and their bytes, over the width. Assumes nothing.
use mathlib.Core.Path.{◌≡◌, refl, ap, ◌∙◌}
use mathlib.Core.List.{List, [], ◌∷◌, ◌++◌}
use Prim.Native.Nat.{ℕ, zero, suc, ◌+◌, ◌*◌, ◌/◌, ◌%◌, ◌^◌, ◌≤◌, ◌<◌}
use native.Mathlib.Nat.{pow-le-pow_right, pow-zero, pow-succ', mod-one, mod-lt, mod-eq_of_lt, one-le-pow, div-one, mod-mod, div-div-eq-div-mul, add_comm, suc-add, zero-add}
use native.Mathlib.Omega.{arith}
use lib.Arith.{digits_lt, digits_div, digits_mod, mod-mul}
use lib.ListN.{length, take, get_or, set, length-take}
use native.Mathlib.Numerals.{add-one, add-two, add-three}
use lib.Pow.{pow-add}
use lib.Seq.{take-add, take-suc, drop-drop}
use Rattle.octets.proofs.Lists.{part_suc, length_part, put_sets, put_put}
use Rattle.octets.proofs.AllBytes.{bytes-part, bytes_take}
use Rattle.octets.specs.Numbers.{big_endian_from, big_endian, number, bytes_of, Bytes}
use Rattle.octets.specs.Parts.{part, put_at}

pub length-bytes_of : (k v : ℕ) → length (bytes_of k v) ≡ k
unfolding bytes_of
length-bytes_of zero v = refl
length-bytes_of (suc k) v = ap suc (length-bytes_of k v)

pos : (k : ℕ) → 0 < 256 ^ k
pos k = one-le-pow k 256 (omega arith)

-- what the digits xs spell after a
big_endian-from : (a : ℕ) (xs : List ℕ) → big_endian_from a xs ≡ a * 256 ^ length xs + big_endian xs
unfolding big_endian_from
big_endian-from a [] = rw pow-zero (omega arith)
big_endian-from a (x ∷ xs) = rw (big_endian-from (a * 256 + x) xs, big_endian-from (0 * 256 + x) xs, pow-succ') (omega arith)

pub big_endian-small : (xs : List ℕ) → Bytes xs → big_endian xs < 256 ^ length xs
unfolding big_endian_from
big_endian-small [] b = omega arith
big_endian-small (x ∷ xs) b = rw (big_endian-from (0 * 256 + x) xs, pow-succ') (omega (arith, digits_lt b.0 (big_endian-small xs b.1)))

bytes_of-from : (k a v : ℕ) → big_endian_from a (bytes_of k v) ≡ a * 256 ^ k + v % 256 ^ k
unfolding big_endian_from bytes_of
bytes_of-from zero a v = rw (pow-zero, mod-one) (omega arith)
bytes_of-from (suc k) a v = rw (bytes_of-from k (a * 256 + v / 256 ^ k % 256) v, pow-succ', mod-mul v {m = 256} (omega arith) (pos k)) (omega arith)

-- the number that v's k low bytes spell
big_endian-bytes_of : (k v : ℕ) → big_endian (bytes_of k v) ≡ v % 256 ^ k
big_endian-bytes_of k v = bytes_of-from k 0 v ∙ omega arith

-- a number that fits k bytes is what they spell
pub big_endian-fits : (k v : ℕ) → v < 256 ^ k → big_endian (bytes_of k v) ≡ v
big_endian-fits k v h = big_endian-bytes_of k v ∙ mod-eq_of_lt h

-- bytes are those of the number that they spell
pub bytes_of-big_endian : (xs : List ℕ) → Bytes xs → (a : ℕ) → bytes_of (length xs) (big_endian_from a xs) ≡ xs
unfolding big_endian_from bytes_of
bytes_of-big_endian [] b a = refl
bytes_of-big_endian (x ∷ xs) b a =
    rw (bytes_of-big_endian xs b.1 (a * 256 + x), big_endian-from (a * 256 + x) xs, digits_div (a * 256 + x) (big_endian-small xs b.1), digits_mod a b.0)

-- the numbers that two lists of bytes spell make up that of both
big_endian-append : (a : ℕ) (xs ys : List ℕ) → big_endian_from a (xs ++ ys) ≡ big_endian_from (big_endian_from a xs) ys
unfolding big_endian_from
big_endian-append a [] ys = refl
big_endian-append a (x ∷ xs) ys = big_endian-append (a * 256 + x) xs ys

big_endian-both : (xs ys : List ℕ) → big_endian (xs ++ ys) ≡ big_endian xs * 256 ^ length ys + big_endian ys
big_endian-both xs ys = big_endian-append 0 xs ys ∙ big_endian-from (big_endian xs) ys

-- one byte more of the k bytes from a place on, of which the first j are read
pub read_more : (at k m j n : ℕ) {x : ℕ} (l : List ℕ) → Bytes l → k ≤ 8 → at + k ≤ length l → m ≡ k → j < length (part at m l)
    → n ≡ big_endian (take j (part at k l)) → x ≡ get_or (part at m l) j 0
    → (n * 256 + x < 18446744073709551616) × (n * 256 + x ≡ big_endian (take (j + 1) (part at k l)))
unfolding big_endian_from
read_more at k m j n {x} l b w h i o e f =
    let xs : List ℕ = part at k l in
    let low : j < length xs = rw i at o in
    let last : x ≡ get_or xs j 0 = rw i at f in
    let more : n * 256 + x ≡ big_endian (take (j + 1) xs) =
    rw (add-one, take-suc xs j 0, big_endian-append 0 (take j xs) (get_or xs j 0 ∷ []), e, last) in
    let small : big_endian (take (j + 1) xs) < 256 ^ length (take (j + 1) xs) = big_endian-small (take (j + 1) xs) (bytes_take (j + 1) xs (bytes-part at k l b)) in
    let len : length (take (j + 1) xs) ≤ 8 = simp length-take (omega (arith, length_part at k l h)) in
    let most : 256 ^ length (take (j + 1) xs) ≤ 256 ^ 8 = pow-le-pow_right (omega arith) len in
    (omega (arith, small), more)

-- the number at a place, in a high and a low part
pub number_split : (at j k : ℕ) (l : List ℕ) → at + (j + k) ≤ length l → number (j + k) at l ≡ number j at l * 256 ^ k + number k (at + j) l
unfolding number
number_split at j k l h =
    let len : length (part (at + j) k l) ≡ k = length_part (at + j) k l (omega arith) in
    rw (take-add, drop-drop, big_endian-both, len)

pub number_one : (at : ℕ) (l : List ℕ) → at < length l → number 1 at l ≡ get_or l at 0
unfolding number big_endian_from
number_one at l h = rw (part_suc at 0 l h) (omega arith)

pub number_two : (at : ℕ) (l : List ℕ) → at + 2 ≤ length l → number 2 at l ≡ get_or l at 0 * 256 + get_or l (at + 1) 0
number_two at l h = omega (arith, number_split at 1 1 l h, number_one at l (omega arith), number_one (at + 1) l (omega arith))

pub number_four : (at : ℕ) (l : List ℕ) → at + 4 ≤ length l
    → number 4 at l ≡ get_or l at 0 * 16777216 + get_or l (at + 1) 0 * 65536 + get_or l (at + 2) 0 * 256 + get_or l (at + 3) 0
number_four at l h =
    let e : at + 2 + 1 ≡ at + 3 = omega arith in
    omega (arith, number_split at 2 2 l h, number_two at l (omega arith), rw e at (number_two (at + 2) l (omega arith)))

-- the k low bytes of v are those of what v leaves at 256 ^ k
pub bytes_of_mod : (k v : ℕ) → bytes_of k (v % 256 ^ k) ≡ bytes_of k v
unfolding bytes_of
bytes_of_mod zero v = refl
bytes_of_mod (suc k) v =
    let e : v % 256 ^ suc k ≡ v / 256 ^ k % 256 * 256 ^ k + v % 256 ^ k = rw pow-succ' (mod-mul v {m = 256} (omega arith) (pos k)) in
    let low : v % 256 ^ suc k % 256 ^ k ≡ v % 256 ^ k = rw e (digits_mod (v / 256 ^ k % 256) (mod-lt v (pos k))) in
    let high : v % 256 ^ suc k / 256 ^ k ≡ v / 256 ^ k % 256 = rw e (digits_div (v / 256 ^ k % 256) (mod-lt v (pos k))) in
    rw (← bytes_of_mod k (v % 256 ^ suc k), low, high, mod-mod, bytes_of_mod k v)

-- the bytes of v in a high and a low part
bytes_of-split : (j k v : ℕ) → bytes_of (j + k) v ≡ bytes_of j (v / 256 ^ k) ++ bytes_of k (v % 256 ^ k)
unfolding bytes_of
bytes_of-split zero k v = rw (zero-add, bytes_of_mod)
bytes_of-split (suc j) k v = rw (suc-add, bytes_of-split j k v, div-div-eq-div-mul, ← pow-add, add_comm)

-- the stores that put two bytes, and those that put four
pub put_two : (l : List ℕ) (at v : ℕ) → at + 2 ≤ length l → set (set l at (v / 256 % 256)) (at + 1) (v % 256) ≡ put_at at (bytes_of 2 v) l
unfolding bytes_of
put_two l at v h = simp (div-one, add-one) (put_sets (v / 256 % 256 ∷ v % 256 ∷ []) l at h)

pub put_four : (l : List ℕ) (at v : ℕ) → at + 4 ≤ length l
    → set (set (set (set l at (v / 16777216 % 256)) (at + 1) (v / 65536 % 256)) (at + 2) (v / 256 % 256)) (at + 3) (v % 256) ≡ put_at at (bytes_of 4 v) l
unfolding bytes_of
put_four l at v h =
    simp (div-one, add-one, add-two, add-three) (put_sets (v / 16777216 % 256 ∷ v / 65536 % 256 ∷ v / 256 % 256 ∷ v % 256 ∷ []) l at h)

-- the bytes of v that are put in a high and a low part
pub put_halves : (j k at v : ℕ) (l : List ℕ) → at + j ≤ length l
    → put_at (at + j) (bytes_of k (v % 256 ^ k)) (put_at at (bytes_of j (v / 256 ^ k)) l) ≡ put_at at (bytes_of (j + k) v) l
put_halves j k at v l h =
    let xs : List ℕ = bytes_of j (v / 256 ^ k) in
    let ys : List ℕ = bytes_of k (v % 256 ^ k) in
    let len : length xs ≡ j = length-bytes_of j (v / 256 ^ k) in
    rw (bytes_of-split, ← put_put at xs ys l (rw len h), len)

-- what is read and put is copied
pub put_get : (k at from : ℕ) (l s : List ℕ) → from + k ≤ length s → Bytes s → put_at at (bytes_of k (number k from s)) l ≡ put_at at (part from k s) l
unfolding number
put_get k at from l s h b =
    let len : length (part from k s) ≡ k = length_part from k s h in
    ap (λ (xs : List ℕ). put_at at xs l) (rw len at (bytes_of-big_endian (part from k s) (bytes-part from k s b) 0))
