-- A unit's bytes put at a place, by the width. Assumes nothing.
use Rattle.std.proofs.Common.{◌≡◌, ℕ, ◌+◌, ◌-◌, ◌/◌, ◌%◌, ◌<◌, List, [], ◌∷◌, length, set, drop, sym, ap, ◌∙◌, append_assoc, arith}
use native.Mathlib.Nat.{div-one}
use lib.Seq.{drop-drop}
use borrow.Rule.Slice.PartMut.{put_mid}
use Rattle.octets.specs.Parts.{put_at}
use Rattle.octets.specs.Numbers.{bytes_of}
use Rattle.octets.proofs.Lists.{put_sets}

pub put_one : (s : List ℕ) (at v : ℕ) → v < 256 → at < length s → set s at v ≡ put_at at (bytes_of 1 v) s
unfolding bytes_of
put_one s at v b h =
    let e : v ≡ v % 256 = omega arith in
    rw (div-one v) (ap (λ (x : ℕ). set s at x) e ∙ put_sets (v % 256 ∷ []) s at (omega arith))

-- a part of the bytes that was lent comes back as r
given_back : (k at : ℕ) (s r : List ℕ) → length r ≡ k → put_mid at (at + k - at) s r ≡ put_at at r s
unfolding put_at
given_back k at s r e =
    let n : at + k - at ≡ k = omega arith in
    let q : at + length r ≡ at + k = omega arith in
    rw (n, q, drop-drop k at s) (sym (append_assoc _ r (drop (at + k) s)))

pub put_two : (at v : ℕ) (s r : List ℕ) → r ≡ (v / 256 % 256 ∷ v % 256 ∷ []) → put_mid at (at + 2 - at) s r ≡ put_at at (bytes_of 2 v) s
unfolding bytes_of
put_two at v s r e = rw (div-one v, ← e) (given_back 2 at s r (ap length e))

pub put_four : (at v : ℕ) (s r : List ℕ)
    → r ≡ (v / 16777216 % 256 ∷ v / 65536 % 256 ∷ v / 256 % 256 ∷ v % 256 ∷ []) → put_mid at (at + 4 - at) s r ≡ put_at at (bytes_of 4 v) s
unfolding bytes_of
put_four at v s r e = rw (div-one v, ← e) (given_back 4 at s r (ap length e))
