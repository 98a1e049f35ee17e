-- A file at the front of a buffer: a write within it, a splice of it, and a second file over the first. Assumes
-- nothing.
use Prim.Native.Nat.{ℕ, zero, suc, ◌+◌, ◌-◌, ◌≤◌, max}
use mathlib.Core.Path.{◌≡◌, sym, ap, ◌∙◌}
use mathlib.Core.List.{List, ◌++◌, append_assoc, append-nil}
use native.Mathlib.Omega.{arith}
use lib.ListN.{length, take, drop, replicate, length-append, length-drop, length-replicate, take-append-drop, replicate-append-replicate, drop_of_length-le}
use lib.Seq.{length-take-le, take-take, drop-drop, take-append_seam, drop-append-add}
use Rattle.octets.specs.Parts.{part, put_at, filled, filled_front, spliced}
use Rattle.octets.proofs.Lists.{length_part, length_put, put_left, drop-take}

module _ (new : List ℕ) (m : ℕ) (b : List ℕ) where
  -- a buffer holds the file that is its front
  pub filled_front_front : take m b ≡ new → m ≤ length b → filled_front new m b ≡ b
  unfolding filled_front filled
  filled_front_front e h =
      let len : length new ≡ m = ap length (sym e) ∙ length-take-le m b h in
      let z : m - length new ≡ 0 = omega arith in
      rw (z, append-nil, ← e, take-append-drop)

  pub take_filled_front : take (length new) (filled_front new m b) ≡ new
  unfolding filled_front filled
  take_filled_front = rw append_assoc (take-append_seam new _)

  pub length_filled_front : length new ≤ m → m ≤ length b → length (filled_front new m b) ≡ length b
  unfolding filled_front filled
  length_filled_front h k = simp (length-append, length-replicate, length-drop) (omega arith)

-- zeros put behind the first n bytes of a buffer
pub zeros-behind : (n : ℕ) (s : List ℕ) → n ≤ length s → put_at n (replicate (length s - n) 0) s ≡ filled (length s) (take n s)
unfolding put_at filled
zeros-behind n s h =
    let l : length (replicate {A = ℕ} (length s - n) 0) ≡ length s - n = length-replicate (length s - n) 0 in
    let k : length (take n s) ≡ n = length-take-le n s h in
    rw (l, k, drop_of_length-le s (let e : length s ≤ n + (length s - n) = omega arith in e), append-nil (take n s ++ replicate (length s - n) 0))

-- a write within the file
pub filled_front_put : (at : ℕ) (xs new : List ℕ) (m : ℕ) (b : List ℕ) → at + length xs ≤ length new
    → put_at at xs (filled_front new m b) ≡ filled_front (put_at at xs new) m b
unfolding filled_front filled
filled_front_put at xs new m b h = rw (append_assoc, put_left at xs new _ h, length_put at xs new h, append_assoc)

-- a splice: xs in the place of n bytes
pub splice_filled_front : (at n end : ℕ) (xs b : List ℕ) → at + n ≤ end → end ≤ length b
    → let file : List ℕ = take at (take end b) ++ (xs ++ drop (at + n) (take end b)) in
    spliced at n end xs b ≡ filled_front file (max end (length file)) b
unfolding filled_front filled spliced put_at
splice_filled_front at n end xs b h k =
    let rest : List ℕ = part (at + n) (end - (at + n)) b in
    let front : length (take at b) ≡ at = length-take-le at b (omega arith) in
    let back : length rest ≡ end - (at + n) = length_part (at + n) (end - (at + n)) b (omega arith) in
    let l : length (take at b ++ (xs ++ rest)) ≡ at + (length xs + (end - (at + n))) = simp (length-append, front, back) in
    let w : length (xs ++ (rest ++ replicate (n - length xs) 0)) ≡ length xs + (end - (at + n) + (n - length xs)) =
    simp (length-append, length-replicate, back) in
    let z : max end (at + (length xs + (end - (at + n)))) - (at + (length xs + (end - (at + n)))) ≡ n - length xs = omega arith in
    let d : at + (length xs + (end - (at + n) + (n - length xs))) ≡ max end (at + (length xs + (end - (at + n)))) = omega arith in
    rw (take-take at end b (omega arith), drop-take (at + n) end b h k, l, z, w, d) (simp append_assoc)

drop-zeros : (n j : ℕ) (l : List ℕ) → drop j (replicate n 0 ++ l) ≡ replicate (n - j) 0 ++ drop (j - n) l
drop-zeros zero j l = let a : zero - j ≡ 0 = omega arith in let e : j - zero ≡ j = omega arith in rw (a, e)
drop-zeros (suc n) zero l = let a : suc n - zero ≡ suc n = omega arith in let e : zero - suc n ≡ 0 = omega arith in rw (a, e)
drop-zeros (suc n) (suc j) l =
    let a : suc n - suc j ≡ n - j = omega arith in
    let e : suc j - suc n ≡ j - n = omega arith in
    rw (a, e) (drop-zeros n j l)

-- the zeros behind a file of n bytes, over one of o bytes that has them up to m
zeros-left : (o m n : ℕ) → o ≤ m → o + (n - o) - n + (m - o - (n - o)) ≡ max m n - n
zeros-left o m n h = omega arith

-- a file over another that was settled up to m: the greatest length on the way is all that is remembered
pub filled_front_again : (new old : List ℕ) (m : ℕ) (b : List ℕ) → length old ≤ m
    → filled_front new (max (length old) (length new)) (filled_front old m b) ≡ filled_front new (max m (length new)) b
unfolding filled_front filled
filled_front_again new old m b h =
    let n : ℕ = m - length old in
    let j : ℕ = length new - length old in
    let e : m + (j - n) ≡ max m (length new) = omega arith in
    let k : max (length old) (length new) ≡ length old + j = omega arith in
    let z : length old + j - length new + (n - j) ≡ max m (length new) - length new = zeros-left (length old) m (length new) h in
    rw (k, append_assoc old, drop-append-add old _ j, drop-zeros n j (drop m b), drop-drop, e, ← z, ← replicate-append-replicate) (simp append_assoc)
