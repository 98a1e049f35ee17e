-- The laws of `put_at` and `part` that the proofs of this crate and of its clients cite. Assumes nothing.
use mathlib.Core.Path.{◌≡◌, refl, sym, ap, ◌∙◌}
use mathlib.Core.Bool.{Bool, true, false, cond}
use lib.Dec.{leb}
use mathlib.Core.List.{List, [], ◌∷◌, ◌++◌, append_assoc, append-nil}
use Prim.Native.Nat.{ℕ, suc, ◌+◌, ◌-◌, ◌≤◌, ◌<◌}
use native.Mathlib.Nat.{add-zero, zero-add, add-suc, add_assoc, suc-add, le_of_lt}
use native.Mathlib.Numerals.{add-one}
use native.Mathlib.Omega.{arith}
use borrow.Author.Tests.{le-leb, lt-leb}
use lib.ListN.{length, take, drop, set, get_or, length-append, length-take, length-drop, take-append-drop, get_or-append}
use lib.Seq.{sets, sets-eq, set_at, append_snoc, get_or-append-add, get_or-take, get_or-drop}
use lib.Seq.{length-take-le, take-suc, take_at, take-take, take-add, take-append_seam, take-append-le}
use lib.Seq.{drop-cons, drop_at, drop-drop, drop-append_seam, drop-append-add, drop-append-le}
use Rattle.octets.specs.Parts.{part, whole_part, put_at}

-- the first of the elements of a part, and the rest
pub part_suc : (at k : ℕ) (l : List ℕ) → at < length l → part at (suc k) l ≡ get_or l at 0 ∷ part (at + 1) k l
part_suc at k l h = rw (add-one, drop-cons l at 0)

pub length_part : (at n : ℕ) (l : List ℕ) → at + n ≤ length l → length (part at n l) ≡ n
length_part at n l h = simp (length-take, length-drop) (omega arith)

pub get_d_part : (at n : ℕ) (l : List ℕ) (i : ℕ) → i < n → get_or (part at n l) i 0 ≡ get_or l (at + i) 0
get_d_part at n l i h = rw (get_or-take, get_or-drop)

-- no element is put
pub put_nil : (at : ℕ) (list : List ℕ) → put_at at [] list ≡ list
unfolding put_at
put_nil at list = rw (add-zero, append-nil, take-append-drop)

pub length_put : (at : ℕ) (xs l : List ℕ) → at + length xs ≤ length l → length (put_at at xs l) ≡ length l
unfolding put_at
length_put at xs l h = simp (length-append, length-take, length-drop) (omega arith)

-- a write over as many bytes
pub put_over : (us xs ys ws : List ℕ) → length xs ≡ length ys → put_at (length us) xs (us ++ (ys ++ ws)) ≡ us ++ (xs ++ ws)
unfolding put_at
put_over us xs ys ws e = rw (take-append_seam, e, drop-append-add, drop-append_seam) (append_assoc us xs ws)

-- a store right after what was put
pub put_snoc : (at : ℕ) (xs l : List ℕ) (x : ℕ) → at + length xs < length l → set (put_at at xs l) (at + length xs) x ≡ put_at at (xs ++ (x ∷ [])) l
unfolding put_at
put_snoc at xs l x h =
    let len : length (take at l ++ xs) ≡ at + length xs = simp (length-append, length-take) (omega arith) in
    rw (drop-cons l (at + length xs) 0, set_at (take at l ++ xs) _ _ x _ len, length-append, add-one, add-suc, ← append_assoc, append_snoc)

-- a store right before what was put
pub put_cons : (at : ℕ) (xs l : List ℕ) (x : ℕ) → at < length l → set (put_at (at + 1) xs l) at x ≡ put_at at (x ∷ xs) l
unfolding put_at
put_cons at xs l x h =
    let len : length (take at l) ≡ at = length-take-le at l (le_of_lt h) in
    rw (add-one, take-suc l at 0, append_assoc, append_assoc, set_at (take at l) _ _ x _ len, suc-add, add-suc, append_assoc)

-- what was put changes nothing before it
pub get_d-before : (at : ℕ) (xs l : List ℕ) (i : ℕ) → i < at → at ≤ length l → get_or (put_at at xs l) i 0 ≡ get_or l i 0
unfolding put_at
get_d-before at xs l i h k =
    let len : i < length (take at l) = rw (length-take-le at l k) h in
    rw (append_assoc, get_or-append (take at l) _ 0 i len, get_or-take)

-- what was put changes nothing after it
pub get_d_after : (at : ℕ) (xs l : List ℕ) (i : ℕ) → at + length xs ≤ i → at ≤ length l → get_or (put_at at xs l) i 0 ≡ get_or l i 0
unfolding put_at
get_d_after at xs l i h k =
    let j : ℕ = i - (at + length xs) in
    let e : i ≡ length (take at l ++ xs) + j = simp (length-append, length-take) (omega arith) in
    rw (e, get_or-append-add, get_or-drop, length-append, length-take-le at l k)

-- a run of stores puts
pub put_sets : (xs l : List ℕ) (at : ℕ) → at + length xs ≤ length l → sets l at xs ≡ put_at at xs l
unfolding put_at
put_sets xs l at h = sets-eq xs l at h

-- what is put right after what was put
pub put_put : (at : ℕ) (xs ys l : List ℕ) → at + length xs ≤ length l → put_at (at + length xs) ys (put_at at xs l) ≡ put_at at (xs ++ ys) l
unfolding put_at
put_put at xs ys l h =
    let len : length (take at l ++ xs) ≡ at + length xs = simp (length-append, length-take) (omega arith) in
    rw (take_at (take at l ++ xs) _ _ len, ← drop-drop, drop_at (take at l ++ xs) _ _ len, drop-drop, length-append, ← add_assoc, ← append_assoc)

-- the same, with the length of what was put as a number
pub put_next : (at n : ℕ) (xs ys l : List ℕ) → length xs ≡ n → at + n ≤ length l → put_at (at + n) ys (put_at at xs l) ≡ put_at at (xs ++ ys) l
put_next at n xs ys l e h = rw (← e) (put_put at xs ys l (rw e h))

-- what is put right before what was put
pub put_before : (at n : ℕ) (xs ys l : List ℕ) → length xs ≡ n → at + n ≤ length l → put_at at xs (put_at (at + n) ys l) ≡ put_at at (xs ++ ys) l
unfolding put_at
put_before at n xs ys l e h =
    let len : length (take (at + n) l) ≡ at + n = length-take-le (at + n) l h in
    let first : at ≤ length (take (at + n) l ++ ys) = simp (length-append, len) (omega arith) in
    let second : at ≤ length (take (at + n) l) = rw len (omega arith) in
    rw (
      take-append-le at (take (at + n) l ++ ys) _ first,
      take-append-le at (take (at + n) l) _ second,
      take-take at (at + n) l (omega arith),
      e,
      append_assoc (take (at + n) l) ys _,
      drop_at (take (at + n) l) _ _ len,
      length-append,
      e,
      ← add_assoc,
      ← append_assoc,
      ← append_assoc,
    )

-- a list put at the front is the front
pub take-front : (xs l : List ℕ) → take (length xs) (put_at 0 xs l) ≡ xs
unfolding put_at
take-front xs l = take-append_seam xs (drop (0 + length xs) l)

-- and behind it all is as it was
pub drop-front : (xs l : List ℕ) → drop (length xs) (put_at 0 xs l) ≡ drop (length xs) l
unfolding put_at
drop-front xs l = rw zero-add (drop-append_seam xs (drop (length xs) l))

-- a write within the first of two lists
pub put_left : (at : ℕ) (xs us l : List ℕ) → at + length xs ≤ length us → put_at at xs (us ++ l) ≡ put_at at xs us ++ l
unfolding put_at
put_left at xs us l h = rw (take-append-le at us l (omega arith), drop-append-le (at + length xs) us l h) (simp append_assoc)

-- a write within what was put at the front
pub put_front_lem : (at : ℕ) (xs us l : List ℕ) → at + length xs ≤ length us → put_at at xs (put_at 0 us l) ≡ put_at 0 (put_at at xs us) l
unfolding put_at
put_front_lem at xs us l h = let e : length (put_at at xs us) ≡ length us = length_put at xs us h in rw e (put_left at xs us (drop (0 + length us) l) h)

-- the front of a list up to the end of what was put
pub take_put : (at n : ℕ) (xs l : List ℕ) → length xs ≡ n → at + n ≤ length l → take (at + n) (put_at at xs l) ≡ take at l ++ xs
unfolding put_at
take_put at n xs l e h = take_at (take at l ++ xs) (drop (at + length xs) l) (at + n) (simp (length-append, length-take) (omega arith))

-- a part of the front of a list
pub drop-take : (at to : ℕ) (l : List ℕ) → at ≤ to → to ≤ length l → drop at (take to l) ≡ part at (to - at) l
drop-take at to l h k =
    let e : to ≡ at + (to - at) = omega arith in
    let len : length (take at l) ≡ at = length-take-le at l (omega arith) in
    ap (λ (n : ℕ). drop at (take n l)) e ∙ rw (take-add, drop_at (take at l) _ at len)

-- a part of a front
pub part-take : (p n to : ℕ) (l : List ℕ) → p + n ≤ to → to ≤ length l → part p n (take to l) ≡ part p n l
part-take p n to l h k = rw (drop-take p to l (omega arith) k) (take-take n (to - p) (drop p l) (omega arith))

-- a part of a part
pub part_in : (j k from n : ℕ) (l : List ℕ) → j + k ≤ n → from + n ≤ length l → part j k (part from n l) ≡ part (from + j) k l
part_in j k from n l h i = rw (part-take j k n (drop from l) h (rw length-drop (omega arith)), drop-drop)

-- a part put where it stands
pub put_same : (at n : ℕ) (l : List ℕ) → at + n ≤ length l → put_at at (part at n l) l ≡ l
unfolding put_at
put_same at n l h = rw (length_part at n l h, ← take-add, take-append-drop)

-- what was put is what is read there, and what lies before or after it is as it was
pub part_put : (at n : ℕ) (xs l : List ℕ) → length xs ≡ n → at + n ≤ length l → part at n (put_at at xs l) ≡ xs
unfolding put_at
part_put at n xs l e h =
    let len : length (take at l) ≡ at = length-take-le at l (omega arith) in
    rw (append_assoc, drop_at (take at l) _ at len, take_at xs _ n e)

pub part-before : (p n at : ℕ) (xs l : List ℕ) → p + n ≤ at → at ≤ length l → part p n (put_at at xs l) ≡ part p n l
unfolding put_at
part-before p n at xs l h k =
    let len : length (take at l) ≡ at = length-take-le at l k in
    let one : p ≤ length (take at l) = rw len (omega arith) in
    let two : n ≤ length (drop p (take at l)) = simp (length-drop, len) (omega arith) in
    let back = drop-take p at l (omega arith) k in
    rw (append_assoc, drop-append-le p (take at l) _ one, take-append-le n (drop p (take at l)) _ two, back, take-take n (at - p) (drop p l) (omega arith))

pub part-after : (p n at : ℕ) (xs l : List ℕ) → at + length xs ≤ p → at + length xs ≤ length l → part p n (put_at at xs l) ≡ part p n l
unfolding put_at
part-after p n at xs l h k =
    let m : ℕ = at + length xs in
    let e : p ≡ m + (p - m) = omega arith in
    let len : length (take at l ++ xs) ≡ m = simp (length-append, length-take) (omega arith) in
    let at_p : drop p (take at l ++ xs ++ drop m l) ≡ drop p l =
    ap (λ (i : ℕ). drop i (take at l ++ xs ++ drop m l)) e
    ∙ sym (drop-drop (p - m) m _)
    ∙ ap (λ (r : List ℕ). drop (p - m) r) (drop_at (take at l ++ xs) (drop m l) m len)
    ∙ drop-drop (p - m) m l
    ∙ ap (λ (i : ℕ). drop i l) (sym e) in
    rw at_p

-- a part that lies in the list, and one that does not
pub whole_in : (at n : ℕ) (l : List ℕ) → at + n ≤ length l → whole_part at n l ≡ part at n l
unfolding whole_part
whole_in at n l h = rw (le-leb (at + n) (length l) h)

pub whole_out : (at n : ℕ) (l : List ℕ) → length l < at + n → whole_part at n l ≡ []
unfolding whole_part
whole_out at n l h = rw (lt-leb (at + n) (length l) h)

pub whole_none : (at : ℕ) (l : List ℕ) → whole_part at 0 l ≡ []
unfolding whole_part
whole_none at l = go (leb (at + 0) (length l))
  where
    go : (t : Bool) → cond t (take 0 (drop at l)) [] ≡ []
    go true = refl
    go false = refl
