-- The laws of `insert_at`, and of a list that stands at the front of what is left. Assumes nothing.
use Prim.Native.Nat.{ℕ, ◌+◌, ◌≤◌}
use mathlib.Core.Path.{◌≡◌, refl, sym, ap, ◌∙◌}
use mathlib.Core.List.{List, ◌++◌, append_assoc}
use native.Mathlib.Omega.{arith}
use lib.ListN.{length, take, drop, length-append, length-take, length-drop, take-append-drop}
use lib.Seq.{drop-drop, drop_at, length-take-le, take-append_seam, drop-append_seam, take-append-le, drop-append-le, take-append-add, drop-append-add}
use Rattle.octets.specs.Parts.{insert_at}
use Rattle.octets.proofs.Stands.{Stands}

pub insert_zero : (xs l : List ℕ) → insert_at 0 xs l ≡ xs ++ l
unfolding insert_at
insert_zero xs l = refl

pub insert_right : (n : ℕ) (us xs ys : List ℕ) → insert_at (length us + n) xs (us ++ ys) ≡ us ++ insert_at n xs ys
unfolding insert_at
insert_right n us xs ys = rw (take-append-add, drop-append-add) (simp append_assoc)

pub insert-left : (n : ℕ) (us xs ys : List ℕ) → n ≤ length us → insert_at n xs (us ++ ys) ≡ insert_at n xs us ++ ys
unfolding insert_at
insert-left n us xs ys h = rw (take-append-le n us ys h, drop-append-le n us ys h) (simp append_assoc)

pub length-insert : (n : ℕ) (xs l : List ℕ) → length (insert_at n xs l) ≡ length l + length xs
unfolding insert_at
length-insert n xs l = simp (length-append, length-take, length-drop) (omega arith)

-- what stands at p, and what is left after it
pub stands-drop : (p : ℕ) (xs b : List ℕ) → Stands p xs b → xs ++ drop (p + length xs) b ≡ drop p b
stands-drop p xs b s = rw (← drop-drop) (ap (λ (l : List ℕ). l ++ drop (length xs) (drop p b)) (sym s) ∙ take-append-drop (length xs) (drop p b))

pub drop-stands : (p : ℕ) (xs ys b : List ℕ) → drop p b ≡ xs ++ ys → Stands p xs b
drop-stands p xs ys b e = rw e (take-append_seam xs ys)

pub drop-rest : (p : ℕ) (xs ys b : List ℕ) → drop p b ≡ xs ++ ys → drop (p + length xs) b ≡ ys
drop-rest p xs ys b e = rw (← drop-drop, e) (drop-append_seam xs ys)

-- what is inserted stands there
pub insert-stands : (n : ℕ) (xs l : List ℕ) → n ≤ length l → Stands n xs (insert_at n xs l)
unfolding insert_at
insert-stands n xs l h = rw (append_assoc, drop_at (take n l) (xs ++ drop n l) n (length-take-le n l h), take-append_seam)
