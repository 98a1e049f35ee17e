-- Parts of a list of bytes, and what is put into it. Assumes nothing: these are definitions.
use Rattle.std.specs.Prelude.{ℕ, ◌+◌, ◌-◌, ◌*◌, ◌/◌, Bool, true, false, cond, ◌&&◌, List, [], ◌∷◌, ◌++◌, length, take, drop, replicate, eqb, leb}

-- the n bytes of the list from place `at` on
abbrev pub part : ℕ → ℕ → List ℕ → List ℕ
part at n list = take n (drop at list)

-- the same if they all lie in the list, and else none
unfoldable pub whole_part : ℕ → ℕ → List ℕ → List ℕ
whole_part at n list = cond (leb (at + n) (length list)) (part at n list) []

-- the list with xs in the place of as many of its bytes from place `at` on
unfoldable pub put_at : ℕ → List ℕ → List ℕ → List ℕ
put_at at xs list = take at list ++ xs ++ drop (at + length xs) list

-- the list with xs standing at place `at`, what stood there and after it moved up
unfoldable pub insert_at : ℕ → List ℕ → List ℕ → List ℕ
insert_at at xs list = take at list ++ xs ++ drop at list

-- document 01's "Up8": "the next multiple of 8, or the number itself"
abbrev pub up8 : ℕ → ℕ
up8 n = (n + 7) / 8 * 8

-- xs with zeros after it, n bytes in all
unfoldable pub filled : ℕ → List ℕ → List ℕ
filled n xs = xs ++ replicate (n - length xs) 0

-- xs with "zero padding to up8"
abbrev pub padded : List ℕ → List ℕ
padded xs = filled (up8 (length xs)) xs

-- a buffer with the file `new` at its front, zeros up to place `end`, and from there on as it was
unfoldable pub filled_front : List ℕ → ℕ → List ℕ → List ℕ
filled_front new end buffer = filled end new ++ drop end buffer

-- a buffer whose first `end` bytes are a file, with xs in the place of the file's n bytes from place `at` on: what
-- follows them is moved, and what is freed is zero
unfoldable pub spliced : ℕ → ℕ → ℕ → List ℕ → List ℕ → List ℕ
spliced at n end xs buffer = put_at at (xs ++ (part (at + n) (end - (at + n)) buffer ++ replicate (n - length xs) 0)) buffer

-- whether two lists are the same
unfoldable pub same : List ℕ → List ℕ → Bool
same [] [] = true
same [] (y ∷ ys) = false
same (x ∷ xs) [] = false
same (x ∷ xs) (y ∷ ys) = eqb x y && same xs ys
