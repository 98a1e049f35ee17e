-- The lines written out: their fields in order, with the bytes between them. Assumes nothing.
use Prim.Native.Nat.{ℕ}
use mathlib.Core.Path.{◌≡◌}
use mathlib.Core.List.{List, [], ◌∷◌, ◌++◌, append_assoc}
use Rattle.text.specs.Writing.{or_dash}
use Rattle.text.specs.Decimal.{decimal}
use Rattle.lines.specs.Lines.{number_field, word_field, labelled_number, labelled_word, header_line, extent, read_line, refusal_line}

-- "flows ", "key ", "reads "
pub header_line_lem : (flows : ℕ) (key : List ℕ) (reads : ℕ) → header_line flows key reads
    ≡ (102 ∷ 108 ∷ 111 ∷ 119 ∷ 115 ∷ 32 ∷ []) ++ decimal flows ++ (32 ∷ 107 ∷ 101 ∷ 121 ∷ 32 ∷ []) ++ or_dash key
    ++ (32 ∷ 114 ∷ 101 ∷ 97 ∷ 100 ∷ 115 ∷ 32 ∷ []) ++ decimal reads ++ (10 ∷ [])
unfolding header_line labelled_number labelled_word number_field word_field
header_line_lem flows key reads = simp append_assoc

-- "A read's line is position, name, N, first, last, insert"
pub read-line : (position : ℕ) (name : List ℕ) (bases first last : ℕ) (insert : List ℕ) → read_line position name bases first last insert
    ≡ decimal position ++ (32 ∷ []) ++ or_dash name ++ (32 ∷ []) ++ decimal bases ++ (32 ∷ []) ++ decimal first ++ (32 ∷ []) ++ decimal last ++ (32 ∷ [])
    ++ or_dash insert ++ (10 ∷ [])
unfolding read_line extent number_field word_field
read-line position name bases first last insert = simp append_assoc

-- "refused ", " at "
pub refusal-line : (number place : ℕ) → refusal_line number place
    ≡ (114 ∷ 101 ∷ 102 ∷ 117 ∷ 115 ∷ 101 ∷ 100 ∷ 32 ∷ []) ++ decimal number ++ (32 ∷ 97 ∷ 116 ∷ 32 ∷ []) ++ decimal place ++ (10 ∷ [])
unfolding refusal_line labelled_number number_field
refusal-line number place = simp append_assoc
