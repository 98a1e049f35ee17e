-- The lines that document 01 prints: the two of file E, and the refusal; and the answer of a list run. Assumes nothing.
use mathlib.Core.Path.{◌≡◌, refl}
use mathlib.Core.List.{[], ◌∷◌}
use Rattle.text.specs.Writing.{or_dash}
use Rattle.text.specs.Decimal.{decimal_of}
use Rattle.lines.specs.Lines.{number_field, word_field, labelled_number, labelled_word, header_line, extent, read_line, refusal_line, answer_line}

-- "flows 4 key T reads 1"
pub header-of-E : header_line 4 (84 ∷ []) 1
    ≡ 102 ∷ 108 ∷ 111 ∷ 119 ∷ 115 ∷ 32 ∷ 52 ∷ 32 ∷ 107 ∷ 101 ∷ 121 ∷ 32 ∷ 84 ∷ 32 ∷ 114 ∷ 101 ∷ 97 ∷ 100 ∷ 115 ∷ 32 ∷ 49 ∷ 10 ∷ []
unfolding header_line labelled_number labelled_word number_field word_field or_dash decimal_of
header-of-E = refl

-- "0 r1 3 2 3 CC"
pub read-of-E : read_line 0 (114 ∷ 49 ∷ []) 3 2 3 (67 ∷ 67 ∷ []) ≡ 48 ∷ 32 ∷ 114 ∷ 49 ∷ 32 ∷ 51 ∷ 32 ∷ 50 ∷ 32 ∷ 51 ∷ 32 ∷ 67 ∷ 67 ∷ 10 ∷ []
unfolding read_line extent number_field word_field or_dash decimal_of
read-of-E = refl

-- "refused 9 at 48"
pub refusal_9_at_48 : refusal_line 9 48 ≡ 114 ∷ 101 ∷ 102 ∷ 117 ∷ 115 ∷ 101 ∷ 100 ∷ 32 ∷ 57 ∷ 32 ∷ 97 ∷ 116 ∷ 32 ∷ 52 ∷ 56 ∷ 10 ∷ []
unfolding refusal_line labelled_number number_field decimal_of
refusal_9_at_48 = refl

-- "count 2 number 0 place 0 length 96"
pub answer_of_two : answer_line 2 0 0 96
    ≡ 99 ∷ 111 ∷ 117 ∷ 110 ∷ 116 ∷ 32 ∷ 50 ∷ 32
    ∷ 110 ∷ 117 ∷ 109 ∷ 98 ∷ 101 ∷ 114 ∷ 32 ∷ 48 ∷ 32
    ∷ 112 ∷ 108 ∷ 97 ∷ 99 ∷ 101 ∷ 32 ∷ 48 ∷ 32
    ∷ 108 ∷ 101 ∷ 110 ∷ 103 ∷ 116 ∷ 104 ∷ 32 ∷ 57 ∷ 54 ∷ 10 ∷ []
unfolding answer_line labelled_number number_field decimal_of
answer_of_two = refl
