-- The fields of the read at a place, and a read's tests in document 01's order. Assumes nothing: these are definitions.
use Rattle.std.specs.Prelude.{ℕ, ◌+◌, ◌*◌, not, List, length, ltb, eqb}
use Rattle.octets.specs.Parts.{part, up8}
use Rattle.octets.specs.Numbers.{number}
use Rattle.octets.specs.Scans.{first_not, is_name_byte, is_zero}
use Rattle.answers.specs.Answer.{Answer, when, stopped, shifted, ◌then◌}
use Rattle.sff_format.specs.Rules.{left_limit, right_limit, walked_count, matched_count}

-- "its length (2), name length L (2), bases N (4), quality left, quality right, adapter left, adapter right (2 each, in
-- that order)"
abbrev pub section_length : List ℕ → ℕ → ℕ
section_length file place = number 2 place file

abbrev pub name_length : List ℕ → ℕ → ℕ
name_length file place = number 2 (place + 2) file

abbrev pub base_count : List ℕ → ℕ → ℕ
base_count file place = number 4 (place + 4) file

abbrev pub quality_left : List ℕ → ℕ → ℕ
quality_left file place = number 2 (place + 8) file

abbrev pub quality_right : List ℕ → ℕ → ℕ
quality_right file place = number 2 (place + 10) file

abbrev pub adapter_left : List ℕ → ℕ → ℕ
adapter_left file place = number 2 (place + 12) file

abbrev pub adapter_right : List ℕ → ℕ → ℕ
adapter_right file place = number 2 (place + 14) file

-- a header section of the stated length with a name of L bytes: its length (5), cut short (1), a name byte (6), padding
-- (7)
unfoldable pub name_test : List ℕ → ℕ → ℕ → ℕ → Answer
name_test file place stated L =
    when (not (eqb stated (up8 (16 + L)))) 5 place
    then when (ltb (length file) (place + stated)) 1 place
    then stopped 6 (first_not is_name_byte (place + 16) (place + 16 + L) file) (place + 16 + L)
    then stopped 7 (first_not is_zero (place + 16 + L) (place + stated) file) (place + stated)

-- the clips of a read of n bases, in file order: one above its limit (9)
unfoldable pub clip_test : ℕ → ℕ → ℕ → ℕ → ℕ → ℕ → Answer
clip_test place n quality_left quality_right adapter_left adapter_right =
    when (ltb (left_limit n) quality_left) 9 (place + 8)
    then when (ltb (right_limit n) quality_right) 9 (place + 10)
    then when (ltb (left_limit n) adapter_left) 9 (place + 12)
    then when (ltb (right_limit n) adapter_right) 9 (place + 14)

-- the walk (10) over increments, and the bases (11) that follow them, places counted from the first increment.
-- "The walk stops at the first base that breaks this"
unfoldable pub bases_test : List ℕ → List ℕ → List ℕ → Answer
bases_test characters increments bases =
    stopped 10 (walked_count (length characters) 0 increments) (length increments)
    then stopped 11 (length increments + matched_count characters 0 increments bases) (length increments + length bases)

-- a data section at a place, of n bases: cut short (1), the walk (10), a base (11), padding (7)
unfoldable pub data_test : List ℕ → List ℕ → ℕ → ℕ → Answer
data_test characters file place n =
    let F = length characters in
    when (ltb (length file) (place + up8 (2 * F + 3 * n))) 1 place
    then shifted (place + 2 * F) (bases_test characters (part (place + 2 * F) n file) (part (place + 2 * F + n) n file))
    then stopped 7 (first_not is_zero (place + (2 * F + 3 * n)) (place + up8 (2 * F + 3 * n)) file)
    (place + up8 (2 * F + 3 * n))

-- "Read: 1 (under 16 bytes), 5, 1, 6, 7, 9, 1 (data), 10, 11, 7"
unfoldable pub read_test : List ℕ → List ℕ → ℕ → Answer
read_test characters file place =
    when (ltb (length file) (place + 16)) 1 place
    then name_test file place (section_length file place) (name_length file place)
    then clip_test place (base_count file place) (quality_left file place) (quality_right file place)
    (adapter_left file place) (adapter_right file place)
    then data_test characters file (place + section_length file place) (base_count file place)

-- where a read of F flow values ends
unfoldable pub read_end : ℕ → List ℕ → ℕ → ℕ
read_end F file place = place + section_length file place + up8 (2 * F + 3 * base_count file place)
