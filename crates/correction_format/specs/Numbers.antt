-- The numbers of document 01's list that the calls on records may answer with, beside 0. Assumes nothing: these are
-- definitions.
use Rattle.std.specs.Prelude.{ℕ, List, [], ◌∷◌}
use Rattle.sff_format.specs.Numbers.{file_numbers}

-- "20 record malformed or not 96 bytes"
abbrev pub record_numbers : List ℕ
record_numbers = 20 ∷ []

-- "Order ..: 14; 20 ..; the file's refusal; 21 ..; 22 ..; 25 ..; 23 ..; 24 ..; 26 no room. None is given otherwise"; a
-- list's is that of its last record tried, or 20
abbrev pub correct_numbers : List ℕ
correct_numbers = 14 ∷ 20 ∷ 21 ∷ 22 ∷ 25 ∷ 23 ∷ 24 ∷ 26 ∷ file_numbers
