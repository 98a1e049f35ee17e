-- The numbers of document 01's list that each call on a file may answer with, beside 0. Assumes nothing: these are
-- definitions.
use Rattle.std.specs.Prelude.{ℕ, List, [], ◌∷◌}

-- "Header: 1 (under 31 bytes), 2, 3, 4, 5, 1 (under header length), 6, 7, 8"
abbrev pub header_numbers : List ℕ
header_numbers = 1 ∷ 2 ∷ 3 ∷ 4 ∷ 5 ∷ 6 ∷ 7 ∷ 8 ∷ []

-- the file's: those of the header, of a read ("1 .., 5, 1, 6, 7, 9, 1 (data), 10, 11, 7") and of the end ("13, then
-- 12")
abbrev pub file_numbers : List ℕ
file_numbers = 1 ∷ 2 ∷ 3 ∷ 4 ∷ 5 ∷ 6 ∷ 7 ∷ 8 ∷ 9 ∷ 10 ∷ 11 ∷ 12 ∷ 13 ∷ []

-- "with no read left it answers 13, 12 or else 33"
abbrev pub step_numbers : List ℕ
step_numbers = 33 ∷ file_numbers

-- of a view that may be any, "section runs past the end"
abbrev pub view_numbers : List ℕ
view_numbers = 1 ∷ []

-- of an insert, "the file's, 21"; of a signal summary, "the file's, 21, 32"
abbrev pub position_numbers : List ℕ
position_numbers = 21 ∷ file_numbers

abbrev pub signal_numbers : List ℕ
signal_numbers = 32 ∷ position_numbers

-- "A new file: 5 (F+K over 65,497), 6, 26"
abbrev pub new_numbers : List ℕ
new_numbers = 5 ∷ 6 ∷ 26 ∷ []

-- "Order: 14 ..; the file's own refusal; 25 ..; 31 ..; 30 ..; 5 ..; 6; 9; 10; 11; 26"
abbrev pub append_numbers : List ℕ
append_numbers = 14 ∷ 25 ∷ 31 ∷ 30 ∷ 26 ∷ file_numbers
