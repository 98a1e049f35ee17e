-- The numbers of document 01's list that each call on a filtered block may answer with, beside 0. Assumes nothing:
-- these are definitions.
use Rattle.std.specs.Prelude.{ℕ, List, [], ◌∷◌}

-- "Order per layer: 40 ..; 41 ..; 44 ..; 40 ..; 42 ..; 43 ..; 26"
abbrev pub undo_numbers : List ℕ
undo_numbers = 40 ∷ 41 ∷ 44 ∷ 42 ∷ 43 ∷ 26 ∷ []

-- one layer alone, "with the same refusals"; there is no ninth filter
abbrev pub layer_numbers : List ℕ
layer_numbers = 40 ∷ 41 ∷ 42 ∷ 43 ∷ 26 ∷ []

-- "Encoding one layer refuses 41 .., 42 .., 43, 26 in that order"
abbrev pub encode_numbers : List ℕ
encode_numbers = 41 ∷ 42 ∷ 43 ∷ 26 ∷ []

-- SCF samples: "either way refuses 42 (precision), 43, 26 in that order"
abbrev pub samples_numbers : List ℕ
samples_numbers = 42 ∷ 43 ∷ 26 ∷ []
