-- The rules of document 01, "The file", each under a name of its own: the tests and `Valid` cite them. Assumes nothing:
-- these are definitions.
use Rattle.std.specs.Prelude.{ℕ, ◌+◌, ◌-◌, ◌%◌, Bool, not, ◌&&◌, ◌||◌, List, [], ◌∷◌, length, get_or, ltb, leb, eqb}
use Rattle.octets.specs.Scans.{one_more}

-- "An index is absent when offset and length are both 0"
unfoldable pub declared : ℕ → ℕ → Bool
declared offset len = not (eqb offset 0 && eqb len 0)

-- the lengths that an index may not have: "under 8 or not a multiple of 8"
unfoldable pub bad_index_length : ℕ → Bool
bad_index_length len = ltb len 8 || not (eqb (len % 8) 0)

-- what 8 refuses: "just one index field is 0, or index length under 8 or not a multiple of 8"
unfoldable pub bad_index : ℕ → ℕ → Bool
bad_index offset len = declared offset len && (eqb offset 0 || bad_index_length len)

-- the room that an index of a stated length occupies
unfoldable pub index_size : ℕ → ℕ
index_size len = len

-- "No clip field exceeds N": the limit of a left and of a right clip of a read of n bases
unfoldable pub left_limit : ℕ → ℕ
left_limit n = n

unfoldable pub right_limit : ℕ → ℕ
right_limit n = n

-- "every flow position lies in 1 to F"
unfoldable pub is_flow : ℕ → ℕ → Bool
is_flow F flow = leb 1 flow && leb flow F

-- "Index bytes are increments. The running sum after each base is its flow position": after a flow position, how many
-- of them keep the rule
unfoldable pub walked_count : ℕ → ℕ → List ℕ → ℕ
walked_count F flow [] = 0
walked_count F flow (increment ∷ increments) =
    one_more (is_flow F (flow + increment)) (walked_count F (flow + increment) increments)

-- "Base i is the flow character at its flow, or the letter N"
unfoldable pub base_matches : List ℕ → ℕ → ℕ → Bool
base_matches characters flow base = eqb base (get_or characters (flow - 1) 0) || eqb base 78

-- after a flow position, how many of the bases, with their increments, keep the rule
unfoldable pub matched_count : List ℕ → ℕ → List ℕ → List ℕ → ℕ
matched_count characters flow [] bases = 0
matched_count characters flow (increment ∷ increments) [] = 0
matched_count characters flow (increment ∷ increments) (base ∷ bases) =
    one_more (is_flow (length characters) (flow + increment) && base_matches characters (flow + increment) base)
    (matched_count characters (flow + increment) increments bases)
