-- The first place whose byte fails a test, over the test. Assumes nothing: these are definitions.
use Rattle.std.specs.Prelude.{ℕ, suc, ◌+◌, ◌-◌, Bool, true, false, ◌&&◌, ◌||◌, ◌≡◌, List, [], ◌∷◌, length, eqb, leb, ltb}
use Rattle.octets.specs.Parts.{part}
use Rattle.octets.specs.declared.ByteTest.{ByteTest}
use Rattle.octets.specs.declared.ByteTest.TheVariants.{FlowCharacter, NameByte, Zero}

-- one more than n where the test held, else 0
abbrev pub one_more : Bool → ℕ → ℕ
one_more true n = suc n
one_more false n = 0

-- how many elements at the front of the list pass the test
unfoldable pub leading_count : (ℕ → Bool) → List ℕ → ℕ
leading_count test [] = 0
leading_count test (x ∷ xs) = one_more (test x) (leading_count test xs)

-- every element passes: the run of those that do goes to the end
abbrev pub Every : (ℕ → Bool) → List ℕ → Type 0
Every test xs = leading_count test xs ≡ length xs

-- some element fails the test
abbrev pub fails : (ℕ → Bool) → List ℕ → Bool
fails test xs = ltb (leading_count test xs) (length xs)

-- the first place from `from` on, before `to`, whose byte fails the test, or `to`: "Within one test the lowest place is
-- named"
unfoldable pub first_not : (ℕ → Bool) → ℕ → ℕ → List ℕ → ℕ
first_not test from to list = from + leading_count test (part from (to - from) list)

-- "flow and key characters are A, C, G, T"
abbrev pub is_flow_character : ℕ → Bool
is_flow_character byte = (eqb byte 65 || eqb byte 67) || (eqb byte 71 || eqb byte 84)

-- "Name bytes are 33 to 126"
abbrev pub is_name_byte : ℕ → Bool
is_name_byte byte = leb 33 byte && leb byte 126

abbrev pub is_zero : ℕ → Bool
is_zero byte = eqb byte 0

-- the test that a case of the code's enum stands for
abbrev pub passes : ByteTest → ℕ → Bool
passes FlowCharacter = is_flow_character
passes NameByte = is_name_byte
passes Zero = is_zero
