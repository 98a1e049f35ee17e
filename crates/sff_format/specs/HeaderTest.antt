-- The header's fields, and its tests in document 01's order. Assumes nothing: these are definitions.
use Rattle.std.specs.Prelude.{ℕ, ◌+◌, not, List, [], length, ltb, eqb}
use Rattle.octets.specs.Parts.{part, up8}
use Rattle.octets.specs.Numbers.{number}
use Rattle.octets.specs.Scans.{first_not, is_flow_character, is_zero}
use Rattle.answers.specs.Answer.{Answer, when, stopped, accepted_or, ◌then◌}
use Rattle.sff_format.specs.Rules.{bad_index}

-- "index offset at 8 (8 bytes), index length at 16 (4), reads at 20 (4), header length at 24 (2), key length K at 26
-- (2), flows F at 28 (2)"
abbrev pub index_offset : List ℕ → ℕ
index_offset file = number 8 8 file

abbrev pub index_length : List ℕ → ℕ
index_length file = number 4 16 file

abbrev pub read_count : List ℕ → ℕ
read_count file = number 4 20 file

abbrev pub header_length : List ℕ → ℕ
header_length file = number 2 24 file

abbrev pub key_length : List ℕ → ℕ
key_length file = number 2 26 file

abbrev pub flows : List ℕ → ℕ
flows file = number 2 28 file

-- 31+F+K: where flow and key characters end
abbrev pub characters_end : List ℕ → ℕ
characters_end file = 31 + flows file + key_length file

-- "F flow characters, K key characters"
abbrev pub flow_characters : List ℕ → List ℕ
flow_characters file = part 31 (flows file) file

abbrev pub key_characters : List ℕ → List ℕ
key_characters file = part (31 + flows file) (key_length file) file

-- magic (2), version (3), format code (4), header length (5), at the table's places: "0 / 4 / 30" and 24
unfoldable pub fixed_test : List ℕ → Answer
fixed_test file =
    when (not (eqb (number 4 0 file) 0x2E736666)) 2 0
    then when (not (eqb (number 4 4 file) 1)) 3 4
    then when (not (eqb (number 1 30 file) 1)) 4 30
    then when (not (eqb (header_length file) (up8 (characters_end file)))) 5 24

-- flow and key characters (6), padding (7), index fields (8)
unfoldable pub characters_test : List ℕ → Answer
characters_test file =
    stopped 6 (first_not is_flow_character 31 (characters_end file) file) (characters_end file)
    then stopped 7 (first_not is_zero (characters_end file) (header_length file) file) (header_length file)
    then when (bad_index (index_offset file) (index_length file)) 8 8

-- "Header: 1 (under 31 bytes), 2, 3, 4, 5, 1 (under header length), 6, 7, 8"
unfoldable pub header_test : List ℕ → Answer
header_test file =
    when (ltb (length file) 31) 1 0
    then fixed_test file
    then when (ltb (length file) (header_length file)) 1 0
    then characters_test file

-- the characters as they are handed out: none where the header is refused
unfoldable pub file_flow_characters : List ℕ → List ℕ
file_flow_characters file = accepted_or (header_test file) (flow_characters file) []

unfoldable pub file_key : List ℕ → List ℕ
file_key file = accepted_or (header_test file) (key_characters file) []
