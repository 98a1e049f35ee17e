-- "Correction records": the fields of a record, and when it is well formed. Assumes nothing: these are definitions.
use Rattle.std.specs.Prelude.{ℕ, ◌+◌, ◌-◌, cond, not, ◌||◌, List, length, get_or, ltb, eqb}
use Rattle.octets.specs.Parts.{part}
use Rattle.octets.specs.Numbers.{number}
use Rattle.octets.specs.Scans.{fails, is_name_byte, is_zero}
use Rattle.answers.specs.Answer.{Answer, Accepted, when, ◌then◌}

-- "kind (0: 1 clips, 2 rename, 3 remove), old name length (1), new name length (2), zero (3), position from 0 (4 to 7),
-- four new clips (8 to 15, file order), old name (16 to 55), new name (56 to 95)"
abbrev pub kind : List ℕ → ℕ
kind «record» = get_or «record» 0 0

abbrev pub old_length : List ℕ → ℕ
old_length «record» = get_or «record» 1 0

abbrev pub new_length : List ℕ → ℕ
new_length «record» = get_or «record» 2 0

abbrev pub position : List ℕ → ℕ
position «record» = number 4 4 «record»

abbrev pub new_quality_left : List ℕ → ℕ
new_quality_left «record» = number 2 8 «record»

abbrev pub new_quality_right : List ℕ → ℕ
new_quality_right «record» = number 2 10 «record»

abbrev pub new_adapter_left : List ℕ → ℕ
new_adapter_left «record» = number 2 12 «record»

abbrev pub new_adapter_right : List ℕ → ℕ
new_adapter_right «record» = number 2 14 «record»

abbrev pub old_name : List ℕ → List ℕ
old_name «record» = part 16 (old_length «record») «record»

abbrev pub new_name : List ℕ → List ℕ
new_name «record» = part 56 (new_length «record») «record»

-- "Names fill 1 to 40 bytes of 33 to 126, zeros after": a name of n bytes in the 40 bytes from a place on
unfoldable pub name_field_test : ℕ → ℕ → List ℕ → Answer
name_field_test place n «record» =
    when (ltb n 1 || ltb 40 n) 20 0
    then when (fails is_name_byte (part place n «record»)) 20 0
    then when (fails is_zero (part (place + n) (40 - n) «record»)) 20 0

-- "What a kind does not use is zero": n bytes from a place on
unfoldable pub unused_test : ℕ → ℕ → List ℕ → Answer
unused_test place n «record» = when (fails is_zero (part place n «record»)) 20 0

-- new clips are used by kind 1 alone
unfoldable pub new_clips_test : List ℕ → Answer
new_clips_test «record» = cond (eqb (kind «record») 1) Accepted (unused_test 8 8 «record»)

-- a new name is used by kind 2 alone
unfoldable pub new_name_test : List ℕ → Answer
new_name_test «record» =
    cond (eqb (kind «record») 2) (name_field_test 56 (new_length «record») «record»)
    (unused_test 2 1 «record» then unused_test 56 40 «record»)

-- "20 record malformed or not 96 bytes"
unfoldable pub record_test : List ℕ → Answer
record_test «record» =
    when (not (eqb (length «record») 96)) 20 0
    then when (ltb (kind «record») 1 || ltb 3 (kind «record»)) 20 0
    then unused_test 3 1 «record»
    then name_field_test 16 (old_length «record») «record»
    then new_clips_test «record»
    then new_name_test «record»
