-- The layout of a correction as a record, and the correction that a record says. Assumes nothing: these are
-- definitions.
use Rattle.std.specs.Prelude.{ℕ, cond, List, [], ◌∷◌, ◌++◌, length, eqb}
use Rattle.octets.specs.Parts.{filled}
use Rattle.octets.specs.Numbers.{fields}
use Rattle.correction_format.specs.Record.{kind, position, new_quality_left, new_quality_right, new_adapter_left, new_adapter_right, old_name, new_name}
use Rattle.correction_format.specs.Correction.{Change, clips, rename, remove, Correction}

-- "kind (0: 1 clips, 2 rename, 3 remove)"
abbrev pub kind_of : Change → ℕ
kind_of (clips quality_left quality_right adapter_left adapter_right) = 1
kind_of (rename name) = 2
kind_of remove = 3

-- "What a kind does not use is zero": a name in a rename alone, clips in kind 1 alone
abbrev pub name_of : Change → List ℕ
name_of (clips quality_left quality_right adapter_left adapter_right) = []
name_of (rename name) = name
name_of remove = []

abbrev pub clip_fields : ℕ → ℕ → ℕ → ℕ → List (ℕ × ℕ)
clip_fields quality_left quality_right adapter_left adapter_right =
    (2, quality_left) ∷ (2, quality_right) ∷ (2, adapter_left) ∷ (2, adapter_right) ∷ []

abbrev pub clips_of : Change → List (ℕ × ℕ)
clips_of (clips quality_left quality_right adapter_left adapter_right) =
    clip_fields quality_left quality_right adapter_left adapter_right
clips_of (rename name) = clip_fields 0 0 0 0
clips_of remove = clip_fields 0 0 0 0

-- "kind (0: ..), old name length (1), new name length (2), zero (3), position from 0 (4 to 7), four new clips (8 to 15,
-- file order)"
unfoldable pub record_fields : Correction → List (ℕ × ℕ)
record_fields correction =
    (1, kind_of correction.change) ∷ (1, length correction.old_name) ∷ (1, length (name_of correction.change))
    ∷ (1, 0) ∷ (4, correction.position) ∷ clips_of correction.change

-- "old name (16 to 55), new name (56 to 95). Names .. zeros after"
unfoldable pub layout_record : Correction → List ℕ
layout_record correction =
    fields (record_fields correction) ++ filled 40 correction.old_name ++ filled 40 (name_of correction.change)

-- what a record's kind asks for
unfoldable pub change_in : List ℕ → Change
change_in «record» =
    cond (eqb (kind «record») 1) (clips (new_quality_left «record») (new_quality_right «record») (new_adapter_left «record») (new_adapter_right «record»))
    (cond (eqb (kind «record») 2) (rename (new_name «record»)) remove)

-- the correction that a record says
abbrev pub parse_record : List ℕ → Correction
parse_record «record» = record { position = position «record»; old_name = old_name «record»; change = change_in «record» }
