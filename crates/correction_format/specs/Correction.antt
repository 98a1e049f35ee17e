-- A correction as a value: what a record says. Assumes nothing: these are definitions.
use Rattle.std.specs.Prelude.{ℕ, ◌≤◌, ◌<◌, Bool, true, false, List, [], ◌∷◌, length}
use Rattle.octets.specs.Numbers.{Words}
use Rattle.octets.specs.Scans.{Every, is_name_byte}

-- "1 clips, 2 rename, 3 remove", with what the kind uses: four new clips in file order, a new name, nothing
pub data Change : Type 0 where
  clips : ℕ → ℕ → ℕ → ℕ → Change
  rename : List ℕ → Change
  remove : Change

-- what a record asks for: the read by its "position from 0" and its "old name", and what it does to it
pub record Correction : Type 0 where
  pub position : ℕ
  pub old_name : List ℕ
  pub change : Change

-- the same change of the read at another position
abbrev pub at_position : ℕ → Correction → Correction
at_position position correction = record { position = position; old_name = correction.old_name; change = correction.change }

abbrev pub is_clips : Change → Bool
is_clips (clips quality_left quality_right adapter_left adapter_right) = true
is_clips (rename name) = false
is_clips remove = false

-- "Names fill 1 to 40 bytes of 33 to 126"
pub record ValidName (name : List ℕ) : Type 0 where
  pub least : 1 ≤ length name
  pub most : length name ≤ 40
  pub good : Every is_name_byte name

abbrev pub ValidChange : Change → Type 0
ValidChange (clips quality_left quality_right adapter_left adapter_right) =
    Words (quality_left ∷ quality_right ∷ adapter_left ∷ adapter_right ∷ [])
ValidChange (rename name) = ValidName name
ValidChange remove = Unit {0}

-- the old name is such a name, and the numbers fit their fields
pub record ValidCorrection (correction : Correction) : Type 0 where
  pub position_fits : correction.position < 4294967296
  pub old_good : ValidName correction.old_name
  pub change_good : ValidChange correction.change
