-- The reasons not to carry out a correction, on the file that it is for: one test each. Assumes nothing: these are
-- definitions.
use Rattle.std.specs.Prelude.{ℕ, Bool, true, false, not, ◌&&◌, ◌||◌, List, [], ◌∷◌, length, ltb}
use Rattle.octets.specs.Parts.{same}
use Rattle.answers.specs.Answer.{Answer, accepted_or}
use Rattle.answers.specs.Rows.{Row, first_row}
use Rattle.sff_format.specs.Rules.{declared}
use Rattle.sff_format.specs.Model.{Read, File, layout}
use Rattle.sff_format.specs.ReadTest.{clip_test}
use Rattle.sff_format.specs.Places.{replaced}
use Rattle.correction_format.specs.Correction.{Change, clips, rename, remove, Correction, is_clips}
use Rattle.correction_format.specs.Edit.{target, edited}

-- there is a read at the position. 22, 23, 24 and 26 speak of that read, so without one they do not hold
abbrev pub has_target : Correction → File → Bool
has_target correction content = ltb correction.position (length content.reads)

-- some new clip is above what a read of n bases allows: what 9 refuses in a file
unfoldable pub clips_above : ℕ → Change → Bool
clips_above n (clips quality_left quality_right adapter_left adapter_right) =
    accepted_or (clip_test 0 n quality_left quality_right adapter_left adapter_right) false true
clips_above n (rename name) = false
clips_above n remove = false

-- the reads at other positions
abbrev pub others : Correction → File → List Read
others correction content = replaced correction.position [] content.reads

-- one of the reads has the name
unfoldable pub name_among : List ℕ → List Read → Bool
name_among name [] = false
name_among name (read ∷ reads) = same name read.name || name_among name reads

-- one of the reads has the name that a change gives
unfoldable pub new_name_among : Change → List Read → Bool
new_name_among (clips quality_left quality_right adapter_left adapter_right) reads = false
new_name_among (rename name) reads = name_among name reads
new_name_among remove reads = false

-- "21 position not below the number of reads"
unfoldable pub position_above : ℕ → Correction → File → Bool
position_above room correction content = not (has_target correction content)

-- "22 the read there has another name"
unfoldable pub other_name : ℕ → Correction → File → Bool
other_name room correction content = has_target correction content && not (same correction.old_name (target correction content).name)

-- "25 rename or remove with an index"
unfoldable pub index_present : ℕ → Correction → File → Bool
index_present room correction content =
    not (is_clips correction.change) && declared content.index.offset (length content.index.bytes)

-- "23 new clip above N"
unfoldable pub clip_above : ℕ → Correction → File → Bool
clip_above room correction content =
    has_target correction content && clips_above (length (target correction content).bases) correction.change

-- "24 rename to a name that another read bears"
unfoldable pub name_taken : ℕ → Correction → File → Bool
name_taken room correction content =
    has_target correction content && new_name_among correction.change (others correction content)

-- "26 no room" in a buffer of so many bytes for the file written afresh
unfoldable pub no_room : ℕ → Correction → File → Bool
no_room room correction content = has_target correction content && ltb room (length (layout (edited correction content)))

-- in document 01's order
abbrev pub reason_rows : ℕ → Correction → File → List Row
reason_rows room correction content =
    (21, position_above room correction content) ∷ (22, other_name room correction content)
    ∷ (25, index_present room correction content)
    ∷ (23, clip_above room correction content) ∷ (24, name_taken room correction content)
    ∷ (26, no_room room correction content) ∷ []

-- the first that holds
unfoldable pub reasons : ℕ → Correction → File → Answer
reasons room correction content = first_row (reason_rows room correction content)
