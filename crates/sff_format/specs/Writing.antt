-- "Writing": a new file, an append, and a file written by these. Assumes nothing: these are definitions.
use Rattle.std.specs.Prelude.{Result, Ok, Err, ℕ, ◌+◌, ◌<◌, ◌≡◌, Bool, not, ◌||◌, List, [], ◌∷◌, length, take, ltb, eqb}
use Rattle.octets.specs.Parts.{put_at}
use Rattle.octets.specs.Numbers.{Bytes, bytes_of, Words}
use Rattle.octets.specs.Scans.{fails, is_flow_character, is_name_byte}
use Rattle.answers.specs.Causes.{number}
use Rattle.answers.specs.Answer.{Answer, Accepted, Refused, when, zero_place, ◌then◌, accepted_or}
use Rattle.sff_format.specs.declared.Clips.{Clips}
use Rattle.sff_format.specs.declared.NotDone.{NotDone}
use Rattle.sff_format.specs.Rules.{declared}
use Rattle.sff_format.specs.Model.{Read, File, no_index, layout_read, layout}
use Rattle.sff_format.specs.HeaderTest.{index_offset, index_length, read_count, flow_characters}
use Rattle.sff_format.specs.ReadTest.{clip_test, bases_test}
use Rattle.sff_format.specs.FileTest.{file_test}
use Rattle.sff_format.specs.Parse.{parse}
use Rattle.sff_format.specs.Places.{read_at}

-- what a writer answers: its refusal or none, and the file's length afterwards
pub record Outcome : Type 0 where
  pub answer : Answer
  pub length : ℕ

-- what a writer's call says: its refusal or none, and the length that it answers with either
abbrev pub outcome_of : Result ℕ NotDone → Outcome
outcome_of (Ok new) = record { answer = Accepted; length = new }
outcome_of (Err not_done) = record { answer = Refused (number not_done.refusal.0) not_done.refusal.1; length = not_done.length }

-- "also answers the file's length afterwards (the length given if nothing is done; 0 for a refused new file)"
abbrev pub outcome : Answer → ℕ → ℕ → Outcome
outcome answer given new = record { answer = answer; length = accepted_or answer new given }

-- "A new file has zero reads and no index"
abbrev pub new_file : List ℕ → List ℕ → File
new_file flow_characters key = record { flow_characters = flow_characters; key = key; index = no_index; reads = [] }

-- "A new file: 5 (F+K over 65,497), 6, 26", in a buffer of so many bytes
unfoldable pub new_test : ℕ → List ℕ → List ℕ → Answer
new_test room flow_characters key =
    when (ltb 65497 (length flow_characters + length key)) 5 0
    then when (fails is_flow_character flow_characters || fails is_flow_character key) 6 0
    then when (ltb room (length (layout (new_file flow_characters key)))) 26 0

unfoldable pub new_outcome : List ℕ → List ℕ → List ℕ → Outcome
new_outcome buffer flow_characters key = outcome (new_test (length buffer) flow_characters key) 0 (length (layout (new_file flow_characters key)))

-- "A refusal changes nothing. Success writes the new sections"
unfoldable pub new_buffer : List ℕ → List ℕ → List ℕ → List ℕ
new_buffer buffer flow_characters key =
    accepted_or (new_test (length buffer) flow_characters key) (put_at 0 (layout (new_file flow_characters key)) buffer) buffer

-- "one read", as it is lent
abbrev pub read_of : List ℕ → Clips → List ℕ → List ℕ → List ℕ → List ℕ → Read
read_of name clips values increments bases qualities = record {
  name = name;
  quality_left = clips.quality_left;
  quality_right = clips.quality_right;
  adapter_left = clips.adapter_left;
  adapter_right = clips.adapter_right;
  values = values;
  increments = increments;
  bases = bases;
  qualities = qualities;
}

-- "30 counts differ from F or from each other, or N above 4,294,967,295"
unfoldable pub bad_counts : ℕ → ℕ → ℕ → ℕ → ℕ → Bool
bad_counts F values increments bases qualities =
    (not (eqb values F) || not (eqb increments bases)) || (not (eqb qualities bases) || ltb 4294967295 bases)

-- a read for a file with these flow characters: counts (30), name length (5), name byte (6), clips (9), walk (10), base
-- (11)
unfoldable pub given_test : List ℕ → Read → Answer
given_test characters read =
    when (bad_counts (length characters) (length read.values) (length read.increments)
    (length read.bases) (length read.qualities)) 30 0
    then when (ltb 65512 (length read.name)) 5 0
    then when (fails is_name_byte read.name) 6 0
    then zero_place (clip_test 0 (length read.bases) read.quality_left read.quality_right
    read.adapter_left read.adapter_right)
    then zero_place (bases_test characters read.increments read.bases)

-- the file's own refusal; "25 an index is present; 31 reads already 4,294,967,295"
unfoldable pub open_test : List ℕ → Answer
open_test file =
    file_test file
    then when (declared (index_offset file) (index_length file)) 25 0
    then when (eqb (read_count file) 4294967295) 31 0

-- "Appending takes a buffer, the file's length in it and one read. Order: 14 length stated above the buffer; the file's
-- own refusal; 25 an index is present; 31 reads already 4,294,967,295; 30 ..; 5 ..; 6; 9; 10; 11; 26 new length above
-- the buffer"
unfoldable pub append_test : List ℕ → ℕ → Read → Answer
append_test buffer len read =
    let file = take len buffer in
    when (ltb (length buffer) len) 14 0
    then open_test file
    then given_test (flow_characters file) read
    then when (ltb (length buffer) (len + length (layout_read read))) 26 0

unfoldable pub append_outcome : List ℕ → ℕ → Read → Outcome
append_outcome buffer len read = outcome (append_test buffer len read) len (len + length (layout_read read))

-- "A refusal changes nothing. Success writes the new sections and, when appending, the count at 20; no other byte"
unfoldable pub append_buffer : List ℕ → ℕ → Read → List ℕ
append_buffer buffer len read =
    accepted_or (append_test buffer len read) (put_at 20 (bytes_of 4 (read_count (take len buffer) + 1)) (put_at len (layout_read read) buffer)) buffer

-- what an append answers and leaves
abbrev pub AppendLeaves : List ℕ → ℕ → Read → Outcome → List ℕ → Type 0
AppendLeaves buffer len read answered after = (answered ≡ append_outcome buffer len read) × (after ≡ append_buffer buffer len read)

-- what a writer leaves: its answer and the buffer
pub record WriteResult : Type 0 where
  pub outcome : Outcome
  pub buffer : List ℕ

abbrev pub new_in : List ℕ → List ℕ → List ℕ → WriteResult
new_in buffer flow_characters key = record { outcome = new_outcome buffer flow_characters key; buffer = new_buffer buffer flow_characters key }

abbrev pub append_to : WriteResult → Read → WriteResult
append_to left read = record {
  outcome = append_outcome left.buffer left.outcome.length read;
  buffer = append_buffer left.buffer left.outcome.length read;
}

-- an append for each read, up to one that is refused
unfoldable pub append_each : WriteResult → List Read → WriteResult
append_each left [] = left
append_each left (read ∷ reads) = accepted_or left.outcome.answer (append_each (append_to left read) reads) left

-- "a new file and an append for each read"
unfoldable pub write_each : List ℕ → File → WriteResult
write_each buffer content = append_each (new_in buffer content.flow_characters content.key) content.reads

-- an accepted file with these flow characters that holds the read
pub record Holder (characters : List ℕ) (read : Read) : Type 0 where
  pub file : List ℕ
  pub bytes : Bytes file
  pub accepted : file_test file ≡ Accepted
  pub characters_same : flow_characters file ≡ characters
  pub position : ℕ
  pub inside : position < read_count file
  pub holds : read_at (parse file) position ≡ read

-- what slices of bytes and of 16-bit numbers can hold
pub record FitsSlices (read : Read) : Type 0 where
  pub clips_fit : Words (read.quality_left ∷ read.quality_right ∷ read.adapter_left ∷ read.adapter_right ∷ [])
  pub values_fit : Words read.values
  pub bytes_good : Bytes read.increments × Bytes read.bases × Bytes read.qualities

abbrev pub AllFitSlices : List Read → Type 0
AllFitSlices [] = Unit {0}
AllFitSlices (read ∷ reads) = FitsSlices read × AllFitSlices reads
