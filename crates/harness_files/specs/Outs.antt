-- What the exports leave, in the definitions' words: what is lent to a call comes first, then the number that it
-- answers and what it leaves in the memory lent to it. Assumes nothing: these are definitions.
use Rattle.std.specs.Prelude.{ℕ, ◌+◌, ◌*◌, ◌/◌, ◌%◌, ◌<◌, ◌≡◌, Bool, cond, not, List, length, get_or, eqb, ltb, Float}
use Rattle.octets.specs.Parts.{put_at}
use Rattle.answers.specs.Answer.{number_of, place_of}
use Rattle.sff_format.specs.declared.Clips.{Clips}
use Rattle.sff_format.specs.declared.Span.{Span}
use Rattle.sff_format.specs.declared.ReadView.{ReadView}
use Rattle.sff_format.specs.HeaderTest.{header_test, file_flow_characters, file_key}
use Rattle.sff_format.specs.View.{view_test}
use Rattle.sff_format.specs.Step.{State, Step, found, stop, fresh, step}
use Rattle.sff_format.specs.Position.{position_test, signal_test, file_insert, file_first, file_last}
use Rattle.sff_format.specs.Writing.{new_outcome, new_buffer, read_of, append_outcome, append_buffer}
use Rattle.sff_signal.specs.Signal.{file_signal}
use Rattle.harness_files.specs.declared.Stepped.{Stepped}

-- a state that is given as three numbers: the index is passed unless the third is 0
abbrev pub state_from : ℕ → ℕ → ℕ → State
state_from at passed index-passed = record { place = at; passed_reads = passed; passed_index = not (eqb index-passed 0) }

-- a view that is given as a list of numbers: place and size of the name, the values, the increments, the bases and the
-- qualities, then the clips in file order; what the list does not reach is 0, and so is the read's place, which no
-- accessor asks for
abbrev pub span_from : List ℕ → ℕ → ℕ → Span
span_from list i j = record { at = get_or list i 0; size = get_or list j 0 }

unfoldable pub view_from : List ℕ → ReadView
view_from list = record {
  place = 0;
  name = span_from list 0 1;
  values = span_from list 2 3;
  increments = span_from list 4 5;
  bases = span_from list 6 7;
  qualities = span_from list 8 9;
  quality_left = get_or list 10 0;
  quality_right = get_or list 11 0;
  adapter_left = get_or list 12 0;
  adapter_right = get_or list 13 0;
}

-- 1 for yes, 0 for no
abbrev pub flag : Bool → ℕ
flag held = cond held 1 0

-- four clips in one number, 16 bits each, the first highest
abbrev pub packed : ℕ → ℕ → ℕ → ℕ → ℕ
packed first second third fourth = ((first * 65536 + second) * 65536 + third) * 65536 + fourth

abbrev pub view_clips : ReadView → ℕ
view_clips view = packed view.quality_left view.quality_right view.adapter_left view.adapter_right

-- each clip has 16 bits
pub record ClipsFit (view : ReadView) : Type 0 where
  pub quality_left : view.quality_left < 65536
  pub quality_right : view.quality_right < 65536
  pub adapter_left : view.adapter_left < 65536
  pub adapter_right : view.adapter_right < 65536

-- the numbers of a step
abbrev pub stepped_with : ℕ → ℕ → ℕ → ℕ → ℕ → ℕ → ℕ → ℕ → ℕ → Stepped
stepped_with number place at passed index-passed read-start name-length bases clips = record {
  number = number;
  place = place;
  at = at;
  passed = passed;
  index_passed = index-passed;
  read_start = read-start;
  name_length = name-length;
  bases = bases;
  clips = clips;
}

-- a step's answer as numbers; those of a read are 0 where there is none
unfoldable pub stepped_of : Step → Stepped
stepped_of (found view next) =
    stepped_with 0 0 next.place next.passed_reads (flag next.passed_index) view.place view.name.size
    view.bases.size (view_clips view)
stepped_of (stop number place state) =
    stepped_with number place state.place state.passed_reads (flag state.passed_index) 0 0 0 0

-- bytes at the front of a buffer that has room for them; one that has not stays as it is
unfoldable pub put_front : List ℕ → List ℕ → List ℕ
put_front xs list = cond (ltb (length list) (length xs)) list (put_at 0 xs list)

-- the clips that one number holds, the first highest
abbrev pub clips_from : ℕ → Clips
clips_from number = record {
  quality_left = number / 281474976710656 % 65536;
  quality_right = number / 4294967296 % 65536;
  adapter_left = number / 65536 % 65536;
  adapter_right = number % 65536;
}

-- what a copy of characters leaves: number and place of the header's answer, their count and the buffer
abbrev pub HeaderCopied : List ℕ → List ℕ → List ℕ → ℕ → ℕ → ℕ → List ℕ → Type 0
HeaderCopied characters file out number place made out-after =
    (number ≡ number_of (header_test file))
    × (place ≡ place_of (header_test file))
    × (made ≡ length characters)
    × (out-after ≡ put_front characters out)

-- that of the flow characters
abbrev pub FlowCharactersCopied : List ℕ → List ℕ → ℕ → ℕ → ℕ → List ℕ → Type 0
FlowCharactersCopied file = HeaderCopied (file_flow_characters file) file

-- that of the key
abbrev pub KeyCopied : List ℕ → List ℕ → ℕ → ℕ → ℕ → List ℕ → Type 0
KeyCopied file = HeaderCopied (file_key file) file

-- what the test of a view leaves: number and place of its answer
abbrev pub ViewTested : List ℕ → List ℕ → ℕ → ℕ → Type 0
ViewTested file view number place =
    (number ≡ number_of (view_test file (view_from view))) × (place ≡ place_of (view_test file (view_from view)))

-- what the making of a fresh state leaves: 0 and the state
abbrev pub StateMade : List ℕ → ℕ → ℕ → ℕ → ℕ → Type 0
StateMade file number at passed index-passed =
    (number ≡ 0)
    × (at ≡ (fresh file).place)
    × (passed ≡ (fresh file).passed_reads)
    × (index-passed ≡ flag (fresh file).passed_index)

-- what a step leaves: number of its answer, the state, the place of its answer and the numbers of the read
abbrev pub SteppedOn : List ℕ → ℕ → ℕ → ℕ → ℕ → ℕ → ℕ → ℕ → ℕ → ℕ → ℕ → ℕ → ℕ → Type 0
SteppedOn file at passed index-passed number at_after passed-after index-passed-after place read-start name-length bases clips =
    stepped_with number place at_after passed-after index-passed-after read-start name-length bases clips
    ≡ stepped_of (step file (state_from at passed index-passed))

-- what a copy of an insert leaves: number and place of the answer, its ends, the count of its bases and the buffer
abbrev pub InsertCopied : List ℕ → ℕ → List ℕ → ℕ → ℕ → ℕ → ℕ → ℕ → List ℕ → Type 0
InsertCopied file position out number place first last made out-after =
    (number ≡ number_of (position_test file position))
    × (place ≡ place_of (position_test file position))
    × (first ≡ file_first file position)
    × (last ≡ file_last file position)
    × (made ≡ length (file_insert file position))
    × (out-after ≡ put_front (file_insert file position) out)

-- what a signal summary leaves: number of its answer, the three signals and the place of its answer
abbrev pub SignalSummarised : List ℕ → ℕ → ℕ → Float → Float → Float → ℕ → Type 0
SignalSummarised file position number strongest weakest mean place =
    (number ≡ number_of (signal_test file position))
    × (strongest ≡ (file_signal file position).strongest)
    × (weakest ≡ (file_signal file position).weakest)
    × (mean ≡ (file_signal file position).mean)
    × (place ≡ place_of (signal_test file position))

-- what the making of a new file leaves: number and place of its answer, the file's length and the buffer
abbrev pub FileMade : List ℕ → List ℕ → List ℕ → ℕ → ℕ → ℕ → List ℕ → Type 0
FileMade buffer flows key number place length-after buffer-after =
    (number ≡ number_of (new_outcome buffer flows key).answer)
    × (place ≡ place_of (new_outcome buffer flows key).answer)
    × (length-after ≡ (new_outcome buffer flows key).length)
    × (buffer-after ≡ new_buffer buffer flows key)

-- what an append leaves: number and place of its answer, the file's length and the buffer
abbrev pub ReadAppended : List ℕ → ℕ → List ℕ → ℕ → List ℕ → List ℕ → List ℕ → List ℕ → ℕ → ℕ → ℕ → List ℕ → Type 0
ReadAppended buffer file-length name clips values increments bases qualities number place length-after buffer-after =
    let read = read_of name (clips_from clips) values increments bases qualities in
    (number ≡ number_of (append_outcome buffer file-length read).answer)
    × (place ≡ place_of (append_outcome buffer file-length read).answer)
    × (length-after ≡ (append_outcome buffer file-length read).length)
    × (buffer-after ≡ append_buffer buffer file-length read)
