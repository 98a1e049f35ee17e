-- What the host's two calls leave: what is lent to a call comes first, then the number that it answers and what it
-- leaves in the memory lent to it. Assumes nothing: these are definitions.
use Rattle.std.specs.Prelude.{ℕ, ◌≡◌, List}
use Rattle.answers.specs.Answer.{number_of, place_of}
use Rattle.sff_format.specs.FileTest.{file_test}
use Rattle.correction_format.specs.Correct.{correct_outcome, correct_buffer}

-- what the test of a file leaves: number and place of its answer
abbrev pub Tested : List ℕ → ℕ → ℕ → Type 0
Tested file number place = (number ≡ number_of (file_test file)) × (place ≡ place_of (file_test file))

-- what a correction leaves: number and place of its answer, the file's length and the buffer
abbrev pub Corrected : List ℕ → ℕ → List ℕ → ℕ → ℕ → ℕ → List ℕ → Type 0
Corrected buffer file-length «record» number place length-after buffer-after =
    (number ≡ number_of (correct_outcome buffer file-length «record»).answer)
    × (place ≡ place_of (correct_outcome buffer file-length «record»).answer)
    × (length-after ≡ (correct_outcome buffer file-length «record»).length)
    × (buffer-after ≡ correct_buffer buffer file-length «record»)
