-- What the list's correction leaves. Assumes nothing: these are definitions.
use Rattle.std.specs.Prelude.{ℕ, ◌≡◌, List}
use Rattle.answers.specs.Answer.{number_of, place_of}
use Rattle.correction_format.specs.ListRun.{run_list}

-- what a list of corrections leaves: number of its answer, count of records, place, the file's length and the buffer
abbrev pub ListCorrected : List ℕ → ℕ → List ℕ → ℕ → ℕ → ℕ → ℕ → List ℕ → Type 0
ListCorrected buffer file-length list number count place length-after buffer-after =
    (number ≡ number_of (run_list buffer file-length list).outcome.answer)
    × (count ≡ (run_list buffer file-length list).outcome.count)
    × (place ≡ place_of (run_list buffer file-length list).outcome.answer)
    × (length-after ≡ (run_list buffer file-length list).outcome.length)
    × (buffer-after ≡ (run_list buffer file-length list).buffer)
