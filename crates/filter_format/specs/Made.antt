-- What the code's calls say in the definitions' words. Assumes nothing: these are definitions.
use Rattle.std.specs.Prelude.{ℕ, Result, Ok, Err}
use Rattle.answers.specs.declared.Refusal.{Refusal}
use Rattle.answers.specs.Causes.{number}
use Rattle.answers.specs.Answer.{Accepted, Refused}
use Rattle.filter_format.specs.Undo.{Filtered}

-- how many bytes were made, or a refusal, which makes none
abbrev pub filtered_of : Result ℕ Refusal → Filtered
filtered_of (Ok made) = record { answer = Accepted; made = made }
filtered_of (Err refusal) = record { answer = Refused (number refusal.0) refusal.1; made = 0 }
