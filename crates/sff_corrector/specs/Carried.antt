-- What the code says of a record that was tried, in the definitions' words. Assumes nothing: these are definitions.
use Rattle.std.specs.Prelude.{ℕ, ◌≤◌, ◌≡◌, Option, None, Some, Result, Ok, Err, List, length, take}
use Rattle.answers.specs.declared.Refusal.{Refusal}
use Rattle.answers.specs.Causes.{number}
use Rattle.answers.specs.Answer.{Accepted, Refused}
use Rattle.sff_format.specs.Writing.{Outcome}
use Rattle.sff_format.specs.FileTest.{file_test}
use Rattle.sff_find.specs.declared.inner.Mark.{Mark}
use Rattle.sff_find.specs.Mark.{Marked}
use Rattle.sff_corrector.specs.declared.CarriedOut.{CarriedOut}

-- the answer and the length, on a file of length `len`
abbrev pub carried_outcome : ℕ → Result CarriedOut Refusal → Outcome
carried_outcome len (Ok carried) = record { answer = Accepted; length = carried.length }
carried_outcome len (Err refusal) = record { answer = Refused (number refusal.0) refusal.1; length = len }

-- the walk to a read may start there: a mark says where one of the file's reads starts, and none is at the header's end
abbrev pub StartIn : List ℕ → Option Mark → Type 0
StartIn file None = Unit {0}
StartIn file (Some mark) = Marked file mark

-- an accepted file of `len` bytes stands at the front of the buffer: the next record needs no test of it
pub record AcceptedFront (buffer : List ℕ) (len : ℕ) (from : Option Mark) : Type 0 where
  pub inside : len ≤ length buffer
  pub accepted : file_test (take len buffer) ≡ Accepted
  pub start : StartIn (take len buffer) from

-- after a record that was carried out, the buffer is ready for the next
abbrev pub AcceptedAfter : List ℕ → Result CarriedOut Refusal → Type 0
AcceptedAfter buffer (Ok carried) = AcceptedFront buffer carried.length (Some carried.read)
AcceptedAfter buffer (Err refusal) = Unit {0}
