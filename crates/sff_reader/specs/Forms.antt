-- What the code's forms say in the definitions' words. Assumes nothing: these are definitions.
use Rattle.std.specs.Prelude.{Result, Ok, Err}
use Rattle.answers.specs.Causes.{number}
use Rattle.sff_format.specs.declared.Boundary.{Boundary}
use Rattle.sff_format.specs.Step.{State, Step, found, stop}
use Rattle.sff_reader.specs.declared.Reader.{Reader}
use Rattle.sff_reader.specs.declared.Found.{Found}
use Rattle.sff_reader.specs.declared.Stopped.{Stopped}

abbrev pub state_of : Reader → State
state_of reader = record {
  place = reader.place;
  passed_reads = reader.passed_reads;
  passed_index = reader.passed_index;
}

abbrev pub boundary_of : Reader → Boundary
boundary_of reader = record { place = reader.place; passed = reader.passed_index }

abbrev pub found_of : Found → Step
found_of read = found read.view (state_of read.next)

-- what a step says: the read and the state after it, or the refusal and the state that it gives back
abbrev pub step_of : Result Found Stopped → Step
step_of (Ok read) = found_of read
step_of (Err stopped) = stop (number stopped.refusal.0) stopped.refusal.1 (state_of stopped.unmoved)
