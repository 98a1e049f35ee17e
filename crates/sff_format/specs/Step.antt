-- "Reading on". Assumes nothing: these are definitions.
use Rattle.std.specs.Prelude.{ℕ, zero, suc, ◌+◌, Bool, false, cond, List, [], ◌∷◌, map, length, ltb}
use Rattle.answers.specs.Answer.{Answer, Accepted, Refused, when, ◌then◌}
use Rattle.sff_format.specs.declared.ReadView.{ReadView}
use Rattle.sff_format.specs.Model.{Read}
use Rattle.sff_format.specs.HeaderTest.{header_test, header_length, flows, flow_characters, read_count}
use Rattle.sff_format.specs.ReadTest.{read_test, read_end}
use Rattle.sff_format.specs.View.{view_at, view_read}
use Rattle.sff_format.specs.FileTest.{index_test, past_index, now_passed, end_test}

-- "A reader's state holds a byte place, the reads passed and whether the index is passed"
pub record State : Type 0 where
  pub place : ℕ
  pub passed_reads : ℕ
  pub passed_index : Bool

-- "A fresh state has passed nothing and stands at the header's end, or at 0 if the header is refused"
unfoldable pub fresh_place : Answer → List ℕ → ℕ
fresh_place Accepted file = header_length file
fresh_place (Refused number place) file = 0

unfoldable pub fresh : List ℕ → State
fresh file = record { place = fresh_place (header_test file) file; passed_reads = 0; passed_index = false }

-- the boundary at which a state reads on, past an index that stands where it is
abbrev pub boundary : List ℕ → State → ℕ
boundary file state = past_index file state.place state.passed_index

abbrev pub index_passed : List ℕ → State → Bool
index_passed file state = now_passed file state.place state.passed_index

-- past any index: a read; or "with no read left it answers 13, 12 or else 33", whose place is "the state's, past an
-- index"
unfoldable pub read_or_none : List ℕ → ℕ → ℕ → Bool → Answer
read_or_none file place passed_reads passed =
    cond (ltb passed_reads (read_count file))
    (read_test (flow_characters file) file place)
    (end_test file place passed then Refused 33 place)

-- "A step makes the header's tests, refuses a place beyond the file (1, that place), then does what a boundary asks"
unfoldable pub step_test : List ℕ → State → Answer
step_test file state =
    header_test file
    then when (ltb (length file) state.place) 1 state.place
    then index_test file state.place state.passed_index
    then read_or_none file (boundary file state) state.passed_reads (index_passed file state)

-- the state "moved by one read"
abbrev pub moved : List ℕ → State → State
moved file state = record { place = read_end (flows file) file (boundary file state); passed_reads = state.passed_reads + 1; passed_index = index_passed file state }

-- the read and the state after it, or a refusal and the state unmoved
pub data Step : Type 0 where
  found : ReadView → State → Step
  stop : ℕ → ℕ → State → Step

-- "A step that refuses, with 33 or any other number, gives back its state unmoved"
unfoldable pub concluded : Answer → ReadView → State → State → Step
concluded Accepted view next state = found view next
concluded (Refused number place) view next state = stop number place state

-- document 01's number and place of each case: a read that is found is accepted
abbrev pub step_answer : Step → Answer
step_answer (found view next) = Accepted
step_answer (stop number place state) = Refused number place

unfoldable pub step : List ℕ → State → Step
step file state =
    concluded (step_test file state) (view_at (flows file) file (boundary file state)) (moved file state) state

-- the refusal that ends the steps from a state on, if one comes within k steps
unfoldable pub on_stop : (State → Answer) → Step → Answer
on_stop more (found view next) = more next
on_stop more (stop number place state) = Refused number place

unfoldable pub last_answer : List ℕ → ℕ → State → Answer
unfolding on_stop
last_answer file zero state = Accepted
last_answer file (suc k) state = on_stop (last_answer file k) (step file state)

-- what the steps from a state on say of the reads that they find, within k steps
unfoldable pub on_found : (State → List ReadView) → Step → List ReadView
on_found more (found view next) = view ∷ more next
on_found more (stop number place state) = []

unfoldable pub views_found : List ℕ → ℕ → State → List ReadView
unfolding on_found
views_found file zero state = []
views_found file (suc k) state = on_found (views_found file k) (step file state)

-- the reads that are handed out from a fresh state on, until none is left
abbrev pub read_back : List ℕ → List Read
read_back file = map (view_read file) (views_found file (suc (read_count file)) (fresh file))
