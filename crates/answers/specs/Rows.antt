-- A table of numbered tests in order, and its agreement with reasons in words. Assumes nothing: these are definitions.
use Rattle.std.specs.Prelude.{ℕ, ◌≡◌, Bool, true, ◌↔◌, List, [], ◌∷◌}
use Rattle.answers.specs.Answer.{Answer, Accepted, Refused, when, ◌then◌}
use Rattle.answers.specs.Reasons.{Reason}

-- a number, and whether its test holds
abbrev pub Row : Type 0
Row = ℕ × Bool

-- the first row that holds, "place 0 for the record's own"
unfoldable pub first_row : List Row → Answer
first_row [] = Accepted
first_row (row ∷ rows) = when row.1 row.0 0 then first_row rows

-- each row's test holds exactly if the reason beside it does, and gives its answer
abbrev pub RowByRow : List Row → List Reason → Type 0
RowByRow [] [] = Unit {0}
RowByRow (row ∷ rows) [] = ⊥
RowByRow [] (reason ∷ reasons) = ⊥
RowByRow (row ∷ rows) (reason ∷ reasons) =
    ((row.1 ≡ true) ↔ reason.holds) × (reason.answer ≡ Refused row.0 0) × RowByRow rows reasons
