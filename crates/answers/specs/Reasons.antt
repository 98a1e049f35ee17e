-- "exactly when no reason to refuse holds, else the first that holds": what that says of a list of reasons. Assumes
-- nothing: these are definitions.
use Rattle.std.specs.Prelude.{◌≡◌, ◌⊎◌, List, [], ◌∷◌}
use Rattle.answers.specs.Answer.{Answer, Accepted}

-- a reason to refuse, and what is answered for it
pub record Reason : Type 1 where
  pub holds : Type 0
  pub answer : Answer

abbrev pub NoneHolds : List Reason → Type 0
NoneHolds [] = Unit {0}
NoneHolds (reason ∷ reasons) = (reason.holds → ⊥) × NoneHolds reasons

-- this is answered for the first reason that holds, or is acceptance where none does
abbrev pub FirstHolds : List Reason → Answer → Type 0
FirstHolds [] answer = answer ≡ Accepted
FirstHolds (reason ∷ reasons) answer =
    (reason.holds × (answer ≡ reason.answer)) ⊎ ((reason.holds → ⊥) × FirstHolds reasons answer)
