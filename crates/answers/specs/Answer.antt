-- What a test answers, and how tests follow one another. Assumes nothing: these are definitions.
use Rattle.std.specs.Prelude.{ℕ, ◌+◌, ◌≡◌, Bool, true, false, ◌||◌, List, [], ◌∷◌, ltb, eqb}
use Rattle.std.specs.Prelude.{Result, Ok, Err}
use Rattle.answers.specs.Causes.{number}
use Rattle.answers.specs.declared.Refusal.{Refusal}

-- "Every answer has a number (0 accepted) and a byte place, 0 where none is stated"
pub data Answer : Type 0 where
  Accepted : Answer
  Refused : ℕ → ℕ → Answer

-- "Every answer has a number (0 accepted) and a byte place, 0 where none is stated"
abbrev pub number_of : Answer → ℕ
number_of Accepted = 0
number_of (Refused number place) = number

abbrev pub place_of : Answer → ℕ
place_of Accepted = 0
place_of (Refused number place) = place

-- what a call says that gives a value or a refusal
abbrev pub answer_of : {T : Type 0} → Result T Refusal → Answer
answer_of (Ok value) = Accepted
answer_of (Err refusal) = Refused (number refusal.0) refusal.1

-- that number at that place where the test holds
unfoldable pub when : Bool → ℕ → ℕ → Answer
when true number place = Refused number place
when false number place = Accepted

infixr 10 ◌then◌
-- the first of two tests that refuses
unfoldable pub ◌then◌ : Answer → Answer → Answer
Accepted then next = next
(Refused number place) then next = Refused number place

-- that number at the place where a scan stopped, if it stopped short of the end: "Within one test the lowest place is
-- named"
abbrev pub stopped : ℕ → ℕ → ℕ → Answer
stopped number place end = when (ltb place end) number place

-- the answer of a test over bytes that start at place `from`, in places of the file
unfoldable pub shifted : ℕ → Answer → Answer
shifted from Accepted = Accepted
shifted from (Refused number place) = Refused number (from + place)

-- "A writer's refusals of its own input have place 0"
unfoldable pub zero_place : Answer → Answer
zero_place Accepted = Accepted
zero_place (Refused number place) = Refused number 0

-- the first where a test accepts, else the second
unfoldable pub accepted_or : {A : Type 0} → Answer → A → A → A
accepted_or Accepted first second = first
accepted_or (Refused number place) first second = second

-- a refusal's number and place have the property; nothing is asked of acceptance
abbrev pub Refusing : (ℕ → ℕ → Type 0) → Answer → Type 0
Refusing P Accepted = Unit {0}
Refusing P (Refused number place) = P number place

-- the number is one of these
unfoldable pub among : ℕ → List ℕ → Bool
among number [] = false
among number (first ∷ rest) = eqb number first || among number rest

-- accepted, or refused with one of these numbers
abbrev pub Among : List ℕ → Answer → Type 0
Among numbers answer = Refusing (λ number place. among number numbers ≡ true) answer
