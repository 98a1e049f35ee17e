-- A word of text, and a text that is measured. Assumes nothing: these are
-- definitions.
use Rattle.std.specs.Prelude.{Result, Ok, Err, ℕ, ◌≡◌, ◌≤◌, cond, List, [], ◌∷◌, length, take, eqb, ltb}
use Rattle.answers.specs.declared.Refusal.{Refusal}
use Rattle.answers.specs.Causes.{number}
use Rattle.answers.specs.Answer.{Answer, Accepted, Refused, when, accepted_or}

-- 'An empty name, key or insert is "-"'
unfoldable pub or_dash : List ℕ → List ℕ
or_dash xs = cond (eqb (length xs) 0) (45 ∷ []) xs

-- the result of a call that puts a text: its answer, and the text, none where it refuses
pub record Fitted : Type 0 where
  pub answer : Answer
  pub text : List ℕ

-- the text where the test accepts, else nothing
abbrev pub tested : Answer → List ℕ → Fitted
tested answer xs = record { answer = answer; text = accepted_or answer xs [] }

-- the text if a buffer of that length holds it, else nothing and 26
unfoldable pub fitted : ℕ → List ℕ → Fitted
fitted room xs = tested (when (ltb room (length xs)) 26 0) xs

-- what a call that puts a text answers: no room (26) or no refusal, and the text's length
pub record Written : Type 0 where
  pub answer : Answer
  pub length : ℕ

-- the text's length, or a refusal, which puts nothing
abbrev pub written_of : Result ℕ Refusal → Written
written_of (Ok put) = record { answer = Accepted; length = put }
written_of (Err refusal) = record { answer = Refused (number refusal.0) refusal.1; length = 0 }

-- what such a call answers
abbrev pub written : Fitted → Written
written result = record { answer = result.answer; length = length result.text }

-- n bytes of xs may be lent from its front, as `&xs[..n]`, and n is their number
abbrev pub IsPrefixLen : ℕ → List ℕ → Type 0
IsPrefixLen n xs = (n ≤ length xs) × (n ≡ length (take n xs))

-- the number that it may answer with, beside 0
abbrev pub text_numbers : List ℕ
text_numbers = 26 ∷ []
