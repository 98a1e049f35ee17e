-- What is printed in each case: `too long`, a refusal's line, or the text. Assumes nothing.
use Prim.Native.Nat.{ℕ, ◌≤◌, ◌<◌}
use mathlib.Core.Path.{◌≡◌, refl}
use mathlib.Core.Bool.{Bool, true, false, cond}
use mathlib.Core.List.{List}
use lib.ListN.{length}
use lib.Dec.{ltb}
use borrow.Author.Tests.{lt-ltb, le-ltb, ltb-false}
use Rattle.answers.specs.Answer.{Answer, Accepted, Refused}
use Rattle.lines.specs.Lines.{refusal_line, too_long, answered, unless_long}

module _ (input text : List ℕ) where
  pub is_long : 65536 < length input → unless_long input text ≡ too_long
  unfolding unless_long
  is_long h = rw (lt-ltb 65536 (length input) h)

  pub not_long : length input ≤ 65536 → unless_long input text ≡ text
  unfolding unless_long
  not_long h = rw (le-ltb 65536 (length input) h)

-- what holds of `too long`, and of the text of an input that is not
pub long_or_not : (input text : List ℕ) (P : List ℕ → Type 0) → P too_long → (length input ≤ 65536 → P text) → P (unless_long input text)
unfolding unless_long
long_or_not input text P long short = go (ltb 65536 (length input)) refl
  where
    go : (t : Bool) → ltb 65536 (length input) ≡ t → P (cond t too_long text)
    go true e = long
    go false e = short (ltb-false 65536 (length input) e)

module _ {answer : Answer} (text : List ℕ) where
  pub answered-text : answer ≡ Accepted → answered answer text ≡ text
  unfolding answered
  answered-text e = rw e

  pub answered-refusal : {n p : ℕ} → answer ≡ Refused n p → answered answer text ≡ refusal_line n p
  unfolding answered
  answered-refusal e = rw e
