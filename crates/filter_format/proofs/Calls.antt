-- A call that a `?` ends: it hands back the refusal, and has made nothing. Assumes nothing.
use mathlib.Core.Path.{◌≡◌, ◌∙◌, refl}
use mathlib.Core.List.{List}
use Prim.Native.Nat.{ℕ}
use Rattle.std.specs.Prelude.{Result, Ok, Err}
use Rattle.std.specs.Result.{IsErr, IsErrAnd}
use Rattle.answers.specs.declared.Refusal.{Refusal}
use Rattle.answers.specs.Causes.{number}
use Rattle.answers.specs.Answer.{Answer, Refused}
use Rattle.filter_format.specs.Undo.{tested, filtered}
use Rattle.filter_format.specs.Encode.{out_after}
use Rattle.filter_format.specs.Made.{filtered_of}
use Rattle.filter_format.proofs.Results.{refused_answer, refused_out}

-- e is what a test refused with
pub handed_back : (r : Result ℕ Refusal) (e : Refusal) → IsErr r × IsErrAnd r (λ x. x ≡ e) → {test : Answer} → Refused (number e.0) e.1 ≡ test → (made : List ℕ)
    → filtered_of r ≡ filtered (tested test made)
handed_back (Ok n) e (h, k) t made = absurd k
handed_back (Err x) e (h, k) t made = rw k (refused_answer t made refl)
