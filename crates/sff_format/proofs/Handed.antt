-- What a call gave whose refusal `map_err` puts into an error that says more, before a `?`. Assumes nothing.
use mathlib.Core.Path.{◌≡◌, refl, sym, ap, subst, ◌∙◌}
use Prim.Native.Nat.{ℕ}
use mathlib.Core.Bool.{true≢false}
use Rattle.std.specs.Prelude.{Result, Ok, Err, is_ok}
use Rattle.std.specs.Result.{MatchResult, IsErr, IsErrAnd, result_unwrap_or}
use Rattle.answers.specs.declared.Refusal.{Refusal}
use Rattle.answers.specs.Causes.{number}
use Rattle.answers.specs.Answer.{Refused}
use Rattle.sff_format.specs.declared.NotDone.{NotDone}
use Rattle.sff_format.specs.Writing.{outcome_of}

-- where the `?` goes on, what was given is what it goes on with
pub went_on : {T E : Type 0} (given : Result T Refusal) (result : Result T E) (P : Refusal → E → Type 0) {x : T}
    → MatchResult given (λ y. result ≡ Ok y) (λ e. IsErrAnd result (P e)) → result ≡ Ok x → given ≡ Ok x
went_on (Ok y) result P m w = ap (λ r. Ok (result_unwrap_or r y)) (sym m ∙ w)
went_on (Err e) result P m w = absurd (subst (λ r. IsErrAnd r (P e)) w m)

-- where it hands an error back, that is made from the refusal that was given
pub came_back : {T E : Type 0} (given : Result T Refusal) (result : Result T E) (P : Refusal → E → Type 0) (made : Refusal → E) {d : E}
    → MatchResult given (λ y. result ≡ Ok y) (λ e. IsErrAnd result (P e)) → ((e : Refusal) (x : E) → P e x → x ≡ made e)
    → result ≡ Err d → (e : Refusal) × (given ≡ Err e) × (d ≡ made e)
came_back (Ok y) result P made m h w = absurd (true≢false (ap is_ok (sym m ∙ w)))
came_back (Err e) result P made {d} m h w = (e, refl, h e d (subst (λ r. IsErrAnd r (P e)) w m))

-- what a writer's call says that hands a refusal and a length back
pub outcome_returned : (r : Result ℕ NotDone) (d : NotDone) (e : Refusal) (n : ℕ) → d ≡ record { refusal = e; length = n }
    → IsErr r × IsErrAnd r (λ x. x ≡ d) → outcome_of r ≡ record { answer = Refused (number e.0) e.1; length = n }
outcome_returned (Ok x) d e n q (h, k) = absurd k
outcome_returned (Err x) d e n q (h, k) = rw (k, q)
