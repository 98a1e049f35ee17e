-- A chain of tests answers for the first reason that holds. Assumes nothing.
use Prim.Native.Nat.{ℕ}
use mathlib.Core.Path.{◌≡◌, refl, sym, ◌∙◌}
use mathlib.Core.Bool.{Bool, true, false}
use mathlib.Core.Logic.{inl, inr, ⊎_elim}
use mathlib.Core.List.{List, [], ◌∷◌}
use Rattle.answers.specs.Answer.{Answer, Accepted, Refused, when, ◌then◌}
use Rattle.answers.specs.Reasons.{Reason, NoneHolds, FirstHolds}
use Rattle.answers.proofs.Answers.{not-accepted}

-- the test t is the reason's: it accepts where the reason does not hold, and else gives its answer
pub record Tests (t : Answer) (q : Reason) : Type 0 where
  pub accepts : t ≡ Accepted → q.holds → ⊥
  pub refuses : (n p : ℕ) → t ≡ Refused n p → q.holds × (q.answer ≡ Refused n p)

-- a condition's test
pub when_tests : (H : Type 0) (s : Bool) (n p : ℕ) → (s ≡ true → H) → (s ≡ false → H → ⊥) → Tests (when s n p) (record { holds = H; answer = Refused n p })
unfolding when
when_tests H true n p f g = record { accepts = (λ e. not-accepted n p e); refuses = (λ m q e. (f refl, e)) }
when_tests H false n p f g = record { accepts = (λ e h. g refl h); refuses = (λ m q e. not-accepted m q (sym e)) }

-- a is what the reasons in their order lead to: that of the first that holds, and acceptance where none holds alone
pub record Judged (qs : List Reason) (a : Answer) : Type 0 where
  pub first : FirstHolds qs a
  pub none : a ≡ Accepted → NoneHolds qs

-- a chain of tests is judged so: those behind one are asked only where it accepts
pub chain_judged : (t rest : Answer) (q : Reason) (qs : List Reason) → Tests t q → (t ≡ Accepted → Judged qs rest) → Judged (q ∷ qs) (t then rest)
unfolding ◌then◌
chain_judged Accepted rest q qs h k = record { first = inr (h.accepts refl, (k refl).first); none = (λ e. (h.accepts refl, (k refl).none e)) }
chain_judged (Refused n p) rest q qs h k =
    record { first = inl ((h.refuses n p refl).0, sym (h.refuses n p refl).1); none = (λ e. not-accepted n p e) }

pub last_judged : (t : Answer) (q : Reason) → Tests t q → Judged (q ∷ []) t
last_judged Accepted q h = record { first = inr (h.accepts refl, refl); none = (λ e. (h.accepts refl, tt)) }
last_judged (Refused n p) q h = record { first = inl ((h.refuses n p refl).0, sym (h.refuses n p refl).1); none = (λ e. not-accepted n p e) }

-- where none holds the answer is acceptance
pub none_accepted : (qs : List Reason) (a : Answer) → FirstHolds qs a → NoneHolds qs → a ≡ Accepted
none_accepted [] a f n = f
none_accepted (q ∷ qs) a f n = ⊎_elim (λ t. absurd (n.0 t.0)) (λ t. none_accepted qs a t.1 n.1) f

-- one answer alone is the first reason's
pub one_first : (reasons : List Reason) (answer other : Answer) → FirstHolds reasons answer → FirstHolds reasons other
    → answer ≡ other
one_first [] answer other f g = f ∙ sym g
one_first (q ∷ reasons) answer other f g =
    ⊎_elim
    (λ t. ⊎_elim (λ u. t.1 ∙ sym u.1) (λ u. absurd (u.0 t.0)) g)
    (λ t. ⊎_elim (λ u. absurd (t.0 u.0)) (λ u. one_first reasons answer other t.1 u.1) g)
    f
