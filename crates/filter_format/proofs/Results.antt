-- What a call answers and leaves whose result is `tested`: a is what its test answered, `made` the bytes that it makes.
-- Assumes nothing.
use mathlib.Core.Path.{◌≡◌, refl, sym, ◌∙◌}
use mathlib.Core.List.{List, []}
use Prim.Native.Nat.{ℕ}
use lib.ListN.{length}
use Rattle.octets.specs.Parts.{put_at}
use Rattle.octets.proofs.Lists.{put_nil}
use Rattle.answers.specs.Answer.{Answer, Accepted, Refused, number_of, accepted_or}
use Rattle.filter_format.specs.Undo.{making, tested, filtered}
use Rattle.filter_format.specs.Encode.{out_after}

pub tested-answer : (a : Answer) (made : List ℕ) → (tested a made).answer ≡ a
unfolding accepted_or
tested-answer Accepted made = refl
tested-answer (Refused n p) made = refl

pub tested_ok : (a : Answer) (made : List ℕ) → (tested a made).answer ≡ Accepted → a ≡ Accepted
tested_ok a made e = sym (tested-answer a made) ∙ e

pub tested_makes : (a : Answer) (made : List ℕ) → a ≡ Accepted → tested a made ≡ making made
unfolding accepted_or
tested_makes a made e = rw e

-- refused, nothing is made
pub tested_none : (a : Answer) (made : List ℕ) → (number_of (tested a made).answer ≡ 0 → ⊥) → (tested a made).bytes ≡ []
unfolding accepted_or
tested_none Accepted made h = absurd (h refl)
tested_none (Refused n p) made h = refl

module _ {a test : Answer} (e : a ≡ test) (made : List ℕ) where
  -- "refused: 0", "changing nothing"
  module _ {n p : ℕ} (t : a ≡ Refused n p) where
    pub refused_answer : record { answer = a; made = 0 } ≡ filtered (tested test made)
    unfolding accepted_or
    refused_answer = rw (← e, t)

    pub refused_out : (out : List ℕ) → out ≡ out_after (tested test made) out
    unfolding accepted_or
    refused_out out = rw (← e, t) (sym (put_nil 0 out))

  module _ (t : a ≡ Accepted) where
    pub made-answer : {n : ℕ} → n ≡ length made → record { answer = a; made = n } ≡ filtered (tested test made)
    unfolding accepted_or
    made-answer k = rw (← e, t, k)

    pub made-out : (out : List ℕ) {out' : List ℕ} → out' ≡ put_at 0 made out → out' ≡ out_after (tested test made) out
    unfolding accepted_or
    made-out out b = b ∙ rw (← e, t)
