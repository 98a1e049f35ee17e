-- What all refusals of a chain of tests have in common: a property of number and place, as that the number is one of a
-- list's. Assumes nothing.
use Prim.Native.Nat.{ℕ}
use mathlib.Core.Path.{◌≡◌, refl, sym, ◌∙◌}
use mathlib.Core.Bool.{Bool, true, false, ◌&&◌, ◌||◌}
use mathlib.Core.List.{List, [], ◌∷◌}
use native.Mathlib.Omega.{arith}
use borrow.Author.Tests.{eqb-true}
use lib.Dec.{eqb}
use Rattle.answers.specs.Answer.{Answer, Accepted, Refused, number_of, when, shifted, zero_place, ◌then◌, Refusing, among, Among}
use Rattle.answers.proofs.Answers.{and_both}

module _ (P : ℕ → ℕ → Type 0) where
  pub then-refusing : (a b : Answer) → Refusing P a → Refusing P b → Refusing P (a then b)
  unfolding ◌then◌
  then-refusing Accepted b h k = k
  then-refusing (Refused n p) b h k = h

  pub when-refusing : (t : Bool) (n p : ℕ) → P n p → Refusing P (when t n p)
  unfolding when
  when-refusing true n p h = h
  when-refusing false n p h = tt

  -- a test that holds
  pub held_refusing : (t : Bool) (n p : ℕ) → (t ≡ true → P n p) → Refusing P (when t n p)
  unfolding when
  held_refusing true n p h = h refl
  held_refusing false n p h = tt

-- a property of the number alone is kept where the place changes
module _ (P : ℕ → Type 0) where
  pub shifted-refusing : (from : ℕ) (a : Answer) → Refusing (λ n p. P n) a → Refusing (λ n p. P n) (shifted from a)
  unfolding shifted
  shifted-refusing from Accepted h = tt
  shifted-refusing from (Refused n p) h = h

  pub zero_place_refusing : (a : Answer) → Refusing (λ n p. P n) a → Refusing (λ n p. P n) (zero_place a)
  unfolding zero_place
  zero_place_refusing Accepted h = tt
  zero_place_refusing (Refused n p) h = h

-- every number of the first list is in the second
abbrev pub within : List ℕ → List ℕ → Bool
within [] ms = true
within (n ∷ ns) ms = among n ms && within ns ms

among-within : (n : ℕ) (ns ms : List ℕ) → within ns ms ≡ true → among n ns ≡ true → among n ms ≡ true
unfolding among
among-within n [] ms w h = absurd (let z : ◌≡◌ {A = ℕ} 0 1 = cc in let a : ⊥ = omega arith in a)
among-within n (m ∷ ns) ms w h = go (eqb n m) refl h (among-within n ns ms (and_both (among m ms) (within ns ms) w).1)
  where
    go : (t : Bool) → eqb n m ≡ t → (t || among n ns) ≡ true → (among n ns ≡ true → among n ms ≡ true) → among n ms ≡ true
    go true e k f = rw (eqb-true n m e) (and_both (among m ms) (within ns ms) w).0
    go false e k f = f k

pub more_numbers : (ns ms : List ℕ) → within ns ms ≡ true → (answer : Answer) → Among ns answer → Among ms answer
more_numbers ns ms w Accepted h = tt
more_numbers ns ms w (Refused n p) h = among-within n ns ms w h

-- "Every answer has a number (0 accepted)": 0 is in none of the lists, so it is acceptance's alone
pub zero_accepted : (ns : List ℕ) → among 0 ns ≡ false → (answer : Answer) → Among ns answer → number_of answer ≡ 0
    → answer ≡ Accepted
zero_accepted ns z Accepted h e = refl
zero_accepted ns z (Refused n p) h e =
    let f : among 0 ns ≡ true = rw e at h in
    let k : false ≡ true = sym z ∙ f in
    let y : ◌≡◌ {A = ℕ} 0 1 = cc in absurd (omega arith)
