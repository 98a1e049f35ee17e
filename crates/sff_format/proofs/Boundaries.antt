-- The three things that a boundary can ask: an index, a read, the end. Assumes nothing.
use Prim.Native.Nat.{ℕ, zero, suc, ◌+◌}
use mathlib.Core.Path.{◌≡◌, refl}
use mathlib.Core.Bool.{Bool, true, false, not, ◌&&◌, or-true, or-false}
use mathlib.Core.List.{List, [], ◌∷◌}
use native.Mathlib.Omega.{arith}
use lib.Dec.{eqb}
use borrow.Author.Tests.{eqb-true, eq-eqb, ne_eqb}
use Rattle.answers.specs.Answer.{Accepted, ◌then◌}
use Rattle.sff_format.specs.Rules.{declared, index_size}
use Rattle.sff_format.specs.HeaderTest.{index_offset, index_length, flows, flow_characters}
use Rattle.sff_format.specs.ReadTest.{read_test, read_end}
use Rattle.sff_format.specs.FileTest.{index_due, index_here, pass_test, index_test, past_index, now_passed, end_test, boundary_test}
use Rattle.answers.proofs.Answers.{and_both, first-ok, second-ok}
use Rattle.sff_format.specs.Parse.{parse_read, parse_reads}
use Rattle.sff_format.specs.Places.{place_from}

pub undeclared : (o l : ℕ) → declared o l ≡ false → (o ≡ 0) × (l ≡ 0)
unfolding declared
undeclared o l e = go (eqb o 0) (eqb l 0) refl refl e
  where
    go : (s t : Bool) → eqb o 0 ≡ s → eqb l 0 ≡ t → not (s && t) ≡ false → (o ≡ 0) × (l ≡ 0)
    go true true g h f = (eqb-true o 0 g, eqb-true l 0 h)
    go true false g h f = absurd (let z : ◌≡◌ {A = ℕ} 0 1 = cc in let a : ⊥ = omega arith in a)
    go false true g h f = absurd (let z : ◌≡◌ {A = ℕ} 0 1 = cc in let a : ⊥ = omega arith in a)
    go false false g h f = absurd (let z : ◌≡◌ {A = ℕ} 0 1 = cc in let a : ⊥ = omega arith in a)

-- nothing is left of the index: it was passed, or none is declared
abbrev pub Done : List ℕ → Bool → Type 0
Done b q = (declared (index_offset b) (index_length b) && not q) ≡ false

pub here_done : (b : List ℕ) (p : ℕ) (q : Bool) → Done b q → index_here b p q ≡ false
unfolding index_due
here_done b p true d = refl
here_done b p false d = go (declared (index_offset b) (index_length b)) d
  where
    go : (t : Bool) → (t && true) ≡ false → (t && eqb p (index_offset b)) ≡ false
    go true e = absurd (let z : ◌≡◌ {A = ℕ} 0 1 = cc in let f : ⊥ = omega arith in f)
    go false e = refl

pub here_not : (b : List ℕ) (p : ℕ) (q : Bool) → (p ≡ index_offset b → ⊥) → index_here b p q ≡ false
unfolding index_due
here_not b p true n = refl
here_not b p false n = rw (ne_eqb p (index_offset b) n) (go (declared (index_offset b) (index_length b)))
  where
    go : (t : Bool) → (t && false) ≡ false
    go true = refl
    go false = refl

pub here_is : (b : List ℕ) (p : ℕ) → declared (index_offset b) (index_length b) ≡ true → p ≡ index_offset b → index_here b p false ≡ true
unfolding index_due
here_is b p d e = rw (d, eq-eqb p (index_offset b) e)

pub here_told : (b : List ℕ) (p : ℕ) (q : Bool) → index_here b p q ≡ true → (declared (index_offset b) (index_length b) ≡ true) × (p ≡ index_offset b)
unfolding index_due
here_told b p q h =
    let there : Bool = eqb p (index_offset b) in
    let t = and_both (declared (index_offset b) (index_length b)) there (and_both (not q) (declared (index_offset b) (index_length b) && there) h).1 in
    (t.0, eqb-true p (index_offset b) t.1)

-- an index that is passed is not due
pub none_due : (b : List ℕ) (p : ℕ) → index_here b p true ≡ false
unfolding index_due
none_due b p = refl

-- what an accepted boundary tells, with no read left and with one
pub accepted_none : (b : List ℕ) (p : ℕ) (q : Bool) → boundary_test b 0 p q ≡ Accepted
    → (index_test b p q ≡ Accepted) × (end_test b (past_index b p q) (now_passed b p q) ≡ Accepted)
unfolding boundary_test
accepted_none b p q a = (first-ok _ _ a, second-ok _ _ a)

pub accepted-read : (b : List ℕ) (n p : ℕ) (q : Bool) → boundary_test b (suc n) p q ≡ Accepted
    → (index_test b p q ≡ Accepted) × (read_test (flow_characters b) b (past_index b p q) ≡ Accepted)
    × (boundary_test b n (read_end (flows b) b (past_index b p q)) (now_passed b p q) ≡ Accepted)
unfolding boundary_test
accepted-read b n p q a = (first-ok _ _ a, first-ok _ _ (second-ok _ _ a), second-ok _ _ (second-ok _ _ a))

module _ (b : List ℕ) (p : ℕ) (q : Bool) where
  pub parse_none : parse_reads b 0 p q ≡ []
  unfolding parse_reads
  parse_none = refl

  module _ (h : index_here b p q ≡ false) where
    pub no_test : index_test b p q ≡ Accepted
    unfolding index_test
    no_test = rw h

    pub no_past : past_index b p q ≡ p
    unfolding past_index
    no_past = rw h

    pub no_pass : now_passed b p q ≡ q
    no_pass = rw h (or-false q)

    pub boundary_end : boundary_test b 0 p q ≡ end_test b p q
    unfolding boundary_test ◌then◌
    boundary_end = rw (no_test, no_past, no_pass)

    pub place_here : place_from b 0 p q ≡ p
    unfolding place_from
    place_here = no_past

    pub place_read : (i : ℕ) → place_from b (suc i) p q ≡ place_from b i (read_end (flows b) b p) q
    unfolding place_from
    place_read i = rw (no_past, no_pass)

    module _ (n : ℕ) where
      pub boundary-read : boundary_test b (suc n) p q ≡ (read_test (flow_characters b) b p then boundary_test b n (read_end (flows b) b p) q)
      unfolding boundary_test ◌then◌
      boundary-read = rw (no_test, no_past, no_pass)

      pub parse-read : parse_reads b (suc n) p q ≡ parse_read (flows b) b p ∷ parse_reads b n (read_end (flows b) b p) q
      unfolding parse_reads
      parse-read = rw (no_past, no_pass)

  module _ (h : index_here b p q ≡ true) where
    pub past : past_index b p q ≡ p + index_size (index_length b)
    unfolding past_index
    past = rw h

    pub pass : now_passed b p q ≡ true
    pass = rw h (or-true q)

    pub pass_test_lem : index_test b p q ≡ pass_test b p
    unfolding index_test
    pass_test_lem = rw h

    pub boundary-index : (n : ℕ) → boundary_test b n p q ≡ (pass_test b p then boundary_test b n (p + index_size (index_length b)) true)
    unfolding boundary_test index_due past_index index_test ◌then◌
    boundary-index zero = rw (pass_test_lem, past, pass)
    boundary-index (suc n) = rw (pass_test_lem, past, pass)

    pub parse-index : (n : ℕ) → parse_reads b n p q ≡ parse_reads b n (p + index_size (index_length b)) true
    unfolding parse_reads index_due past_index
    parse-index zero = refl
    parse-index (suc n) = rw (past, pass)

    pub place-index : (i : ℕ) → place_from b i p q ≡ place_from b i (p + index_size (index_length b)) true
    unfolding place_from index_due past_index
    place-index zero = rw past
    place-index (suc i) = rw (past, pass)
