-- The first row that holds, by the rows' tests. Assumes nothing.
use Prim.Native.Nat.{ℕ}
use mathlib.Core.Path.{◌≡◌, refl, sym, ◌∙◌}
use mathlib.Core.Bool.{Bool, true, false, true≢false}
use mathlib.Core.Logic.{◌↔◌}
use mathlib.Core.List.{List, [], ◌∷◌}
use Rattle.answers.specs.Answer.{Accepted, Refused, when, ◌then◌, among, Among}
use Rattle.answers.specs.Reasons.{Reason}
use Rattle.answers.specs.Rows.{Row, first_row, RowByRow}
use Rattle.answers.proofs.Answers.{not-accepted, refused-not, first-ok, second-ok, when-ok, and_both}
use Rattle.answers.proofs.Numbered.{then-refusing, when-refusing, within}
use Rattle.answers.proofs.Reasons.{Tests, Judged, chain_judged}

-- a row that holds ends the table, and another hands on
module _ (n : ℕ) (t : Bool) (qs : List Row) where
  pub row-holds : t ≡ true → first_row ((n, t) ∷ qs) ≡ Refused n 0
  unfolding first_row when ◌then◌
  row-holds e = rw e

  pub row-not : t ≡ false → first_row ((n, t) ∷ qs) ≡ first_row qs
  unfolding first_row when ◌then◌
  row-not e = rw e

-- where none is answered for, none holds
abbrev pub NoneOf : List Row → Type 0
NoneOf [] = Unit {0}
NoneOf (q ∷ qs) = (q.1 ≡ false) × NoneOf qs

pub none_of : (qs : List Row) → first_row qs ≡ Accepted → NoneOf qs
unfolding first_row
none_of [] e = tt
none_of (q ∷ qs) e = (when-ok _ _ _ (first-ok _ _ e), none_of qs (second-ok _ _ e))

-- a table that agrees with reasons row by row answers for the first that holds
row_tests : (t : Bool) (n : ℕ) (s : Reason) → ((t ≡ true) ↔ s.holds) → s.answer ≡ Refused n 0 → Tests (when t n 0) s
unfolding when
row_tests true n s h a = record { accepts = (λ e. not-accepted n 0 e); refuses = (λ m p e. (h.0 refl, a ∙ e)) }
row_tests false n s h a = record { accepts = (λ e k. true≢false (sym (h.1 k))); refuses = (λ m p e. refused-not m p e) }

pub rows_judged : (qs : List Row) (ss : List Reason) → RowByRow qs ss → Judged ss (first_row qs)
unfolding first_row
rows_judged [] [] h = record { first = refl; none = (λ e. tt) }
rows_judged (q ∷ qs) [] h = absurd h
rows_judged [] (s ∷ ss) h = absurd h
rows_judged (q ∷ qs) (s ∷ ss) h = chain_judged _ _ _ _ (row_tests q.1 q.0 s h.0 h.1) (λ e. rows_judged qs ss h.2)

-- the numbers of a table are those of its rows
abbrev pub row_numbers : List Row → List ℕ
row_numbers [] = []
row_numbers (q ∷ qs) = q.0 ∷ row_numbers qs

pub rows_numbers : (ns : List ℕ) (qs : List Row) → within (row_numbers qs) ns ≡ true → Among ns (first_row qs)
unfolding first_row
rows_numbers ns [] w = tt
rows_numbers ns (q ∷ qs) w =
    let b = and_both (among q.0 ns) (within (row_numbers qs) ns) w in
    then-refusing _ _ _ (when-refusing _ q.1 q.0 0 b.0) (rows_numbers ns qs b.1)
