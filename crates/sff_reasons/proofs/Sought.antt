-- A name looked for among all reads but one, from boundary to boundary. Assumes nothing.
use Prim.Native.Nat.{ℕ, zero, suc, ◌+◌, ◌≤◌, ◌<◌}
use mathlib.Core.Path.{◌≡◌, refl, sym, ap, ◌∙◌}
use mathlib.Core.Bool.{Bool, true, false, not, ◌&&◌, ◌||◌}
use mathlib.Core.List.{List, [], ◌∷◌}
use native.Mathlib.Omega.{arith}
use native.Mathlib.Nat.{zero-add}
use borrow.Author.Tests.{eq-eqb, ne_eqb}
use lib.Dec.{eqb}
use lib.ListN.{drop}
use Rattle.octets.specs.Parts.{part, same}
use Rattle.answers.specs.Answer.{Accepted}
use Rattle.sff_format.specs.Model.{Read}
use Rattle.sff_format.specs.declared.Boundary.{Boundary}
use Rattle.sff_format.specs.HeaderTest.{read_count}
use Rattle.sff_format.specs.ReadTest.{name_length}
use Rattle.sff_format.specs.FileTest.{file_test}
use Rattle.sff_format.specs.Parse.{parse_read, parse}
use Rattle.sff_format.specs.Places.{replaced}
use Rattle.sff_format.specs.Walk.{first_boundary, read_start, next_boundary, Walk}
use Rattle.sff_format.proofs.Walks.{walk_start, walk_end, walk_reads, walk_next}
use Rattle.correction_format.specs.Reasons.{name_among}

-- one of the reads, which stand at position k and after it, has the name, and is not the one at position i
unfoldable pub others_bear : List ℕ → ℕ → ℕ → List Read → Bool
others_bear name i k [] = false
others_bear name i k (x ∷ xs) = (not (eqb k i) && same name x.name) || others_bear name i (k + 1) xs

-- behind position i all of them count
all_bear : (name : List ℕ) (i k : ℕ) (xs : List Read) → i < k → others_bear name i k xs ≡ name_among name xs
unfolding others_bear name_among
all_bear name i k [] h = refl
all_bear name i k (x ∷ xs) h = rw (ne_eqb k i (λ e. omega arith), all_bear name i (k + 1) xs (omega arith))

others_bear_lem : (name : List ℕ) (i k : ℕ) (xs : List Read) → others_bear name (k + i) k xs ≡ name_among name (replaced i [] xs)
unfolding others_bear name_among
others_bear_lem name zero k [] = refl
others_bear_lem name (suc i) k [] = refl
others_bear_lem name zero k (x ∷ xs) =
    let e : eqb k (k + 0) ≡ true = eq-eqb k (k + 0) (omega arith) in
    rw e (all_bear name (k + 0) (k + 1) xs (omega arith))
others_bear_lem name (suc i) k (x ∷ xs) =
    let d : eqb k (k + suc i) ≡ false = ne_eqb k (k + suc i) (λ e. omega arith) in
    let e : k + suc i ≡ k + 1 + i = omega arith in
    let f : others_bear name (k + suc i) (k + 1) xs ≡ name_among name (replaced i [] xs) =
    ap (λ (n : ℕ). others_bear name n (k + 1) xs) e ∙ others_bear_lem name i (k + 1) xs in
    rw (d, f)

-- k reads are behind the boundary: those at it and after it decide
pub record Sought (name b : List ℕ) (i k : ℕ) (at : Boundary) : Type 0 where
  pub walk : Walk b k at
  pub is : name_among name (replaced i [] (parse b).reads) ≡ others_bear name i k (drop k (parse b).reads)

pub sought_start : (name b : List ℕ) (i : ℕ) → file_test b ≡ Accepted → {at : Boundary} → at ≡ first_boundary b → Sought name b i 0 at
sought_start name b i e f = rw f (record { walk = walk_start b e; is = sym (rw zero-add at (others_bear_lem name i 0 (parse b).reads)) })

module _ {name b : List ℕ} {i k : ℕ} {at : Boundary} (w : Sought name b i k at) where
  pub sought_none : read_count b ≤ k → false ≡ name_among name (replaced i [] (parse b).reads)
  unfolding others_bear
  sought_none h = sym (w.is ∙ rw (walk_end w.walk h))

  module _ {start : Boundary} (o : start ≡ read_start b at) (h : k < read_count b) {t : Bool}
      (e : t ≡ same name (part (start.place + 16) (name_length b start.place) b)) where
    turn : name_among name (replaced i [] (parse b).reads) ≡ ((not (eqb k i) && t) || others_bear name i (k + 1) (drop (k + 1) (parse b).reads))
    unfolding others_bear parse_read
    turn = w.is ∙ rw (walk_reads w.walk o h, e)

    pub sought_found : (not (eqb k i) && t) ≡ true → true ≡ name_among name (replaced i [] (parse b).reads)
    sought_found f = sym (turn ∙ rw f)

    pub sought_more : (not (eqb k i) && t) ≡ false → {next : Boundary} → next ≡ next_boundary b start → Sought name b i (k + 1) next
    sought_more f g = record { walk = walk_next w.walk o h g; is = turn ∙ rw f }
