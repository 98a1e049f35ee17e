-- A walk over the reads of an accepted file: how it starts, that a read begins where it stands, how it goes on, and how
-- it ends. Assumes nothing.
use Prim.Native.Nat.{ℕ, zero, suc, ◌+◌, ◌-◌, ◌≤◌, ◌<◌}
use mathlib.Core.Path.{◌≡◌, refl, sym, ap, ◌∙◌}
use mathlib.Core.Bool.{Bool, true, false, true≢false, ◌&&◌, ◌||◌, or-true}
use mathlib.Core.List.{List, [], ◌∷◌}
use native.Mathlib.Omega.{arith}
use native.Mathlib.Nat.{add-zero, zero-add}
use native.Mathlib.Numerals.{add-one}
use lib.Dec.{ltb, eqb}
use lib.ListN.{length, drop, drop_of_length-le}
use lib.Seq.{drop-cons}
use borrow.Author.Tests.{lt-ltb, le-ltb, eqb-true, eqb-false}
use Rattle.octets.specs.Numbers.{Bytes}
use Rattle.answers.specs.Answer.{Accepted}
use Rattle.answers.proofs.Answers.{or_left, or_right}
use Rattle.sff_format.specs.declared.Boundary.{Boundary}
use Rattle.sff_format.specs.Rules.{declared, bad_index_length, bad_index}
use Rattle.sff_format.specs.HeaderTest.{index_offset, index_length, read_count, header_length, flows, flow_characters}
use Rattle.sff_format.specs.ReadTest.{name_length, read_test, read_end}
use Rattle.sff_format.specs.FileTest.{index_here, boundary_test, file_test}
use Rattle.sff_format.specs.Parse.{parse_read, parse}
use Rattle.sff_format.specs.Places.{no_read, read_at, place_from, read_place}
use Rattle.sff_format.specs.Walk.{first_boundary, read_start, next_boundary, boundary_after, start_after, boundary_at, Walk}
use Rattle.sff_format.proofs.Sizes.{size-least}
use Rattle.sff_format.proofs.HeaderLaws.{header_fits, index_good}
use Rattle.sff_format.proofs.ReadLaid.{fits_16, name_fits}
use Rattle.sff_format.proofs.Boundaries.{here_told, none_due, accepted-read, no_past, no_pass, past, pass}
use Rattle.sff_format.proofs.FileLaid.{pending_laid, head_ok, sections_ok, reads-counted}
use Rattle.sff_format.proofs.Places.{parse-at}
use Rattle.sff_format.proofs.Positions.{read-accepted}
use Rattle.sff_format.proofs.Steps.{read_fits}

-- a walk from the first boundary finds each read at its place
place_after : (b : List ℕ) (i k : ℕ) → place_from b i (boundary_after b k).place (boundary_after b k).passed ≡ (start_after b (k + i)).place
unfolding place_from boundary_after
place_after b zero k = rw add-zero
place_after b (suc i) k = let e : suc k + i ≡ k + suc i = omega arith in rw e at (place_after b i (suc k))

pub start-place : (b : List ℕ) (k : ℕ) → (start_after b k).place ≡ read_place b k
unfolding read_place boundary_after
start-place b k = sym (rw zero-add at (place_after b k 0))

-- so a read ends before any later one starts
past_least : (b : List ℕ) (at : Boundary) → at.place ≤ (read_start b at).place
past_least b at = go (index_here b at.place at.passed) refl
  where
    go : (t : Bool) → index_here b at.place at.passed ≡ t → at.place ≤ (read_start b at).place
    go true h = rw (past b _ _ h) (omega arith)
    go false h = rw (no_past b _ _ h) (omega arith)

after_later : (b : List ℕ) (i j : ℕ) → i < j → read_end (flows b) b (start_after b i).place ≤ (boundary_after b j).place
unfolding boundary_after read_end
after_later b i zero h = absurd (let a : ⊥ = omega arith in a)
after_later b i (suc j) h = go (eqb i j) refl (after_later b i j)
  where
    go : (t : Bool) → eqb i j ≡ t → (i < j → read_end (flows b) b (start_after b i).place ≤ (boundary_after b j).place)
        → read_end (flows b) b (start_after b i).place ≤ read_end (flows b) b (start_after b j).place
    go true e more = rw (eqb-true i j e) (omega arith)
    go false e more =
        let n = eqb-false i j e in
        let k = more (omega (arith, n)) in
        let s = past_least b (boundary_after b j) in
        omega arith

pub reads_in_order : (file : List ℕ) (i j : ℕ) → i < j → read_end (flows file) file (read_place file i) ≤ read_place file j
reads_in_order file i j h =
    let s = past_least file (boundary_after file j) in
    let k = after_later file i j h in
    rw (← start-place file i, ← start-place file j) (omega arith)

pub walk_start : (b : List ℕ) → file_test b ≡ Accepted → Walk b 0 (first_boundary b)
unfolding boundary_after
walk_start b e = record { accepted = e; behind = omega arith; inside = header_fits b (head_ok b e); stands = refl }

module _ {b : List ℕ} {k : ℕ} {at : Boundary} (w : Walk b k at) where
  -- with no read left
  pub walk_end : read_count b ≤ k → drop k (parse b).reads ≡ []
  walk_end h = drop_of_length-le (parse b).reads {i = k} (rw (reads-counted b) h)

  -- the code's boundary past any index
  module _ {here : Boundary} (o : here ≡ read_start b at) where
    pub walk_place : here.place ≡ read_place b k
    walk_place = ap (λ (x : Boundary). x.place) (o ∙ w.stands) ∙ start-place b k

    -- with a read left
    module _ (h : k < read_count b) where
      pub walk_accepted : read_test (flow_characters b) b here.place ≡ Accepted
      walk_accepted = rw walk_place (read-accepted b k w.accepted h)

      pub walk_begins : here.place + 16 ≤ length b
      walk_begins = fits_16 (flow_characters b) b here.place walk_accepted

      pub walk_name : here.place + 16 + name_length b here.place ≤ length b
      walk_name = name_fits (flow_characters b) b here.place walk_accepted

      pub walk_read : read_at (parse b) k ≡ parse_read (flows b) b here.place
      unfolding parse read_place
      walk_read = rw walk_place (parse-at b (read_count b) k (header_length b) false h)

      pub walk_reads : drop k (parse b).reads ≡ parse_read (flows b) b here.place ∷ drop (k + 1) (parse b).reads
      walk_reads = rw (add-one, ← walk_read) (drop-cons (parse b).reads k no_read (rw (reads-counted b) h))

      pub walk_next : {next : Boundary} → next ≡ next_boundary b here → Walk b (k + 1) next
      unfolding boundary_after
      walk_next e =
          rw (e, add-one)
          (
          record {
            accepted = w.accepted;
            behind = omega arith;
            inside = read_fits b (head_ok b w.accepted) here.place walk_accepted;
            stands = ap (λ (x : Boundary). read_start b (next_boundary b x)) (o ∙ w.stands);
          }
          )

-- an index that a header may declare has bytes
index_some : (o l : ℕ) → declared o l ≡ true → bad_index o l ≡ false → 0 < l
unfolding bad_index bad_index_length
index_some o zero d e = let f : (eqb o 0 || true) ≡ false = rw d at e in absurd (true≢false (sym (or-true (eqb o 0)) ∙ f))
index_some o (suc l) d e = omega arith

module _ (b : List ℕ) where
  -- past an index none is due
  start-again : (at : Boundary) → read_start b (read_start b at) ≡ read_start b at
  start-again at = go (index_here b at.place at.passed) refl
    where
      go : (t : Bool) → index_here b at.place at.passed ≡ t → read_start b (read_start b at) ≡ read_start b at
      go true h = rw (past b _ _ h, pass b _ _ h) (ap (λ (p : ℕ). record { place = p; passed = true }) (no_past b _ true (none_due b _)))
      go false h = rw (no_past b _ _ h, no_pass b _ _ h, no_past b _ _ h, no_pass b _ _ h)

  module _ (e : file_test b ≡ Accepted) where
    accepted-after : (k : ℕ) → k ≤ read_count b → boundary_test b (read_count b - k) (boundary_after b k).place (boundary_after b k).passed ≡ Accepted
    unfolding boundary_after
    accepted-after zero h = let n : read_count b - 0 ≡ read_count b = omega arith in rw n (sections_ok b e)
    accepted-after (suc k) h =
        let n : read_count b - k ≡ suc (read_count b - suc k) = omega arith in
        (accepted-read b (read_count b - suc k) _ _ (rw n at (accepted-after k (omega arith)))).2

    -- an index that is passed at a boundary stands before it
    abbrev Before : Boundary → Type 0
    Before at = at.passed ≡ true → (declared (index_offset b) (index_length b) ≡ true) × (index_offset b < at.place)

    start-before : (at : Boundary) → Before at → Before (read_start b at)
    start-before at f = go (index_here b at.place at.passed) refl
      where
        go : (t : Bool) → index_here b at.place at.passed ≡ t → Before (read_start b at)
        go true h = λ _.
            let d = here_told b at.place at.passed h in
            let s = size-least (index_length b) in
            let i = index_some (index_offset b) (index_length b) d.0 (index_good b (head_ok b e)) in
            (d.0, rw (past b _ _ h) (omega arith))
        go false h = rw (no_past b _ _ h, no_pass b _ _ h) f

    after-before : (k : ℕ) → Before (boundary_after b k)
    unfolding boundary_after read_end
    after-before zero = λ t. absurd (true≢false (sym t))
    after-before (suc k) = λ t. let s = start-before (boundary_after b k) (after-before k) t in (s.0, omega arith)

    module _ (y : Bytes b) (k : ℕ) (h : k < read_count b) where
      start-inside : (start_after b k).place ≤ length b
      start-inside = let f = fits_16 (flow_characters b) b (read_place b k) (read-accepted b k e h) in rw (start-place b k) (omega arith)

      -- before the index no place is beyond its offset
      start-not : declared (index_offset b) (index_length b) ≡ true → (start_after b k).passed ≡ false → (start_after b k).place ≤ index_offset b
      start-not d g =
          let p = (boundary_after b k).place in
          let q = (boundary_after b k).passed in
          let f : q ≡ false = or_left q (index_here b p q) g in
          let z : (start_after b k).place ≡ p = no_past b p q (or_right q (index_here b p q) g) in
          let l : p ≤ length b = let i = start-inside in omega arith in
          let m = (pending_laid b y (head_ok b e) d (read_count b - k) p l (rw f at (accepted-after k (omega arith)))).met in
          omega arith

      -- so the place tells whether the index is passed
      start_is : start_after b k ≡ boundary_at b (start_after b k).place
      start_is = ap (λ (q : Bool). record { place = (start_after b k).place; passed = q }) (go (start_after b k).passed refl (declared (index_offset b) (index_length b)) refl)
        where
          go : (t : Bool) → (start_after b k).passed ≡ t → (d : Bool) → declared (index_offset b) (index_length b) ≡ d → t ≡ (d && ltb (index_offset b) (start_after b k).place)
          go true g d c = let a = start-before (boundary_after b k) (after-before k) g in rw (sym c ∙ a.0) (sym (lt-ltb _ _ a.1))
          go false g false c = refl
          go false g true c = sym (le-ltb _ _ (start-not c g))

      -- a walk from a read whose place is known
      pub walk_at : {p : ℕ} → p ≡ read_place b k → Walk b k (boundary_at b p)
      walk_at o =
          rw (o, ← start-place b k, ← start_is)
          (record { accepted = e; behind = omega arith; inside = start-inside; stands = start-again (boundary_after b k) })
