-- The loop over the boundaries: what is still to be asked decides. Assumes nothing.
use Prim.Native.Nat.{ℕ, zero, suc, ◌+◌, ◌≤◌}
use mathlib.Core.Path.{◌≡◌, refl, sym, ◌∙◌}
use mathlib.Core.Bool.{Bool, false}
use mathlib.Core.List.{List}
use native.Mathlib.Omega.{arith}
use borrow.Author.Rules.{rules}
use lib.ListN.{length}
use Rattle.answers.specs.Answer.{Answer, Accepted, Refused, ◌then◌}
use Rattle.sff_format.specs.declared.Boundary.{Boundary}
use Rattle.sff_format.specs.Walk.{first_boundary, read_start, next_boundary}
use Rattle.answers.proofs.Chains.{returned}
use Rattle.sff_format.specs.HeaderTest.{read_count, header_length, flows, flow_characters, header_test}
use Rattle.sff_format.specs.ReadTest.{read_test, read_end}
use Rattle.sff_format.specs.FileTest.{index_test, past_index, now_passed, end_test, boundary_test}
use Rattle.sff_format.proofs.HeaderLaws.{header_fits, header_sized}
use Rattle.sff_format.proofs.ReadLaid.{fits_16}
use Rattle.sff_format.proofs.Steps.{past_fits, read_fits}

-- the flow characters of an accepted header lie in the file
pub characters_fit : (b : List ℕ) → header_test b ≡ Accepted → 31 + flows b ≤ length b
characters_fit b e = let f = header_fits b e in let s = header_sized b e in omega arith

-- a read that is accepted has its 16 bytes
pub read_begins : (characters b : List ℕ) (p : ℕ) → Accepted ≡ read_test characters b p → p + 16 ≤ length b
read_begins characters b p t = fits_16 characters b p (sym t)

-- a condition that a call gave
pub due : {s t r : Bool} → r ≡ s → r ≡ t → s ≡ t
due d f = sym d ∙ f

-- what a boundary asks: an index that is due, then the end, or a read and what the next boundary asks
module _ (b : List ℕ) (n p : ℕ) (q : Bool) where
  index_stops : {k z : ℕ} → Refused k z ≡ index_test b p q → boundary_test b n p q ≡ Refused k z
  unfolding boundary_test ◌then◌
  index_stops {k} {z} r = go n
    where
      go : (m : ℕ) → boundary_test b m p q ≡ Refused k z
      go zero = rw (← r)
      go (suc m) = rw (← r)

  module _ (i : Accepted ≡ index_test b p q) where
    end_asked : boundary_test b 0 p q ≡ end_test b (past_index b p q) (now_passed b p q)
    unfolding boundary_test ◌then◌
    end_asked = rw (← i)

    read_asked : boundary_test b (suc n) p q
        ≡ (read_test (flow_characters b) b (past_index b p q) then boundary_test b n (read_end (flows b) b (past_index b p q)) (now_passed b p q))
    unfolding boundary_test ◌then◌
    read_asked = rw (← i)

-- n reads are left at a boundary, and what it asks is the whole answer
pub record SectionsInvariant (b : List ℕ) (whole : Answer) (n : ℕ) (at : Boundary) : Type 0 where
  pub head : header_test b ≡ Accepted
  pub fits : at.place ≤ length b
  pub is : whole ≡ boundary_test b n at.place at.passed

-- at any place in the file
pub sections_start : {b : List ℕ} → header_test b ≡ Accepted → (n : ℕ) (at : Boundary) → at.place ≤ length b
    → SectionsInvariant b (boundary_test b n at.place at.passed) n at
sections_start e n at l = record { head = e; fits = l; is = refl }

pub sections_first : {b : List ℕ} → header_test b ≡ Accepted → {at : Boundary} → at ≡ first_boundary b
    → {n : ℕ} → n ≡ read_count b → SectionsInvariant b (boundary_test b (read_count b) (header_length b) false) n at
sections_first {b} e i l = rw (i, l) (record { head = e; fits = header_fits b e; is = refl })

module _ {b : List ℕ} {w : Answer} {n : ℕ} {at : Boundary} (g : SectionsInvariant b w n at) where
  pub sections_characters : 31 + flows b ≤ length b
  sections_characters = characters_fit b g.head

  -- an index that is refused
  pub stop_index : {k p : ℕ} → Refused k p ≡ index_test b at.place at.passed → {x : Answer} → x ≡ Refused k p → x ≡ w
  stop_index r e = e ∙ sym (g.is ∙ index_stops b n at.place at.passed r)

  -- past an index, if one is due
  module _ (i : Accepted ≡ index_test b at.place at.passed) {start : Boundary} (s : start ≡ read_start b at) where
    pub past_inside : start.place ≤ length b
    past_inside = rw s (past_fits b at.place at.passed g.fits (sym i))

    pub stop_end : n ≡ 0 → {x : Answer} → x ≡ end_test b start.place start.passed → x ≡ w
    stop_end z e = rw s at e ∙ sym (g.is ∙ rw z (end_asked b n at.place at.passed i))

    -- m reads are left after the next
    module _ {m : ℕ} (l : n ≡ suc m) where
      asked : w ≡ (read_test (flow_characters b) b start.place then boundary_test b m (read_end (flows b) b start.place) start.passed)
      asked = rw s (g.is ∙ rw l (read_asked b m at.place at.passed i))

      pub stop_read : {k p : ℕ} → Refused k p ≡ read_test (flow_characters b) b start.place → {x : Answer} → x ≡ Refused k p → x ≡ w
      unfolding ◌then◌
      stop_read r e = e ∙ sym (asked ∙ rw (← r))

      pub sections_read : Accepted ≡ read_test (flow_characters b) b start.place → {next : Boundary} → next ≡ next_boundary b start
          → SectionsInvariant b w m next
      unfolding ◌then◌
      sections_read r e =
          rw e (record { head = g.head; fits = read_fits b g.head start.place (sym r); is = asked ∙ rw (← r) })

-- what `search` needs for the walk
pub ruleset boundaries = (sections_first, sections_characters, stop_index, past_inside, stop_end, stop_read, sections_read, read_begins, returned, rules)
