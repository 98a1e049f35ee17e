-- A loop over the reads of an accepted file: how it starts, what a turn meets, how it goes on, and how it ends. Assumes
-- nothing.
use Prim.Native.Nat.{ℕ, ◌+◌, ◌≤◌, ◌<◌}
use mathlib.Core.Path.{◌≡◌, refl, sym, ap, ◌∙◌}
use mathlib.Core.List.{List, [], ◌∷◌}
use lib.ListN.{length, drop}
use Rattle.octets.specs.Numbers.{Bytes}
use Rattle.answers.specs.Answer.{Accepted}
use Rattle.sff_format.specs.declared.Boundary.{Boundary}
use Rattle.sff_format.specs.declared.ReadView.{ReadView}
use Rattle.sff_format.specs.Model.{Read}
use Rattle.sff_format.specs.HeaderTest.{read_count, flows, flow_characters}
use Rattle.sff_format.specs.ReadTest.{read_test}
use Rattle.sff_format.specs.FileTest.{file_test}
use Rattle.sff_format.specs.Parse.{parse_read, parse}
use Rattle.sff_format.specs.Places.{read_at}
use Rattle.sff_format.specs.Walk.{first_boundary, read_start, next_boundary, Walk}
use Rattle.sff_format.specs.View.{view_at}
use Rattle.sff_format.proofs.HeaderLaws.{characters-length}
use Rattle.sff_format.proofs.FileLaid.{head_ok}
use Rattle.sff_format.proofs.Walks.{walk_start, walk_end, walk_accepted, walk_read, walk_reads, walk_next}

-- i reads are behind the boundary, and P holds of the rest: of what the loop is still to make of them
pub record Turns (b : List ℕ) (i : ℕ) (boundary : Boundary) (P : ℕ → List Read → Type 0) : Type 0 where
  pub bytes : Bytes b
  pub walk : Walk b i boundary
  pub coming : P i (drop i (parse b).reads)

pub turns-start : (b : List ℕ) {boundary : Boundary} (P : ℕ → List Read → Type 0) → Bytes b → file_test b ≡ Accepted
    → boundary ≡ first_boundary b → P 0 (parse b).reads → Turns b 0 boundary P
turns-start b P y e f k = record { bytes = y; walk = rw f (walk_start b e); coming = k }

module _ {b : List ℕ} {i : ℕ} {boundary : Boundary} {P : ℕ → List Read → Type 0} (g : Turns b i boundary P) where
  pub turns-done : read_count b ≤ i → P i []
  turns-done h = rw (walk_end g.walk h) at g.coming

  -- a read is left
  module _ (h : i < read_count b) where
    pub turns_next : P i (read_at (parse b) i ∷ drop (i + 1) (parse b).reads)
    turns_next = rw (walk_reads g.walk refl h, ← walk_read g.walk refl h) at g.coming

    pub turns_more : (Q : ℕ → List Read → Type 0) {after : Boundary} → after ≡ next_boundary b (read_start b boundary)
        → ((rest : List Read) → P i (read_at (parse b) i ∷ rest) → Q (i + 1) rest) → Turns b (i + 1) after Q
    turns_more Q e f = record { bytes = g.bytes; walk = walk_next g.walk refl h e; coming = f _ turns_next }

    -- what is said of the view of every accepted read holds of the next one's
    pub turns-view : {v : ReadView} → v ≡ view_at (flows b) b (read_start b boundary).place → (S : ReadView → Read → Type 0)
        → ((characters : List ℕ) (p : ℕ) → read_test characters b p ≡ Accepted → S (view_at (length characters) b p) (parse_read (length characters) b p))
        → S v (read_at (parse b) i)
    turns-view w S s =
        let p = (read_start b boundary).place in
        let c : length (flow_characters b) ≡ flows b = characters-length b (head_ok b g.walk.accepted) in
        rw (w, walk_read g.walk refl h, ← c) (s (flow_characters b) p (walk_accepted g.walk refl h))
