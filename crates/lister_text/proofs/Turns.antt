-- A loop over an accepted file's reads, which puts their lines or measures them. Assumes nothing.
use Prim.Native.Nat.{ℕ, ◌+◌, ◌≤◌, ◌<◌}
use mathlib.Core.Path.{◌≡◌, refl}
use mathlib.Core.List.{List, [], ◌++◌}
use native.Mathlib.Numerals.{add-one}
use lib.ListN.{length, drop}
use Rattle.octets.specs.Numbers.{Bytes}
use Rattle.answers.specs.Answer.{Accepted}
use Rattle.sff_format.specs.declared.Boundary.{Boundary}
use Rattle.sff_format.specs.declared.ReadView.{ReadView}
use Rattle.sff_format.specs.HeaderTest.{read_count, flows, flow_characters}
use Rattle.sff_format.specs.ReadTest.{read_test}
use Rattle.sff_format.specs.FileTest.{file_test}
use Rattle.sff_format.specs.Parse.{parse_read, parse}
use Rattle.sff_format.specs.Walk.{first_boundary, read_start, next_boundary, Walk}
use Rattle.sff_format.specs.View.{view_at, bytes_in, view_first, view_last, insert_in}
use Rattle.sff_format.proofs.HeaderLaws.{characters-length}
use Rattle.sff_format.proofs.FileLaid.{head_ok}
use Rattle.sff_format.proofs.Walks.{walk_start, walk_end, walk_accepted, walk_reads, walk_next}
use Rattle.sff_format.proofs.Views.{name_viewed}
use Rattle.sff_format.proofs.Inserted.{size_viewed, first_viewed, last_viewed, insert_viewed}
use Rattle.lines.specs.Lines.{read_line}
use Rattle.lister_text.specs.Listing.{line_of, lines_from, view_line}

-- the line of a view, from its fields as the calls give them
pub view-line : (b : List ℕ) (position : ℕ) (v : ReadView) {name insert : List ℕ} {first last : ℕ}
    → name ≡ bytes_in b v.name → first ≡ view_first v → last ≡ view_last v → insert ≡ insert_in v (bytes_in b v.bases)
    → read_line position name v.bases.size first last insert ≡ view_line b position v
unfolding view_line
view-line b position v n f l i = rw (n, f, l, i)

-- the line of a view is the line of the read that it is of
line_viewed : (characters b : List ℕ) (p i : ℕ) → Bytes b → read_test characters b p ≡ Accepted
    → view_line b i (view_at (length characters) b p) ≡ line_of i (parse_read (length characters) b p)
unfolding view_line
line_viewed characters b p i y e = rw (
  insert_viewed characters b p y e,
  name_viewed characters b p e,
  first_viewed characters b p y e,
  last_viewed characters b p y e,
  size_viewed characters b p y e,
)

-- i reads are behind the boundary, and P holds of the lines of the rest: that they are to be put, or to be measured
pub record Listing (b : List ℕ) (i : ℕ) (boundary : Boundary) (P : List ℕ → Type 0) : Type 0 where
  pub bytes : Bytes b
  pub walk : Walk b i boundary
  pub coming : P (lines_from i (drop i (parse b).reads))

pub listing_start : (b : List ℕ) {boundary : Boundary} (P : List ℕ → Type 0) → Bytes b → file_test b ≡ Accepted → boundary ≡ first_boundary b
    → P (lines_from 0 (parse b).reads) → Listing b 0 boundary P
listing_start b P y e f k = record { bytes = y; walk = rw f (walk_start b e); coming = k }

module _ {b : List ℕ} {i : ℕ} {boundary : Boundary} {P : List ℕ → Type 0} (g : Listing b i boundary P) where
  pub listing-done : read_count b ≤ i → P []
  unfolding lines_from
  listing-done h = rw (walk_end g.walk h) at g.coming

  -- the next read's view
  module _ (h : i < read_count b) {v : ReadView} (w : v ≡ view_at (flows b) b (read_start b boundary).place) where
    line_is : lines_from i (drop i (parse b).reads) ≡ view_line b i v ++ lines_from (i + 1) (drop (i + 1) (parse b).reads)
    unfolding lines_from
    line_is =
        let p = (read_start b boundary).place in
        let c : length (flow_characters b) ≡ flows b = characters-length b (head_ok b g.walk.accepted) in
        let one : view_line b i (view_at (flows b) b p) ≡ line_of i (parse_read (flows b) b p)
        = rw c at (line_viewed (flow_characters b) b p i g.bytes (walk_accepted g.walk refl h)) in
        rw (walk_reads g.walk refl h, add-one, w, one)

    pub listing_next : P (view_line b i v ++ lines_from (i + 1) (drop (i + 1) (parse b).reads))
    listing_next = rw line_is at g.coming

    pub listing-more : (Q : List ℕ → Type 0) {after : Boundary} → after ≡ next_boundary b (read_start b boundary)
        → ((rest : List ℕ) → P (view_line b i v ++ rest) → Q rest) → Listing b (i + 1) after Q
    listing-more Q e f = record { bytes = g.bytes; walk = walk_next g.walk refl h e; coming = f _ listing_next }
