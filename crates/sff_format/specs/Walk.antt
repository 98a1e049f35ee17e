-- A walk over the reads of an accepted file, from boundary to boundary. Assumes nothing: these are definitions.
use Rattle.std.specs.Prelude.{ℕ, zero, suc, ◌≤◌, ◌≡◌, false, ◌&&◌, List, length, ltb}
use Rattle.answers.specs.Answer.{Accepted}
use Rattle.sff_format.specs.declared.Boundary.{Boundary}
use Rattle.sff_format.specs.Rules.{declared}
use Rattle.sff_format.specs.HeaderTest.{index_offset, index_length, read_count, header_length, flows}
use Rattle.sff_format.specs.ReadTest.{read_end}
use Rattle.sff_format.specs.FileTest.{past_index, now_passed, file_test}

-- where a walk starts: at the header's end
abbrev pub first_boundary : List ℕ → Boundary
first_boundary file = record { place = header_length file; passed = false }

-- where the next read starts: "an index declared there and not yet passed is passed .., to the boundary at its end"
abbrev pub read_start : List ℕ → Boundary → Boundary
read_start file at = record {
  place = past_index file at.place at.passed;
  passed = now_passed file at.place at.passed;
}

-- the boundary at the end of a read, from the one where it starts
abbrev pub next_boundary : List ℕ → Boundary → Boundary
next_boundary file at = record { place = read_end (flows file) file at.place; passed = at.passed }

-- the boundary after k reads, and where the next starts
unfoldable pub boundary_after : List ℕ → ℕ → Boundary
boundary_after file zero = first_boundary file
boundary_after file (suc k) = next_boundary file (read_start file (boundary_after file k))

abbrev pub start_after : List ℕ → ℕ → Boundary
start_after file k = read_start file (boundary_after file k)

-- the boundary at the start of a read whose place is known: the index is passed if it stands before
abbrev pub boundary_at : List ℕ → ℕ → Boundary
boundary_at file place = record { place = place; passed = declared (index_offset file) (index_length file) && ltb (index_offset file) place }

-- k reads of an accepted file are behind a boundary: past any index it is where the next one starts
pub record Walk (file : List ℕ) (k : ℕ) (at : Boundary) : Type 0 where
  pub accepted : file_test file ≡ Accepted
  pub behind : k ≤ read_count file
  pub inside : at.place ≤ length file
  pub stands : read_start file at ≡ start_after file k
