-- Where a read starts: by the sizes of what stands before it, and as a walk over the bytes finds it. Assumes nothing:
-- these are definitions.
use Rattle.std.specs.Prelude.{ℕ, zero, suc, ◌+◌, Bool, false, cond, List, [], ◌++◌, length, take, drop, get_or, leb}
use Rattle.sff_format.specs.Model.{Read, File, layout_reads, layout_header, layout_index}
use Rattle.sff_format.specs.HeaderTest.{header_length, flows}
use Rattle.sff_format.specs.ReadTest.{read_end}
use Rattle.sff_format.specs.FileTest.{past_index, now_passed}

-- stands for the read at a position where the file has none
abbrev pub no_read : Read
no_read = record {
  name = [];
  quality_left = 0;
  quality_right = 0;
  adapter_left = 0;
  adapter_right = 0;
  values = [];
  increments = [];
  bases = [];
  qualities = [];
}

-- the read at a position from 0
abbrev pub read_at : File → ℕ → Read
read_at content position = get_or content.reads position no_read

-- the reads with new ones in the place of the one at a position
abbrev pub replaced : ℕ → List Read → List Read → List Read
replaced position new reads = take position reads ++ new ++ drop (suc position) reads

-- where it starts: after the header, the reads before it, and an index that stands no later
unfoldable pub place : File → ℕ → ℕ
place content position =
    let at = length (layout_header content) + length (layout_reads (take position content.reads)) in
    at + cond (leb content.index.offset at) (length (layout_index content.index)) 0

-- where it starts, found from a boundary on: past any index, and past as many reads as its position says
unfoldable pub place_from : List ℕ → ℕ → ℕ → Bool → ℕ
place_from file zero boundary passed = past_index file boundary passed
place_from file (suc position) boundary passed =
    place_from file position (read_end (flows file) file (past_index file boundary passed))
    (now_passed file boundary passed)

unfoldable pub read_place : List ℕ → ℕ → ℕ
read_place file position = place_from file position (header_length file) false
