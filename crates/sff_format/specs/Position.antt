-- A read that is chosen by its position from 0: the test of the position, and its insert. Assumes nothing: these are
-- definitions.
use Rattle.std.specs.Prelude.{ℕ, not, List, [], ltb, eqb}
use Rattle.answers.specs.Answer.{Answer, when, accepted_or, ◌then◌}
use Rattle.sff_format.specs.declared.ReadView.{ReadView}
use Rattle.sff_format.specs.HeaderTest.{read_count, flows}
use Rattle.sff_format.specs.FileTest.{file_test}
use Rattle.sff_format.specs.Places.{read_place}
use Rattle.sff_format.specs.View.{view_at, bytes_in, view_first, view_last, insert_in}

-- "Refusals: the file's, 21": "position not below the number of reads"
unfoldable pub position_test : List ℕ → ℕ → Answer
position_test file position = file_test file then when (not (ltb position (read_count file))) 21 0

-- "the file's, 21, 32": "signal summary with F = 0"
unfoldable pub signal_test : List ℕ → ℕ → Answer
signal_test file position = position_test file position then when (eqb (flows file) 0) 32 0

-- the read at a position, in numbers
abbrev pub view_of : List ℕ → ℕ → ReadView
view_of file position = view_at (flows file) file (read_place file position)

-- "the insert's bases are handed over as a stretch of the caller's own file"; refused, "the stretch is then empty"
unfoldable pub file_insert : List ℕ → ℕ → List ℕ
file_insert file position =
    accepted_or (position_test file position)
    (insert_in (view_of file position) (bytes_in file (view_of file position).bases)) []

-- its first and last base; refused, those of a read without bases, whose insert is empty
unfoldable pub file_first : List ℕ → ℕ → ℕ
file_first file position = accepted_or (position_test file position) (view_first (view_of file position)) 1

unfoldable pub file_last : List ℕ → ℕ → ℕ
file_last file position = accepted_or (position_test file position) (view_last (view_of file position)) 0
