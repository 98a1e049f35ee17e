-- What the lister prints of a file, document 01's words in quotation marks. Assumes nothing: these are definitions.
use Rattle.std.specs.Prelude.{ℕ, suc, ◌+◌, ◌*◌, List, [], ◌∷◌, ◌++◌, length}
use Rattle.sff_format.specs.declared.ReadView.{ReadView}
use Rattle.sff_format.specs.Model.{Read, File}
use Rattle.sff_format.specs.FileTest.{file_test}
use Rattle.sff_format.specs.Parse.{parse}
use Rattle.sff_format.specs.Insert.{insert_first, insert_last, insert_of}
use Rattle.sff_format.specs.View.{bytes_in, view_first, view_last, insert_in}
use Rattle.lines.specs.Lines.{header_line, read_line, answered, unless_long}

-- "A read's line is position, name, N, first, last, insert"
abbrev pub line_of : ℕ → Read → List ℕ
line_of position read =
    read_line position read.name (length read.bases) (insert_first read) (insert_last read)
    (insert_of read read.bases)

-- the lines of reads from a position on
unfoldable pub lines_from : ℕ → List Read → List ℕ
lines_from position [] = []
lines_from position (read ∷ reads) = line_of position read ++ lines_from (suc position) reads

-- as "flows 4 key T reads 1", then the lines of the reads
unfoldable pub file_lines : File → List ℕ
file_lines content =
    header_line (length content.flow_characters) content.key (length content.reads)
    ++ lines_from 0 content.reads

-- of any bytes: "A refusal is one line and nothing else"
unfoldable pub listing : List ℕ → List ℕ
listing file = answered (file_test file) (file_lines (parse file))

-- room for the listing of any n bytes
abbrev pub enough : ℕ → ℕ
enough n = 7 * n + 64

-- "longer input than 65,536 bytes prints `too long`"
unfoldable pub printed : List ℕ → List ℕ
printed file = unless_long file (listing file)

-- what the code puts for a read: its line, from its places in the file
unfoldable pub view_line : List ℕ → ℕ → ReadView → List ℕ
view_line file position view =
    read_line position (bytes_in file view.name) view.bases.size (view_first view) (view_last view)
    (insert_in view (bytes_in file view.bases))
