-- What each edit in place writes, in bytes: `place` is the read's, `len` the file's length in the buffer.
-- Assumes nothing: these are definitions.
use Rattle.std.specs.Prelude.{ℕ, ◌+◌, ◌-◌, List, [], ◌++◌, take}
use Rattle.octets.specs.Parts.{put_at, spliced, up8}
use Rattle.octets.specs.Numbers.{bytes_of}
use Rattle.sff_format.specs.Model.{layout}
use Rattle.sff_format.specs.HeaderTest.{read_count}
use Rattle.sff_format.specs.ReadTest.{section_length}
use Rattle.sff_format.specs.Parse.{parse}
use Rattle.correction_format.specs.Correction.{Correction}
use Rattle.correction_format.specs.Edit.{edited}

-- the file as a correction leaves it, written afresh
abbrev pub afresh : Correction → ℕ → List ℕ → List ℕ
afresh correction len buffer = layout (edited correction (parse (take len buffer)))

-- the four new clips, in file order, over the old ones
abbrev pub clipped_at : ℕ → List ℕ → List ℕ → List ℕ
clipped_at place clips buffer = put_at (place + 8) clips buffer

-- how many bytes a name of n bytes takes with its padding
abbrev pub name_room : ℕ → ℕ
name_room n = up8 (16 + n) - 16

-- a new name of n bytes with its padding, which its field has too, in the place of the old one with its own; then the
-- two lengths that precede it
unfoldable pub renamed_at : ℕ → ℕ → ℕ → List ℕ → List ℕ → List ℕ
renamed_at place len n field buffer =
    put_at place (bytes_of 2 (up8 (16 + n)) ++ bytes_of 2 n)
    (spliced (place + 16) (section_length buffer place - 16) len (take (name_room n) field) buffer)

-- the read of `size` bytes cut out, and counted no more
unfoldable pub removed_at : ℕ → ℕ → ℕ → List ℕ → List ℕ
removed_at place size len buffer = put_at 20 (bytes_of 4 (read_count buffer - 1)) (spliced place size len [] buffer)
