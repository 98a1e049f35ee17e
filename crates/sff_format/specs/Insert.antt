-- "Insert" of document 01: its first and last base, and the stretch between them. Assumes nothing: these are
-- definitions.
use Rattle.std.specs.Prelude.{ℕ, suc, ◌-◌, max, min, cond, List, length, eqb}
use Rattle.octets.specs.Parts.{part}
use Rattle.sff_format.specs.declared.Span.{Span}
use Rattle.sff_format.specs.Model.{Read}

-- "First = max(1, both lefts)"
unfoldable pub first_base : ℕ → ℕ → ℕ
first_base quality_left adapter_left = max 1 (max quality_left adapter_left)

-- "a 0 read as N"
unfoldable pub right_end : ℕ → ℕ → ℕ
right_end n clip = cond (eqb clip 0) n clip

-- "Last = min over both rights"
unfoldable pub last_base : ℕ → ℕ → ℕ → ℕ
last_base n quality_right adapter_right = min (right_end n quality_right) (right_end n adapter_right)

abbrev pub insert_first : Read → ℕ
insert_first read = first_base read.quality_left read.adapter_left

abbrev pub insert_last : Read → ℕ
insert_last read = last_base (length read.bases) read.quality_right read.adapter_right

-- from first to last, both from 1, of whatever a read has one of for each base: none "If first > last"
abbrev pub between : ℕ → ℕ → Span
between first last = record { at = first - 1; size = suc last - first }

abbrev pub insert_span : Read → Span
insert_span read = between (insert_first read) (insert_last read)

-- the insert of such a list: of the bases, or of the qualities
unfoldable pub insert_of : Read → List ℕ → List ℕ
insert_of read xs = part (insert_span read).at (insert_span read).size xs
