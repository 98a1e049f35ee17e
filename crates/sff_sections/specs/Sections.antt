-- A read and a new file's characters as they are lent, and how long their sections are; and a read's header section by
-- the numbers that the code is given. Assumes nothing: these are definitions.
use Rattle.std.specs.Prelude.{ℕ, ◌+◌, ◌*◌, ◌≤◌, List, [], ◌∷◌, ◌++◌, length}
use Rattle.octets.specs.Parts.{up8, padded}
use Rattle.octets.specs.Numbers.{fields}
use Rattle.sff_format.specs.declared.Clips.{Clips}
use Rattle.sff_format.specs.Model.{Read, File}
use Rattle.sff_format.specs.Writing.{read_of, new_file}
use Rattle.sff_sections.specs.declared.NewHeader.{NewHeader}
use Rattle.sff_sections.specs.declared.NewRead.{NewRead}

-- the read that is lent
abbrev pub read_in : NewRead → Read
read_in new = read_of new.name.now new.clips new.values.now new.increments.now new.bases.now new.qualities.now

-- the bytes of "a header section: .., zero padding to up8(16+L)" and of "a data section: .., zero padding to
-- up8(2F+3N)"
abbrev pub read_size : Read → ℕ
read_size read = up8 (16 + length read.name) + up8 (2 * length read.values + 3 * length read.bases)

-- "quality left, quality right, adapter left, adapter right (2 each, in that order)"
unfoldable pub clip_fields : Clips → List (ℕ × ℕ)
clip_fields clips =
    (2, clips.quality_left) ∷ (2, clips.quality_right) ∷ (2, clips.adapter_left) ∷ (2, clips.adapter_right)
    ∷ []

-- "its length (2), name length L (2), bases N (4)", and the clips
unfoldable pub section_fields : ℕ → ℕ → Clips → List (ℕ × ℕ)
section_fields L N clips = (2, up8 (16 + L)) ∷ (2, L) ∷ (4, N) ∷ clip_fields clips

-- "a header section: .., name, zero padding to up8(16+L)", of a read of so many bases
unfoldable pub header_section : List ℕ → ℕ → Clips → List ℕ
header_section name bases clips = padded (fields (section_fields (length name) bases clips) ++ name)

-- the new file whose characters are lent
abbrev pub file_in : NewHeader → File
file_in new = new_file new.flows.now new.key.now

-- the bytes of a header: "zero padding to up8(31+F+K), which is the header length"
abbrev pub header_size : File → ℕ
header_size content = up8 (31 + length content.flow_characters + length content.key)

-- each field has at most 8 bytes
abbrev pub AllNarrow : List (ℕ × ℕ) → Type 0
AllNarrow [] = Unit {0}
AllNarrow (field ∷ fields) = (field.0 ≤ 8) × AllNarrow fields
