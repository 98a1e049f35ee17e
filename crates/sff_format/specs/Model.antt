-- What a file says, and "writing afresh". Assumes nothing: these are definitions.
use Rattle.std.specs.Prelude.{ℕ, ◌+◌, List, [], ◌∷◌, ◌++◌, length}
use Rattle.octets.specs.Parts.{up8, filled, padded, insert_at}
use Rattle.octets.specs.Numbers.{fields, words}
use Rattle.sff_format.specs.Rules.{index_size}

-- a read, as its two sections hold it: its name; the four clips; "flow values"; "flow index bytes", which "are
-- increments"; "bases"; "qualities"
pub record Read : Type 0 where
  pub name : List ℕ
  pub quality_left : ℕ
  pub quality_right : ℕ
  pub adapter_left : ℕ
  pub adapter_right : ℕ
  pub values : List ℕ
  pub increments : List ℕ
  pub bases : List ℕ
  pub qualities : List ℕ

-- an index: "Otherwise its bytes, of any content, stand where the offset says"
pub record Index : Type 0 where
  pub offset : ℕ
  pub bytes : List ℕ

-- a file: "F flow characters, K key characters", an index or none, and the reads in order
pub record File : Type 0 where
  pub flow_characters : List ℕ
  pub key : List ℕ
  pub index : Index
  pub reads : List Read

-- "An index is absent when offset and length are both 0"
abbrev pub no_index : Index
no_index = record { offset = 0; bytes = [] }

-- "Common header: magic at 0 (2E 73 66 66), version at 4 (0 0 0 1), index offset at 8 (8 bytes), index length at 16
-- (4), reads at 20 (4), header length at 24 (2), key length K at 26 (2), flows F at 28 (2), format code at 30 (1, must
-- be 1)"
unfoldable pub header_fields : File → List (ℕ × ℕ)
header_fields content =
    (4, 0x2E736666) ∷ (4, 1) ∷ (8, content.index.offset) ∷ (4, length content.index.bytes)
    ∷ (4, length content.reads)
    ∷ (2, up8 (31 + length content.flow_characters + length content.key)) ∷ (2, length content.key)
    ∷ (2, length content.flow_characters) ∷ (1, 1) ∷ []

-- "F flow characters, K key characters, zero padding to up8(31+F+K), which is the header length"
unfoldable pub layout_header : File → List ℕ
layout_header content = padded (fields (header_fields content) ++ content.flow_characters ++ content.key)

-- "Each read has a header section: its length (2), name length L (2), bases N (4), quality left, quality right, adapter
-- left, adapter right (2 each, in that order), name, zero padding to up8(16+L)"
unfoldable pub read_fields : Read → List (ℕ × ℕ)
read_fields read =
    (2, up8 (16 + length read.name)) ∷ (2, length read.name) ∷ (4, length read.bases)
    ∷ (2, read.quality_left) ∷ (2, read.quality_right) ∷ (2, read.adapter_left) ∷ (2, read.adapter_right) ∷ []

unfoldable pub layout_read_header : Read → List ℕ
layout_read_header read = padded (fields (read_fields read) ++ read.name)

-- "Then a data section: F flow values of 2 bytes, N flow index bytes, N bases, N qualities, zero padding to up8(2F+3N)"
unfoldable pub layout_read_data : Read → List ℕ
layout_read_data read = padded (words read.values ++ read.increments ++ read.bases ++ read.qualities)

-- both sections of a read; and of reads, one behind the other
unfoldable pub layout_read : Read → List ℕ
layout_read read = layout_read_header read ++ layout_read_data read

unfoldable pub layout_reads : List Read → List ℕ
layout_reads [] = []
layout_reads (read ∷ reads) = layout_read read ++ layout_reads reads

-- an index's "bytes, of any content", in the room that it occupies
unfoldable pub layout_index : Index → List ℕ
layout_index index = filled (index_size (length index.bytes)) index.bytes

-- "Writing afresh .. lays out, as above, a header from flow and key characters, the count being the number of reads,
-- then the sections of a list of reads in order. An index stands at its offset"
unfoldable pub layout : File → List ℕ
layout content =
    insert_at content.index.offset (layout_index content.index)
    (layout_header content ++ layout_reads content.reads)

-- the same file with other reads, and with another index
abbrev pub with_reads : List Read → File → File
with_reads reads content = record {
  flow_characters = content.flow_characters;
  key = content.key;
  index = content.index;
  reads = reads;
}

abbrev pub with_index : Index → File → File
with_index index content = record {
  flow_characters = content.flow_characters;
  key = content.key;
  index = index;
  reads = content.reads;
}
