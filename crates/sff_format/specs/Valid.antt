-- "it keeps the SFF rules as document 01 narrows them": the rules over the model, and that each number fits its field.
-- Assumes nothing: these are definitions.
use Rattle.std.specs.Prelude.{ℕ, ◌+◌, ◌^◌, ◌≤◌, ◌<◌, true, false, ◌≡◌, List, [], ◌∷◌, ◌++◌, length, take}
use Rattle.octets.specs.Parts.{up8}
use Rattle.octets.specs.Numbers.{Bytes, Words}
use Rattle.octets.specs.Scans.{Every, is_flow_character, is_name_byte}
use Rattle.sff_format.specs.Model.{Read, File, layout_header, layout_reads, layout}
use Rattle.sff_format.specs.Rules.{left_limit, right_limit, declared, bad_index, walked_count, matched_count}

-- a read of a file with these flow characters
pub record ValidRead (characters : List ℕ) (read : Read) : Type 0 where
  -- "Name bytes are 33 to 126; a name may be empty"
  pub name_good : Every is_name_byte read.name
  -- fields of 2, 4 and 2 bytes
  pub name_fits : up8 (16 + length read.name) < 65536
  pub bases_fit : length read.bases < 4294967296
  pub clips_fit : Words (read.quality_left ∷ read.quality_right ∷ read.adapter_left ∷ read.adapter_right ∷ [])
  -- "No clip field exceeds N"
  pub quality_left_good : read.quality_left ≤ left_limit (length read.bases)
  pub quality_right_good : read.quality_right ≤ right_limit (length read.bases)
  pub adapter_left_good : read.adapter_left ≤ left_limit (length read.bases)
  pub adapter_right_good : read.adapter_right ≤ right_limit (length read.bases)
  -- "F flow values of 2 bytes, N flow index bytes, N bases, N qualities"
  pub values_count : length read.values ≡ length characters
  pub values_fit : Words read.values
  pub increments_count : length read.increments ≡ length read.bases
  pub qualities_count : length read.qualities ≡ length read.bases
  -- "every flow position lies in 1 to F": the whole walk keeps the rule
  pub walk_good : walked_count (length characters) 0 read.increments ≡ length read.increments
  -- "Base i is the flow character at its flow, or the letter N"
  pub bases_good : matched_count characters 0 read.increments read.bases ≡ length read.bases
  -- "Qualities are any byte"
  pub bytes_good : Bytes read.increments × Bytes read.bases × Bytes read.qualities

abbrev pub ValidReads : List ℕ → List Read → Type 0
ValidReads characters [] = Unit {0}
ValidReads characters (read ∷ reads) = ValidRead characters read × ValidReads characters reads

-- "where the offset says, at the end of the header or of a read"
abbrev pub IsBoundary : File → ℕ → Type 0
IsBoundary content place =
    (k : ℕ) × (place ≡ length (layout_header content) + length (layout_reads (take k content.reads)))

pub record Valid (content : File) : Type 0 where
  -- "flow and key characters are A, C, G, T"
  pub characters_good : Every is_flow_character (content.flow_characters ++ content.key)
  -- fields of 2, 4, 8 and 4 bytes
  pub header_fits : up8 (31 + length content.flow_characters + length content.key) < 65536
  pub count_fits : length content.reads < 4294967296
  pub index_fits : (content.index.offset < 256 ^ 8) × (length content.index.bytes < 4294967296)
      × Bytes content.index.bytes
  -- not "just one index field is 0, or index length under 8 or not a multiple of 8"
  pub index_good : bad_index content.index.offset (length content.index.bytes) ≡ false
  -- an index stands "at the end of the header or of a read"
  pub index_met : declared content.index.offset (length content.index.bytes) ≡ true
      → IsBoundary content content.index.offset
  pub reads_good : ValidReads content.flow_characters content.reads

-- "keeps the SFF rules": the bytes are such a file, written afresh
abbrev pub IsFile : List ℕ → Type 0
IsFile file = (content : File) × Valid content × (layout content ≡ file)
