-- Sentences of document 01, "The file", in its order, as theorems over the definitions. The demands themselves are in
-- `Demands`. Assumes nothing.
use Prim.Native.Nat.{ℕ, suc, ◌+◌, ◌-◌, ◌^◌, ◌≤◌, ◌<◌}
use mathlib.Core.Path.{◌≡◌}
use mathlib.Core.Logic.{◌↔◌, ◌⊎◌, ⊎_elim}
use mathlib.Core.List.{List, [], ◌∷◌, ◌++◌, sum}
use native.Mathlib.Omega.{arith}
use lib.ListN.{length, take, drop, get_or}
use Rattle.octets.specs.Numbers.{Bytes, Words}
use Rattle.octets.specs.Scans.{is_flow_character, is_name_byte}
use Rattle.octets.proofs.Every.{every_left, every_right, every_both, every_at, at_every}
use Rattle.answers.specs.Answer.{Accepted}
use Rattle.sff_format.specs.Rules.{left_limit, right_limit}
use Rattle.sff_format.specs.Model.{Read, File, layout_read, layout}
use Rattle.sff_format.specs.Valid.{ValidRead, IsBoundary, Valid}
use Rattle.sff_format.specs.HeaderTest.{read_count, flow_characters}
use Rattle.sff_format.specs.FileTest.{file_test}
use Rattle.sff_format.specs.Parse.{parse}
use Rattle.sff_format.specs.Places.{read_at, place, read_place}
use Rattle.sff_format.proofs.FileLaid.{file_laid}
use Rattle.sff_format.proofs.FileTaken.{file-back}
use Rattle.sff_format.proofs.Format.{accepted}
use Rattle.sff_format.proofs.Keeps.{valid_at}
use Rattle.sff_format.proofs.Places.{place_found, read_split}
use Rattle.sff_format.proofs.InWords.{name_byte, flow_character, flow_position, walk_exactly, calls_exactly, GoodIndex, index_fine, declared_exactly, each_valid, read_keeps}

-- THE FILE. What an accepted file says (`parse`) and writing afresh (`layout`) undo each other
pub read_then_written : (file : List ℕ) → Bytes file → file_test file ≡ Accepted → layout (parse file) ≡ file
read_then_written = file_laid

pub written_then_read : (content : File) → Valid content → parse (layout content) ≡ content
written_then_read = file-back

-- each read of an accepted file: its place is a sum of sizes, and its sections stand there
pub place_of_read : (file : List ℕ) → Bytes file → file_test file ≡ Accepted → (position : ℕ) → position < read_count file
    → read_place file position ≡ place (parse file) position
place_of_read = place_found

pub split_at_read : (file : List ℕ) → Bytes file → file_test file ≡ Accepted → (position : ℕ) → position < read_count file
    → file ≡ take (read_place file position) file
    ++ (layout_read (read_at (parse file) position)
    ++ drop (read_place file position + length (layout_read (read_at (parse file) position))) file)
split_at_read = read_split

-- NARROWINGS AND FLOW WALK. The rules of a read, each from the numbers alone: `ValidRead`, in document 01's words
pub record ReadKeeps (characters : List ℕ) (read : Read) : Type 0 where
  -- fields of 2, 4 and 2 bytes; of a name, "5 name over 65,512"
  pub name-length : length read.name ≤ 65512
  pub base_count : length read.bases ≤ 4294967295
  pub clips_fit : Words (read.quality_left ∷ read.quality_right ∷ read.adapter_left ∷ read.adapter_right ∷ [])
  -- "F flow values of 2 bytes, N flow index bytes, N bases, N qualities"
  pub value_count : length read.values ≡ length characters
  pub values_fit : Words read.values
  pub increment_count : length read.increments ≡ length read.bases
  pub quality_count : length read.qualities ≡ length read.bases
  pub bytes : Bytes read.increments × Bytes read.bases × Bytes read.qualities
  -- "Name bytes are 33 to 126; a name may be empty"
  pub name-bytes : (j : ℕ) → j < length read.name → (33 ≤ get_or read.name j 0) × (get_or read.name j 0 ≤ 126)
  -- "No clip field exceeds N"
  pub quality_left : read.quality_left ≤ length read.bases
  pub quality_right : read.quality_right ≤ length read.bases
  pub adapter_left : read.adapter_left ≤ length read.bases
  pub adapter_right : read.adapter_right ≤ length read.bases
  -- "Base i is the flow character at its flow, or the letter N": that at its flow position, counted from 1, or 78
  pub base : (j : ℕ) → j < length read.bases
      → (get_or read.bases j 0 ≡ get_or characters (flow_position read.increments j - 1) 0)
      ⊎ (get_or read.bases j 0 ≡ 78)
  -- "The running sum after each base is its flow position; every flow position lies in 1 to F": that of base j,
  -- counted from 0, is the sum of the first j + 1 increments (`flow_position`)
  pub flow : (j : ℕ) → j < length read.bases
      → (1 ≤ sum ◌+◌ 0 (take (suc j) read.increments))
      × (sum ◌+◌ 0 (take (suc j) read.increments) ≤ length characters)

pub rules_of_read : (characters : List ℕ) (read : Read) → ValidRead characters read ↔ ReadKeeps characters read
unfolding left_limit right_limit
rules_of_read characters read = (
  λ v. record {
    name-length = let h = v.name_fits in omega arith;
    base_count = let h = v.bases_fit in omega arith;
    clips_fit = v.clips_fit;
    value_count = v.values_count;
    values_fit = v.values_fit;
    increment_count = v.increments_count;
    quality_count = v.qualities_count;
    bytes = v.bytes_good;
    name-bytes = λ j h. (name_byte _).0 (every_at is_name_byte read.name v.name_good j h);
    quality_left = v.quality_left_good;
    quality_right = v.quality_right_good;
    adapter_left = v.adapter_left_good;
    adapter_right = v.adapter_right_good;
    base =
        (calls_exactly characters read.increments read.bases v.walk_good v.increments_count).0
        v.bases_good;
    flow = λ j h. (walk_exactly (length characters) read.increments).0 v.walk_good j (rw v.increments_count h);
  },
  λ k.
      let w =
      (walk_exactly (length characters) read.increments).1 (λ j h. k.flow j (rw k.increment_count at h)) in
      record {
        name_good = at_every is_name_byte read.name (λ j h. (name_byte _).1 (k.name-bytes j h));
        name_fits = let h = k.name-length in omega arith;
        bases_fit = let h = k.base_count in omega arith;
        clips_fit = k.clips_fit;
        quality_left_good = k.quality_left;
        quality_right_good = k.quality_right;
        adapter_left_good = k.adapter_left;
        adapter_right_good = k.adapter_right;
        values_count = k.value_count;
        values_fit = k.values_fit;
        increments_count = k.increment_count;
        qualities_count = k.quality_count;
        walk_good = w;
        bases_good = (calls_exactly characters read.increments read.bases w k.increment_count).1 k.base;
        bytes_good = k.bytes;
      },
)

-- A, C, G or T
abbrev pub OneOfFour : ℕ → Type 0
OneOfFour letter = (letter ≡ 65) ⊎ ((letter ≡ 67) ⊎ ((letter ≡ 71) ⊎ (letter ≡ 84)))

-- and those of a file: `Valid`, in document 01's words
pub record FileKeeps (content : File) : Type 0 where
  -- fields of 2, 4, 8 and 4 bytes; of the header, "5 (F+K over 65,497)"
  pub header_length : length content.flow_characters + length content.key ≤ 65497
  pub read_count : length content.reads ≤ 4294967295
  pub index_fits : (content.index.offset < 256 ^ 8) × (length content.index.bytes < 4294967296)
      × Bytes content.index.bytes
  -- "An index is absent when offset and length are both 0", else none of "just one index field is 0, or index length
  -- under 8 or not a multiple of 8"
  pub index : GoodIndex content.index.offset (length content.index.bytes)
  -- "Otherwise its bytes, of any content, stand where the offset says, at the end of the header or of a read"
  pub index-stands : 0 < content.index.offset → IsBoundary content content.index.offset
  -- "flow and key characters are A, C, G, T"
  pub flow_letters : (j : ℕ) → j < length content.flow_characters → OneOfFour (get_or content.flow_characters j 0)
  pub key_letters : (j : ℕ) → j < length content.key → OneOfFour (get_or content.key j 0)
  pub reads : (position : ℕ) → position < length content.reads
      → ReadKeeps content.flow_characters (read_at content position)

pub rules_of_file : (content : File) → Valid content ↔ FileKeeps content
rules_of_file content =
    let cs = content.flow_characters in
    let o = content.index.offset in
    let n = length content.index.bytes in (
      λ v. record {
        header_length = let h = v.header_fits in omega arith;
        read_count = let h = v.count_fits in omega arith;
        index_fits = v.index_fits;
        index = (index_fine o n).0 v.index_good;
        index-stands = λ h. v.index_met ((declared_exactly o n).1 (λ z. let e = z.0 in omega arith));
        flow_letters = λ j h.
            (flow_character _).0
            (every_at is_flow_character cs (every_left is_flow_character cs content.key v.characters_good) j h);
        key_letters = λ j h.
            (flow_character _).0
            (every_at is_flow_character content.key (every_right is_flow_character cs content.key v.characters_good) j h);
        reads = λ position h.
            (rules_of_read cs (read_at content position)).0 (valid_at cs content.reads position h v.reads_good);
      },
      λ k. record {
        characters_good =
            every_both is_flow_character cs content.key
            (at_every is_flow_character cs (λ j h. (flow_character _).1 (k.flow_letters j h)))
            (at_every is_flow_character content.key (λ j h. (flow_character _).1 (k.key_letters j h)));
        header_fits = let h = k.header_length in omega arith;
        count_fits = let h = k.read_count in omega arith;
        index_fits = k.index_fits;
        index_good = (index_fine o n).1 k.index;
        index_met = λ d. ⊎_elim (λ z. absurd ((declared_exactly o n).0 d z)) (λ g. k.index-stands g.0) k.index;
        reads_good =
            each_valid cs content.reads
            (λ position h. (rules_of_read cs (read_at content position)).1 (k.reads position h));
      },
    )

-- so a file is accepted exactly if it is, byte for byte, one that keeps the rules in these words, written afresh; and
-- each read that it then says keeps them
pub accepted_in_words : (file : List ℕ)
    → (Bytes file × (file_test file ≡ Accepted)) ↔ ((content : File) × FileKeeps content × (layout content ≡ file))
accepted_in_words file = (
  λ t. let x = (accepted file).0 t in (x.0, (rules_of_file x.0).0 x.1, x.2),
  λ x. (accepted file).1 (x.0, (rules_of_file x.0).1 x.1, x.2),
)

pub read_in_words : (file : List ℕ) → Bytes file → file_test file ≡ Accepted → (position : ℕ) → position < read_count file
    → ReadKeeps (flow_characters file) (read_at (parse file) position)
read_in_words file y e position h =
    (rules_of_read (flow_characters file) (read_at (parse file) position)).0 (read_keeps file y e position h)
