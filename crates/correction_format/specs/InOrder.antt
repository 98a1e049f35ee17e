-- Document 01's reasons to refuse a correction, in its order and in words of the model. Assumes nothing: these are
-- definitions.
use Rattle.std.specs.Prelude.{ℕ, ◌≤◌, ◌<◌, ◌≡◌, List, [], ◌∷◌, length, take}
use Rattle.answers.specs.Answer.{Refused}
use Rattle.answers.specs.Reasons.{Reason}
use Rattle.sff_format.specs.Model.{File, no_index, layout}
use Rattle.sff_format.specs.Rules.{left_limit, right_limit}
use Rattle.sff_format.specs.Valid.{IsFile}
use Rattle.sff_format.specs.FileTest.{file_test}
use Rattle.sff_format.specs.Parse.{parse}
use Rattle.sff_format.specs.Places.{read_at}
use Rattle.correction_format.specs.Correction.{Change, clips, rename, remove, Correction, ValidCorrection}
use Rattle.correction_format.specs.RecordLayout.{layout_record, parse_record}
use Rattle.correction_format.specs.Edit.{target, edited}

-- the bytes are a correction that keeps the rules, laid out as a record
abbrev pub IsRecord : List ℕ → Type 0
IsRecord «record» = (correction : Correction) × ValidCorrection correction × (layout_record correction ≡ «record»)

-- "20 record malformed or not 96 bytes"
abbrev pub malformed : List ℕ → Reason
malformed «record» = record { holds = IsRecord «record» → ⊥; answer = Refused 20 0 }

-- there is a read at the correction's position
abbrev pub Present : Correction → File → Type 0
Present correction content = correction.position < length content.reads

-- the change is a rename or a removal
abbrev pub RenameOrRemove : Change → Type 0
RenameOrRemove (clips quality_left quality_right adapter_left adapter_right) = ⊥
RenameOrRemove (rename name) = Unit {0}
RenameOrRemove remove = Unit {0}

-- the clips are within the limits of a read of n bases
pub record ClipsWithin (n new-quality-left new-quality-right new-adapter-left new-adapter-right : ℕ) : Type 0 where
  pub quality_left : new-quality-left ≤ left_limit n
  pub quality_right : new-quality-right ≤ right_limit n
  pub adapter_left : new-adapter-left ≤ left_limit n
  pub adapter_right : new-adapter-right ≤ right_limit n

-- the change gives clips that are not
abbrev pub NewClipAbove : ℕ → Change → Type 0
NewClipAbove n (clips quality_left quality_right adapter_left adapter_right) =
    ClipsWithin n quality_left quality_right adapter_left adapter_right → ⊥
NewClipAbove n (rename name) = ⊥
NewClipAbove n remove = ⊥

-- the change gives a name that another read than the one at that position bears
abbrev pub NameTaken : Change → ℕ → File → Type 0
NameTaken (clips quality_left quality_right adapter_left adapter_right) position content = ⊥
NameTaken (rename name) position content =
    (other : ℕ) × (other < length content.reads) × (other ≡ position → ⊥) × ((read_at content other).name ≡ name)
NameTaken remove position content = ⊥

-- the correction's own on a file, in a buffer of so many bytes
abbrev pub correction_reasons : ℕ → Correction → File → List Reason
correction_reasons room correction content =
    -- "21 position not below the number of reads"
    record { holds = length content.reads ≤ correction.position; answer = Refused 21 0 }
    -- "22 the read there has another name"
    ∷ record { holds = Present correction content × (correction.old_name ≡ (target correction content).name → ⊥); answer = Refused 22 0 }
    -- "25 rename or remove with an index"
    ∷ record { holds = RenameOrRemove correction.change × (content.index ≡ no_index → ⊥); answer = Refused 25 0 }
    -- "23 new clip above N"
    ∷ record {
      holds = Present correction content × NewClipAbove (length (target correction content).bases) correction.change;
      answer = Refused 23 0;
    }
    -- "24 rename to a name that another read bears"
    ∷ record {
      holds = Present correction content × NameTaken correction.change correction.position content;
      answer = Refused 24 0;
    }
    -- "26 no room"
    ∷ record {
      holds = Present correction content × (room < length (layout (edited correction content)));
      answer = Refused 26 0;
    }
    ∷ []

-- "Order, place 0 for the record's own: 14; 20 record malformed or not 96 bytes; the file's refusal", and then these.
-- The words of 14 are those of an append
abbrev pub reasons_against : List ℕ → ℕ → List ℕ → List Reason
reasons_against buffer len «record» =
    -- "14 length stated above the buffer"
    record { holds = length buffer < len; answer = Refused 14 0 }
    -- "20 record malformed or not 96 bytes"
    ∷ malformed «record»
    -- "the file's refusal"
    ∷ record { holds = IsFile (take len buffer) → ⊥; answer = file_test (take len buffer) }
    ∷ correction_reasons (length buffer) (parse_record «record») (parse (take len buffer))
