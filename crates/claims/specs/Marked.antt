-- Document 01's "Checked examples" that are marked P, as one table. Assumes nothing: these are definitions.
use Rattle.std.specs.Prelude.{ℕ, ◌≡◌, List, [], ◌∷◌, ◌++◌, length, set, take, drop, replicate}
use Rattle.octets.specs.Parts.{put_at}
use Rattle.answers.specs.Answer.{Answer, Accepted, Refused}
use Rattle.sff_format.specs.Writing.{Outcome}
use Rattle.sff_format.specs.Model.{File, no_index, layout}
use Rattle.sff_format.specs.FileTest.{file_test}
use Rattle.sff_format.specs.Position.{file_insert, file_first, file_last}
use Rattle.correction_format.specs.Correction.{Change, rename, remove}
use Rattle.correction_format.specs.RecordLayout.{layout_record}
use Rattle.correction_format.specs.Correct.{correct_outcome, correct_buffer}
use Rattle.filter_format.specs.Undo.{making, undo_layer}
use Rattle.filter_format.specs.Encode.{encode}

-- a row of the table; `Holds` says what it claims
pub data Case : Type 0 where
  -- a file, and its bytes
  written : File → List ℕ → Case
  -- bytes, and how many they are
  sized : List ℕ → ℕ → Case
  -- bytes, and what the whole-file test answers
  tested : List ℕ → Answer → Case
  -- a file's bytes and a position; the first base of the insert there, its last base, and its bases
  inserted : List ℕ → ℕ → ℕ → ℕ → List ℕ → Case
  -- a buffer, the file's length in it and a record; what the correction answers, and the buffer afterwards
  corrected : List ℕ → ℕ → List ℕ → Outcome → List ℕ → Case
  -- a format, a level and data; the block that encoding makes of them, which undone is the data
  filtered : ℕ → ℕ → List ℕ → List ℕ → Case

abbrev pub Holds : Case → Type 0
Holds (written content file) = layout content ≡ file
Holds (sized file n) = length file ≡ n
Holds (tested file answer) = file_test file ≡ answer
Holds (inserted file position first last bases) =
    (file_first file position ≡ first) × (file_last file position ≡ last) × (file_insert file position ≡ bases)
Holds (corrected buffer len «record» outcome after) =
    (correct_outcome buffer len «record» ≡ outcome) × (correct_buffer buffer len «record» ≡ after)
Holds (filtered format level source block) =
    (encode (length block) format level [] source ≡ making block) × (undo_layer (length source) block ≡ making source)

abbrev pub All : List Case → Type 0
All [] = Unit {0}
All (case ∷ cases) = Holds case × All cases

-- "File E: flows TACG, key T, one read r1, values 100 0 200 0, indexes 1 2 0, bases TCC, qualities 40 40 40, quality
-- left 2"
abbrev pub e : File
e = record {
  flow_characters = 84 ∷ 65 ∷ 67 ∷ 71 ∷ [];
  key = 84 ∷ [];
  index = no_index;
  reads =
      record {
        name = 114 ∷ 49 ∷ [];
        quality_left = 2;
        quality_right = 0;
        adapter_left = 0;
        adapter_right = 0;
        values = 100 ∷ 0 ∷ 200 ∷ 0 ∷ [];
        increments = 1 ∷ 2 ∷ 0 ∷ [];
        bases = 84 ∷ 67 ∷ 67 ∷ [];
        qualities = 40 ∷ 40 ∷ 40 ∷ [];
      }
      ∷ [];
}

-- header, the read's header section, its data section
abbrev pub e_bytes : List ℕ
e_bytes =
    0x2E ∷ 0x73 ∷ 0x66 ∷ 0x66 ∷ 0 ∷ 0 ∷ 0 ∷ 1 ∷ 0 ∷ 0 ∷ 0 ∷ 0 ∷ 0 ∷ 0 ∷ 0 ∷ 0
    ∷ 0 ∷ 0 ∷ 0 ∷ 0 ∷ 0 ∷ 0 ∷ 0 ∷ 1 ∷ 0 ∷ 40 ∷ 0 ∷ 1 ∷ 0 ∷ 4 ∷ 1 ∷ 84 ∷ 65 ∷ 67 ∷ 71 ∷ 84 ∷ 0 ∷ 0 ∷ 0 ∷ 0
    ∷ 0 ∷ 24 ∷ 0 ∷ 2 ∷ 0 ∷ 0 ∷ 0 ∷ 3 ∷ 0 ∷ 2 ∷ 0 ∷ 0 ∷ 0 ∷ 0 ∷ 0 ∷ 0 ∷ 114 ∷ 49 ∷ 0 ∷ 0 ∷ 0 ∷ 0 ∷ 0 ∷ 0
    ∷ 0 ∷ 100 ∷ 0 ∷ 0 ∷ 0 ∷ 200 ∷ 0 ∷ 0 ∷ 1 ∷ 2 ∷ 0 ∷ 84 ∷ 67 ∷ 67 ∷ 40 ∷ 40 ∷ 40 ∷ 0 ∷ 0 ∷ 0 ∷ 0 ∷ 0 ∷ 0 ∷ 0
    ∷ []

-- "F = K = 0, no reads"
abbrev pub bare : File
bare = record { flow_characters = []; key = []; index = no_index; reads = [] }

abbrev pub bare_bytes : List ℕ
bare_bytes =
    0x2E ∷ 0x73 ∷ 0x66 ∷ 0x66 ∷ 0 ∷ 0 ∷ 0 ∷ 1 ∷ 0 ∷ 0 ∷ 0 ∷ 0 ∷ 0 ∷ 0 ∷ 0 ∷ 0
    ∷ 0 ∷ 0 ∷ 0 ∷ 0 ∷ 0 ∷ 0 ∷ 0 ∷ 0 ∷ 0 ∷ 32 ∷ 0 ∷ 0 ∷ 0 ∷ 0 ∷ 1 ∷ 0
    ∷ []

-- a record for r1, at position 0
abbrev pub to_r1 : Change → List ℕ
to_r1 change = layout_record (record { position = 0; old_name = 114 ∷ 49 ∷ []; change = change })

-- names of 8 and of 9 bytes
abbrev pub eight : List ℕ
eight = 97 ∷ 98 ∷ 99 ∷ 100 ∷ 101 ∷ 102 ∷ 103 ∷ 104 ∷ []

abbrev pub nine : List ℕ
nine = eight ++ (105 ∷ [])

-- E with the read named so: with 8 bytes the section stays as long, with 9 it has 8 bytes more
abbrev pub e_eight : List ℕ
e_eight = put_at 56 eight (set e_bytes 43 8)

abbrev pub e_nine : List ℕ
e_nine = take 40 e_bytes ++ (0 ∷ 32 ∷ 0 ∷ 9 ∷ []) ++ take 12 (drop 44 e_bytes) ++ nine ++ replicate 7 0 ++ drop 64 e_bytes

abbrev pub done : ℕ → Outcome
done n = record { answer = Accepted; length = n }

abbrev pub table : List Case
table =
    -- "E is 40+24+24 = 88 bytes; insert 2 to 3, CC"
    written e e_bytes ∷ sized e_bytes 88 ∷ tested e_bytes Accepted ∷ inserted e_bytes 0 2 3 (67 ∷ 67 ∷ [])
    -- "F = K = 0, no reads: 32 bytes accepted; its first 31 refused, 1 at 0"
    ∷ written bare bare_bytes ∷ sized bare_bytes 32 ∷ tested bare_bytes Accepted ∷ tested (take 31 bare_bytes) (Refused 1 0)
    -- "clip 3 accepted, 4 gives 9"
    ∷ tested (set e_bytes 49 3) Accepted ∷ tested (set e_bytes 49 4) (Refused 9 48)
    -- "increments 1 4 give 10", "first increment 0 gives 10"
    ∷ tested (set e_bytes 73 4) (Refused 10 73) ∷ tested (set e_bytes 72 0) (Refused 10 72)
    -- "base T at flow 3 gives 11; N is accepted"
    ∷ tested (set e_bytes 77 84) (Refused 11 77) ∷ tested (set e_bytes 77 78) Accepted
    -- "rename r1 to 8 bytes keeps 88, to 9 gives 96, and 26 in a 95-byte buffer"; what lies behind the file is as it
    -- was
    ∷ corrected e_bytes 88 (to_r1 (rename eight)) (done 88) e_eight
    ∷ corrected (e_bytes ++ replicate 12 7) 88 (to_r1 (rename nine)) (done 96) (e_nine ++ replicate 4 7)
    ∷ corrected (e_bytes ++ replicate 7 7) 88 (to_r1 (rename nine)) (record { answer = Refused 26 0; length = 88 }) (e_bytes ++ replicate 7 7)
    -- "removing r1 leaves 40 bytes and 48 zeros"
    ∷ corrected (e_bytes ++ replicate 7 7) 88 (to_r1 remove) (done 40) (set (take 40 e_bytes) 23 0 ++ replicate 48 0 ++ replicate 7 7)
    -- "10 20 10 200 190 5, width 1: level 1 gives 10 10 246 190 246 71; level 2 gives 10 0 236 200 56 81"
    ∷ filtered 64 1 (10 ∷ 20 ∷ 10 ∷ 200 ∷ 190 ∷ 5 ∷ []) (64 ∷ 1 ∷ 10 ∷ 10 ∷ 246 ∷ 190 ∷ 246 ∷ 71 ∷ [])
    ∷ filtered 64 2 (10 ∷ 20 ∷ 10 ∷ 200 ∷ 190 ∷ 5 ∷ []) (64 ∷ 2 ∷ 10 ∷ 0 ∷ 236 ∷ 200 ∷ 56 ∷ 81 ∷ [])
    -- "10 20 30 10 hex, width 2, level 1: 10 20 1F F0"
    ∷ filtered 65 1 (0x10 ∷ 0x20 ∷ 0x30 ∷ 0x10 ∷ []) (65 ∷ 1 ∷ 0x10 ∷ 0x20 ∷ 0x1F ∷ 0xF0 ∷ [])
    -- "10 5 -5 200 -800 by 70: 10 5 -5 -128 0 200 -128 -4 -32", as bytes; "-128 by 70: 128 255 128"
    ∷ filtered 70 0 (0 ∷ 10 ∷ 0 ∷ 5 ∷ 255 ∷ 251 ∷ 0 ∷ 200 ∷ 252 ∷ 224 ∷ []) (70 ∷ 10 ∷ 5 ∷ 251 ∷ 128 ∷ 0 ∷ 200 ∷ 128 ∷ 252 ∷ 224 ∷ [])
    ∷ filtered 70 0 (255 ∷ 128 ∷ []) (70 ∷ 128 ∷ 255 ∷ 128 ∷ [])
    ∷ []
