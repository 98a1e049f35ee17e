-- Sentences of document 01, "Order of the file's tests", "Writing" and "Correction records", in its order, as
-- theorems over the definitions. Assumes nothing.
use Prim.Native.Nat.{ℕ, ◌+◌, ◌≤◌, ◌<◌, ◌%◌}
use mathlib.Core.Path.{◌≡◌, ap}
use mathlib.Core.Bool.{false, true}
use mathlib.Core.Logic.{◌↔◌, ◌⊎◌}
use mathlib.Core.List.{List, [], ◌∷◌, ◌++◌}
use lib.ListN.{length, take}
use Rattle.octets.specs.Parts.{put_at}
use Rattle.octets.specs.Numbers.{Bytes, number}
use Rattle.octets.proofs.AllBytes.{bytes_take}
use Rattle.answers.specs.Answer.{Accepted, Refused, number_of}
use Rattle.answers.proofs.Answers.{refused_or}
use Rattle.sff_format.specs.Rules.{declared, bad_index}
use Rattle.sff_format.specs.Model.{Read, File, no_index, layout_read, layout, with_reads}
use Rattle.sff_format.specs.Valid.{Valid}
use Rattle.sff_format.specs.HeaderTest.{index_offset, index_length, read_count, flow_characters, header_test}
use Rattle.sff_format.specs.FileTest.{file_test}
use Rattle.sff_format.specs.Parse.{parse}
use Rattle.sff_format.specs.Writing.{new_outcome, given_test, append_test, append_outcome, append_buffer, write_each, Holder, FitsSlices, AllFitSlices}
use Rattle.sff_format.proofs.Writers.{write_each_lem, write_exactly}
use Rattle.sff_format.proofs.Holders.{given_exactly, append_exactly}
use Rattle.sff_format.proofs.Appends.{append-afresh, append_valid}
use Rattle.sff_format.proofs.Refusals.{append_zero, written_zero}
use Rattle.sff_format.proofs.InWords.{BadIndex, index_bad, header_index, header_eight}

-- ORDER OF THE FILE'S TESTS. 8 at 8: "just one index field is 0, or index length under 8 or not a multiple of 8"
-- (`BadIndex`, where not both fields are 0)
pub bad_index_exactly : (offset len : ℕ) → (bad_index offset len ≡ true) ↔ BadIndex offset len
bad_index_exactly = index_bad

-- 8 is answered of such an index alone, and at 8; the index of an accepted header is absent, or has an offset and a
-- length of 8 or more that is a multiple of 8
pub header_answers_eight : (file : List ℕ) (place : ℕ) → header_test file ≡ Refused 8 place
    → (place ≡ 8) × BadIndex (number 8 8 file) (number 4 16 file)
header_answers_eight = header_eight

pub accepted-index : (file : List ℕ) → header_test file ≡ Accepted
    → ((number 8 8 file ≡ 0) × (number 4 16 file ≡ 0))
    ⊎ ((0 < number 8 8 file) × (8 ≤ number 4 16 file) × (number 4 16 file % 8 ≡ 0))
accepted-index = header_index

-- "A writer or corrector also answers the file's length afterwards (the length given if nothing is done; 0 for a
-- refused new file)"; that a refusal changes nothing, and of a corrector, is in `Demands`
pub refused_new_file : (buffer characters key : List ℕ) → (number_of (new_outcome buffer characters key).answer ≡ 0 → ⊥) → (new_outcome buffer characters key).length ≡ 0
unfolding new_outcome
refused_new_file buffer characters key h = refused_or _ _ _ h

pub refused_append : (buffer : List ℕ) (len : ℕ) (read : Read)
    → (number_of (append_outcome buffer len read).answer ≡ 0 → ⊥) → (append_outcome buffer len read).length ≡ len
unfolding append_outcome
refused_append buffer len read h = refused_or _ _ _ h

-- WRITING. An append that is carried out leaves, at the front of the buffer, the file written afresh with one read
-- more, which keeps the rules
pub appended_afresh : (buffer : List ℕ) (len : ℕ) (read : Read) → Bytes buffer → FitsSlices read
    → append_test buffer len read ≡ Accepted
    → (append_buffer buffer len read
    ≡ put_at 0 (layout (with_reads ((parse (take len buffer)).reads ++ (read ∷ [])) (parse (take len buffer)))) buffer)
    × Valid (with_reads ((parse (take len buffer)).reads ++ (read ∷ [])) (parse (take len buffer)))
appended_afresh buffer len read y t a =
    let z = bytes_take len buffer y in
    (append-afresh buffer len read z a, append_valid buffer len read z a t)

-- a read's own reasons, 30, 5, 6, 9, 10 and 11, hold exactly if no accepted file with these flow characters could
-- hold it
pub read_refused_exactly : (file : List ℕ) (read : Read) → Bytes file → file_test file ≡ Accepted → FitsSlices read
    → (given_test (flow_characters file) read ≡ Accepted) ↔ Holder (flow_characters file) read
read_refused_exactly = given_exactly

-- and so of the whole append, where the file has no index and fewer reads than the count can say, and the buffer has
-- room
pub append_refuses_exactly : (buffer : List ℕ) (len : ℕ) (read : Read) → Bytes buffer → FitsSlices read → len ≤ length buffer
    → file_test (take len buffer) ≡ Accepted
    → declared (index_offset (take len buffer)) (index_length (take len buffer)) ≡ false
    → read_count (take len buffer) < 4294967295 → len + length (layout_read read) ≤ length buffer
    → (number_of (append_test buffer len read) ≡ 0) ↔ Holder (flow_characters (take len buffer)) read
append_refuses_exactly buffer len read y t h e i n m =
    let a = append_exactly buffer len read y t h e i n m in
    ((λ z. a.0 (append_zero buffer len read z)), (λ k. ap number_of (a.1 k)))

-- CORRECTION RECORDS. "Writing afresh .. Without one, a new file and an append for each read leave these bytes in any
-- buffer that holds them": the bytes at its front, all else as it was
pub written-afresh : (content : File) → content.index ≡ no_index → Valid content → (buffer : List ℕ)
    → length (layout content) ≤ length buffer
    → write_each buffer content
    ≡ record {
      outcome = record { answer = Accepted; length = length (layout content) };
      buffer = put_at 0 (layout content) buffer;
    }
written-afresh = write_each_lem

-- they are all carried out exactly if the file keeps the rules and the buffer holds it
pub written_exactly : (content : File) → content.index ≡ no_index → (buffer : List ℕ) → AllFitSlices content.reads
    → (number_of (write_each buffer content).outcome.answer ≡ 0)
    ↔ (Valid content × (length (layout content) ≤ length buffer))
written_exactly content e buffer t = (
  (λ a. (write_exactly content e buffer t).0 (written_zero buffer content a)),
  (λ k. ap number_of ((write_exactly content e buffer t).1 k)),
)
