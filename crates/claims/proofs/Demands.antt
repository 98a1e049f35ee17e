-- Condition C of the tender, "checked statements": "Rattle's checker accepts the following, for every input." Each of
-- its sentences stands here word for word, in its order, and under it a theorem over the entry points' definitions.
-- Above a theorem stand:
--   - the sentence, in quotation marks;
--   - how the theorem says it;
--   - "Code": the functions that promise to answer and to leave what the definitions say;
--   - "Shuts out": wrong programs that the theorem excludes, one in each item, with the must-fail edits that show it.
--     An edit a/b is crates/a/must-fail/b.edit: it makes a function or a definition wrong, and the check refuses it.
-- `Bytes` says of a list of numbers that each is a byte, as in every lent slice. Assumes nothing.
use Prim.Native.Nat.{ℕ, suc, ◌+◌, ◌*◌, ◌/◌, ◌%◌, ◌≤◌, ◌<◌, max}
use native.Mathlib.Omega.{arith}
use mathlib.Core.Path.{◌≡◌, refl, ap}
use mathlib.Core.Bool.{false}
use mathlib.Core.Logic.{◌↔◌}
use mathlib.Core.List.{List, [], ◌++◌}
use lib.ListN.{length, take, drop}
use Rattle.octets.specs.Parts.{put_at, filled_front}
use Rattle.octets.specs.Numbers.{Bytes, bytes_of}
use Rattle.octets.proofs.AllBytes.{bytes-part}
use Rattle.answers.specs.Answer.{Answer, Accepted, number_of, Among}
use Rattle.answers.specs.Reasons.{Reason, NoneHolds, FirstHolds}
use Rattle.answers.proofs.Numbered.{zero_accepted, more_numbers}
use Rattle.answers.proofs.Reasons.{one_first}
use Rattle.sff_format.specs.Rules.{declared}
use Rattle.sff_format.specs.Model.{Read, File, no_index, layout_read, layout_reads, layout}
use Rattle.sff_format.specs.Valid.{Valid, IsFile}
use Rattle.sff_format.specs.HeaderTest.{index_offset, index_length, file_flow_characters, file_key}
use Rattle.sff_format.specs.FileTest.{file_test}
use Rattle.sff_format.specs.Parse.{parse}
use Rattle.sff_format.specs.Places.{read_at, read_place}
use Rattle.sff_format.specs.Step.{read_back}
use Rattle.sff_format.specs.Writing.{write_each}
use Rattle.sff_format.proofs.Format.{accepted, one_file}
use Rattle.sff_format.proofs.Refusals.{file_zero}
use Rattle.sff_format.proofs.Rewritten.{written_back, written-again}
use Rattle.correction_format.specs.Correction.{Correction}
use Rattle.correction_format.specs.RecordLayout.{parse_record}
use Rattle.correction_format.specs.Edit.{replacement, edited}
use Rattle.correction_format.specs.InOrder.{reasons_against}
use Rattle.correction_format.specs.Correct.{correct_outcome, correct_buffer}
use Rattle.correction_format.specs.ListRun.{record_at, first_records, Run, ran, run_list}
use Rattle.correction_format.specs.ListModel.{correction_at, file_after, reasons_in_turn, list_afresh}
use Rattle.correction_format.proofs.Answered.{first-answered, carried_exactly, refused_left, carried_left, carried_valid, carried_kept, corrected-written}
use Rattle.correction_format.proofs.ListClaim.{every_list}
use Rattle.correction_format.proofs.InTurn.{count_most, none_of_carried, some_of_refused, first_of_refused, all_carried, on_in_turn, stop_in_turn, reasons_in_turn_lem, bytes_in_turn, valid_in_turn, list_file, header_kept}
use Rattle.filter_format.specs.Undo.{making, undo_layer}
use Rattle.filter_format.specs.Encode.{encode}
use Rattle.filter_format.specs.Rules.{EncodedByRule, DeltaOf}
use Rattle.filter_format.specs.Samples.{encode_samples, undo_samples}
use Rattle.filter_format.proofs.Layers.{undo_after_encode}
use Rattle.filter_format.proofs.Sampled.{undo_after_encode_samples}
use Rattle.filter_format.proofs.ByRule.{encoded_by_rule, samples_by_rule}
use Rattle.filter_format.proofs.Refusals.{encode_zero, encode_samples_zero}
use Rattle.claims.specs.Calls.{Call, CallRow, row, document_numbers}
use Rattle.claims.specs.Marked.{All, table}
use Rattle.claims.proofs.Rows.{row-numbers, row_refused, none_is_zero}
use Rattle.claims.proofs.MarkedCases.{marked}

-- DEMAND 1: every call is safe and answers with a number, and what a refusal leaves

-- "No input leads to undefined behaviour or an endless run."
-- This has no theorem here: the check asks it of every function before it accepts one. Whatever a function is given, it
-- reads and writes inside what it is lent, no sum wraps, no cast loses bits, and it returns. A function with a
-- `requires` is proved to be called only where that holds; no entry point has one (tests/names).

-- "Each public entry point tests for itself and answers, or has a companion call that answers, with a number from
-- document 01's list."
-- The entry points are the table `Call`, the same list as in docs/API.md; a call with a companion has the companion's
-- answer in its row.
-- Code: each function of the table.
-- Shuts out:
--   - a call that answers a number which document 01 does not name for it (sff_find/another_number,
--     sff_format/number_of_its_own)
--   - a refusal with the number 0 (sff_format/refusal_with_0)
pub record Answers (entry : CallRow) : Type 0 where
  pub listed : Among document_numbers entry.answer
  -- it is one that document 01 names for this call
  pub named : Among entry.numbers entry.answer
  -- and 0 is acceptance's alone
  pub zero : (number_of entry.answer ≡ 0) ↔ (entry.answer ≡ Accepted)

pub each_answers : (call : Call) → Answers (row call)
each_answers call =
    let n = row-numbers call in
    let listed = more_numbers (row call).numbers document_numbers n.1 (row call).answer n.0 in
    record {
      listed = listed;
      named = n.0;
      zero = (zero_accepted document_numbers none_is_zero (row call).answer listed, ap number_of);
    }

-- "A refused correction changes no byte of the file's buffer;"
-- The length that is answered then is "the length given".
-- Code: `sff_corrector::correct`, and `service::sffstore_correct` over it.
-- Shuts out:
--   - a corrector that writes though it refuses (correction_format/written_though_refused)
--   - a corrector that answers another length when it refuses (correction_format/refused_length_is_0)
pub refused_unchanged : (buffer : List ℕ) (len : ℕ) («record» : List ℕ)
    → (number_of (correct_outcome buffer len «record»).answer ≡ 0 → ⊥)
    → ((correct_outcome buffer len «record»).length ≡ len) × (correct_buffer buffer len «record» ≡ buffer)
refused_unchanged = refused_left

-- "what other lent memory holds is stated there."
-- After a refusal each buffer that a call was lent to write holds what document 01 says of it: the column `if_refused`
-- of the table. A new file, an append, an encoding and SCF samples change nothing; a list leaves what its records
-- before the refused one left; undoing zeroes both buffers. A text that does not fit changes nothing either, or, where
-- it is put into an undo's buffers, leaves both zero.
-- Code: `sff_writer::new_file`, `append`; `sff_corrector::correct`, `correct_list`; `filter_undo::undo`, `undo_layer`;
-- `filter_encode::encode`; `scf_samples::encode_samples`, `undo_samples`; `lister_text::list`, `print`;
-- `correct_text::report`, `too_long`; `unfilter_text::print`; `service::sffstore_correct`.
-- Shuts out:
--   - a refused undo that leaves a buffer as it was (filter_undo/second_not_zeroed,
--     claims/refused_undo_leaves_the_second)
--   - a list that takes back what its earlier records did (claims/refused_list_changes_nothing)
--   - a text that is put though it is refused (text/put_though_refused)
pub memory_after_refusal : (call : Call) → (number_of (row call).answer ≡ 0 → ⊥)
    → (row call).memory ≡ (row call).if_refused
memory_after_refusal = row_refused

-- DEMAND 2: the file, reading and writing, the sample filters

-- "A file is accepted exactly if it keeps the SFF rules as document 01 narrows them."
-- It is accepted exactly if its bytes are some file that keeps them (`Valid`), written afresh (`layout`).
-- Code: `sff_file::file_test`, and `service::sffstore_test` over it.
-- Shuts out:
--   - a test that refuses everything (sff_file/refuses_everything)
--   - a test that accepts everything (sff_file/accepts_everything); with the item before, any that always answers the
--     same
--   - a test that accepts bytes left over (sff_file/leftover_bytes)
--   - a test that accepts any padding (sff_header/padding_not_tested)
--   - a test that accepts a base that is not the flow's (sff_walk/any_base)
pub accepted_exactly : (file : List ℕ) → (Bytes file × (number_of (file_test file) ≡ 0)) ↔ IsFile file
accepted_exactly file = (
  (λ t. (accepted file).0 (t.0, file_zero file t.1)),
  (λ t. (((accepted file).1 t).0, ap number_of ((accepted file).1 t).1)),
)

-- and no other file that keeps them has these bytes
pub one_meaning : (content other : File) → Valid content → Valid other → layout content ≡ layout other → content ≡ other
one_meaning = one_file

-- "Reads written and read back come back the same,"
-- After a new file and an append for each read (`write_each`), in any buffer that holds them, the reader gives
-- (`read_back`) the reads that were written.
-- Code: `sff_writer::new_file` and `append`; `Reader::fresh` and `step`, and the accessors of `sff_view`.
-- Shuts out:
--   - a writer that does not count the read (sff_writer/count_not_raised, sff_format/appended_not_counted)
--   - a writer that lays parts out in another order (sff_sections/qualities_before_bases,
--     sff_sections/clips_changed_about)
--   - a reader whose step counts no read, or two (sff_format/step_stays, sff_reader/step_past_two)
--   - an accessor that hands out another part (sff_view/bases_are_increments)
pub written_and_read_back : (content : File) → content.index ≡ no_index → Valid content → (buffer : List ℕ)
    → length (layout content) ≤ length buffer
    → read_back (take (write_each buffer content).outcome.length (write_each buffer content).buffer) ≡ content.reads
written_and_read_back = written_back

-- "and a file without an index, read and written again, gives its own bytes."
-- Its characters and its reads as the calls hand them out, written into any buffer that holds them, are its bytes at
-- the buffer's front; the other bytes stay.
-- Code: `sff_header::flow_characters` and `key`; `Reader::fresh` and `step`, and the accessors of `sff_view`;
-- `sff_writer::new_file` and `append`.
-- Shuts out:
--   - a writer of padding that is not zero (sff_sections/padding_not_zero)
--   - a layout of names without padding (sff_format/names_unpadded)
--   - a writer or a layout with the key before the flow characters (sff_sections/key_first, sff_format/key_first)
--   - a writer of another format code (sff_sections/format_code_0)
pub read_and_written_again : (file : List ℕ) → Bytes file → file_test file ≡ Accepted
    → declared (index_offset file) (index_length file) ≡ false → (buffer : List ℕ) → length file ≤ length buffer
    → write_each buffer
    (record { flow_characters = file_flow_characters file; key = file_key file; index = no_index; reads = read_back file })
    ≡ record { outcome = record { answer = Accepted; length = length file }; buffer = put_at 0 file buffer }
read_and_written_again = written-again

-- "Each sample filter undoes its own encoding as the ZTR and SCF rules define it."
-- Code: `filter_encode::encode`, `filter_undo::undo_layer`; `scf_samples::encode_samples` and `undo_samples`.
-- Shuts out:
--   - formats 70 and 71 with -128 in one byte (filter_narrow/minus_128_in_one_byte,
--     filter_format/minus_128_in_one_byte)
--   - formats 70 and 71 with -127 in long form, which undoing accepts all the same
--     (filter_format/minus_127_in_long_form)
--   - format 72 undone with the stored byte as the previous one (filter_follow/stored_byte_remembered,
--     filter_format/stored_byte_remembered)
--   - a delta of which a level is not undone (filter_delta/last_level_left, filter_format/no_level_undone)
--   - a delta of the unit before less the unit (filter_delta/difference_the_other_way,
--     filter_format/difference_the_other_way)
--   - SCF samples at one level (scf_samples/one_level_only)
pub record EachFilter : Type 0 where
  -- "undoes its own encoding": for every format, level and follow bytes that encoding accepts, wherever the data fit
  pub undone : (room room' format level : ℕ) (follow source : List ℕ) → Bytes source → Bytes follow
      → number_of (encode room format level follow source).answer ≡ 0 → length source ≤ room'
      → undo_layer room' (encode room format level follow source).bytes ≡ making source
  -- and for SCF samples of either precision
  pub samples-undone : (room room' precision : ℕ) (source : List ℕ) → Bytes source
      → number_of (encode_samples room precision source).answer ≡ 0 → length source ≤ room'
      → undo_samples room' precision (encode_samples room precision source).bytes ≡ making source
  -- "as the ZTR and SCF rules define it": what encoding gives is what these ask, unit by unit
  pub by_ztr : (room level : ℕ) (follow source : List ℕ) → Bytes source → Bytes follow
      → EncodedByRule room level follow source
  pub by_scf : (room precision : ℕ) (source : List ℕ) → Bytes source
      → number_of (encode_samples room precision source).answer ≡ 0
      → DeltaOf [] precision 2 source (encode_samples room precision source).bytes

pub each_filter : EachFilter
each_filter = record {
  undone = λ room room' format level follow source source-bytes follow-bytes carried fits.
      undo_after_encode room room' format level follow source source-bytes follow-bytes
      (encode_zero room format level follow source carried) fits;
  samples-undone = λ room room' precision source source-bytes carried fits.
      undo_after_encode_samples room room' precision source source-bytes fits
      (encode_samples_zero room precision source carried);
  by_ztr = encoded_by_rule;
  by_scf = samples_by_rule;
}

-- DEMAND 3: corrections, by one record and by every list of records

-- One record, on any buffer with any length stated; the sentences stand at the fields. The reasons in document 01's
-- order are the table `reasons_against`; `correction` is what the record says, `content` what the file says, and `new`
-- that with the correction carried out.
-- Code: `sff_corrector::correct`, and `service::sffstore_correct` over it.
-- Shuts out:
--   - a corrector that writes nothing (sff_edit/writes_nothing, correction_format/writes_nothing)
--   - a corrector that refuses everything (sff_corrector/refuses_everything)
--   - a corrector that compares the position and not the name (correction_format/position_alone)
--   - a corrector that tests the reasons in another order (correction_format/index_before_name)
--   - a corrector that overwrites reads not yet moved (splice/low_end_first)
--   - a corrector that does not zero the freed bytes (splice/freed_bytes_left)
--   - a corrector that still counts a removed read (sff_edit/count_not_lowered)
pub record OneRecordOn (buffer : List ℕ) (len : ℕ) («record» : List ℕ)
    (correction : Correction) (content new : File) : Type 0 where
  -- "Whatever bytes are lent as the file and as a correction record, and whatever file length is stated, the correction
  -- is carried out, with number 0, exactly when none of document 01's reasons to refuse holds."
  pub carried_out : (number_of (correct_outcome buffer len «record»).answer ≡ 0)
      ↔ NoneHolds (reasons_against buffer len «record»)
  -- "Otherwise it answers the first that holds, in document 01's order."
  pub else_first : FirstHolds (reasons_against buffer len «record») (correct_outcome buffer len «record»).answer
  -- refused, with a number other than 0: the length given is answered, and every byte is as it was
  pub refused : (number_of (correct_outcome buffer len «record»).answer ≡ 0 → ⊥)
      → ((correct_outcome buffer len «record»).length ≡ len) × (correct_buffer buffer len «record» ≡ buffer)
  -- "Once carried out, the file is, byte for byte, what writing afresh gives": `new`, laid out; then zeros up to the
  -- longer of both lengths, and the rest of the buffer as it was
  pub afresh : number_of (correct_outcome buffer len «record»).answer ≡ 0
      → ((correct_outcome buffer len «record»).length ≡ length (layout new))
      × (correct_buffer buffer len «record» ≡ filled_front (layout new) (max len (length (layout new))) buffer)
  -- "from the same header, any index, and the same reads with that one read changed or left out."
  pub same_header : (new.flow_characters ≡ content.flow_characters) × (new.key ≡ content.key)
      × (new.index ≡ content.index)
  pub same_reads : new.reads
      ≡ take correction.position content.reads
      ++ replacement correction.change (read_at content correction.position)
      ++ drop (suc correction.position) content.reads
  -- "Every other read's sections keep their bytes and their order.": so does all that stands before that read and after
  -- it, but for the count at 20
  pub others_kept : number_of (correct_outcome buffer len «record»).answer ≡ 0
      → take (correct_outcome buffer len «record»).length (correct_buffer buffer len «record»)
      ≡ put_at 20 (bytes_of 4 (length new.reads))
      (
      take (read_place (take len buffer) correction.position) (take len buffer)
      ++ (layout_reads (replacement correction.change (read_at content correction.position))
      ++ drop (read_place (take len buffer) correction.position + length (layout_read (read_at content correction.position)))
      (take len buffer))
      )
  -- the corrected file keeps the rules
  pub valid : number_of (correct_outcome buffer len «record»).answer ≡ 0 → Valid new

abbrev pub OneRecord : List ℕ → ℕ → List ℕ → Type 0
OneRecord buffer len «record» =
    OneRecordOn buffer len «record» (parse_record «record») (parse (take len buffer))
    (edited (parse_record «record») (parse (take len buffer)))

pub one_record : (buffer : List ℕ) (len : ℕ) («record» : List ℕ) → Bytes buffer → Bytes «record»
    → OneRecord buffer len «record»
unfolding edited
one_record buffer len «record» y z = record {
  carried_out = carried_exactly buffer len «record» y z;
  else_first = first-answered buffer len «record» y z;
  refused = refused_left buffer len «record»;
  afresh = carried_left buffer len «record» y z;
  same_header = (refl, refl, refl);
  same_reads = refl;
  others_kept = carried_kept buffer len «record» y z;
  valid = carried_valid buffer len «record» y z;
}

-- `FirstHolds` leaves no choice: one answer alone is that of the first reason that holds
pub one_answer : (reasons : List Reason) (answer other : Answer) → FirstHolds reasons answer → FirstHolds reasons other
    → answer ≡ other
one_answer = one_first

-- "what writing afresh gives": a file without index that is corrected in place is the one that a new file and an append
-- for each of its reads, with that one changed or left out, leave in any buffer that holds it.
-- Code: `sff_corrector::correct`; `sff_writer::new_file` and `append`.
-- Shuts out:
--   - a corrector and a writer that lay a read out differently (sff_edit/name_length_not_written,
--     sff_sections/name_for_the_bases)
pub in_place_is_afresh : (buffer : List ℕ) (len : ℕ) («record» : List ℕ) → Bytes buffer → Bytes «record»
    → number_of (correct_outcome buffer len «record»).answer ≡ 0 → (parse (take len buffer)).index ≡ no_index
    → (other : List ℕ) → length (layout (edited (parse_record «record») (parse (take len buffer)))) ≤ length other
    → write_each other (edited (parse_record «record») (parse (take len buffer)))
    ≡ record {
      outcome = correct_outcome buffer len «record»;
      buffer = put_at 0 (take (correct_outcome buffer len «record»).length (correct_buffer buffer len «record»)) other;
    }
in_place_is_afresh = corrected-written

-- A list of whole records on an accepted file; the sentences stand at the fields. `content` is what the file says,
-- `all` how many records there are, `count` the count that is answered, and `before k` what a list of the first k
-- records leaves.
-- Code: `sff_corrector::correct_list`.
-- Shuts out:
--   - a list run that does its first record only (sff_corrector/first_record_only, correction_format/first_record_only)
--   - a list run with an invented count (sff_corrector/invented_count, correction_format/invented_count)
--   - a list run that judges each record on the file, or its length, at the start (correction_format/file_of_the_start,
--     correction_format/length_of_the_start)
--   - a list run that looks for a read from a place where no read starts (sff_corrector/mark_elsewhere)
pub record WholeList (buffer : List ℕ) (len : ℕ) (list : List ℕ)
    (content : File) (all count : ℕ) (before : ℕ → Run) : Type 0 where
  -- "For every list of whole records, run on any accepted file, those carried out are exactly the ones before the first
  -- for which a reason to refuse holds in its turn,"
  pub carried_out : (k : ℕ) → k < count → NoneHolds (reasons_in_turn (length buffer) k list content)
  pub refused : count < all → NoneHolds (reasons_in_turn (length buffer) count list content) → ⊥
  pub else_first : count < all
      → FirstHolds (reasons_in_turn (length buffer) count list content) (run_list buffer len list).outcome.answer
  -- "or all if there is none; the count is how many they are."
  pub most : count ≤ all
  pub all_of_them : count ≡ all → (run_list buffer len list).outcome.answer ≡ Accepted
  -- "in its turn": each record runs on the buffer and length that those before it left; the first refusal ends the list
  pub next : (k : ℕ) → k < count
      → before (suc k)
      ≡ ran (suc k) Accepted (correct_outcome (before k).buffer (before k).outcome.length (record_at k list)).length
      (correct_buffer (before k).buffer (before k).outcome.length (record_at k list))
  pub last : count < all
      → run_list buffer len list
      ≡ ran count (correct_outcome (before count).buffer (before count).outcome.length (record_at count list)).answer
      (before count).outcome.length (before count).buffer
  -- document 01: "Demand 3 holds of each record in its turn"
  pub each : (k : ℕ) → k ≤ count → k < all → OneRecord (before k).buffer (before k).outcome.length (record_at k list)
  -- a record in its turn finds an accepted file that fits the buffer: so 14 and the file's refusal never hold, and
  -- `reasons_in_turn` has the other reasons alone
  pub reasons : (k : ℕ) → k ≤ count
      → NoneHolds (reasons_against (before k).buffer (before k).outcome.length (record_at k list))
      ↔ NoneHolds (reasons_in_turn (length buffer) k list content)
  -- "The file is then what writing afresh gives from its header, any index, and the reads as these records, one after
  -- the other, have left them."
  pub file : take (run_list buffer len list).outcome.length (run_list buffer len list).buffer
      ≡ layout (file_after count (correction_at list) content)
  pub same_header : ((file_after count (correction_at list) content).flow_characters ≡ content.flow_characters)
      × ((file_after count (correction_at list) content).key ≡ content.key)
      × ((file_after count (correction_at list) content).index ≡ content.index)
  -- the file that is left keeps the rules
  pub valid : Valid (file_after count (correction_at list) content)

pub record EveryList (buffer : List ℕ) (len : ℕ) (list : List ℕ) : Type 0 where
  -- on any buffer with any length stated, document 01's "single claim over every list, on the whole answer and the
  -- whole buffer": `list_afresh` says what is answered and left, also for a list that is not whole or is empty, and for
  -- a file that is refused
  pub whole : run_list buffer len list ≡ list_afresh buffer len list
  -- the sentences' case: whole records on an accepted file
  pub on_file : len ≤ length buffer → file_test (take len buffer) ≡ Accepted → length list % 96 ≡ 0
      → WholeList buffer len list (parse (take len buffer)) (length list / 96)
      (run_list buffer len list).outcome.count (λ k. run_list buffer len (first_records k list))

pub list_corrected : (buffer : List ℕ) (len : ℕ) (list : List ℕ) → Bytes buffer → Bytes list → EveryList buffer len list
list_corrected buffer len list y z = record {
  whole = every_list buffer len list y z;
  on_file = λ h e w. record {
    carried_out = none_of_carried buffer len list y z h e w;
    refused = some_of_refused buffer len list y z h e w;
    else_first = first_of_refused buffer len list y z h e w;
    most = count_most buffer len list y z h e w;
    all_of_them = all_carried buffer len list y z h e w;
    next = on_in_turn buffer len list y z h e w;
    last = stop_in_turn buffer len list y z h e w;
    each = λ k i j.
        one_record _ _ (record_at k list) (bytes_in_turn buffer len list y z h e w k i) (bytes-part (96 * k) 96 list z);
    reasons = reasons_in_turn_lem buffer len list y z h e w;
    file = list_file buffer len list y z h e w;
    same_header = header_kept (run_list buffer len list).outcome.count (correction_at list) (parse (take len buffer));
    valid = valid_in_turn buffer len list y z h e w (run_list buffer len list).outcome.count (omega arith);
  };
}

-- THE MARKED CASES of document 01, "one table under one statement": every row of `table` holds, computed from the
-- definitions.
-- Shuts out:
--   - a row in which a clip of 4 on 3 bases is accepted (claims/clip_above_bases)
--   - a row in which a header cut short is refused at another place (claims/another_place)
--   - a row in which a removal leaves the freed bytes as they were (claims/freed_bytes_left)
pub marked_cases : All table
marked_cases = marked
