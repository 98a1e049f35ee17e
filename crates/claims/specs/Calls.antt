-- The entry points as one table: what each is given, what it answers and with which numbers, and what the memory that
-- is lent to be written holds afterwards.
-- docs/API.md has the same list in the same order (tests/names compares the two). Assumes nothing: these are
-- definitions.
use Rattle.std.specs.Prelude.{ℕ, List, [], ◌∷◌, length, replicate}
use Rattle.octets.specs.Parts.{put_at, filled}
use Rattle.answers.specs.Answer.{Answer}
use Rattle.sff_format.specs.declared.ReadView.{ReadView}
use Rattle.sff_format.specs.Model.{Read}
use Rattle.sff_format.specs.HeaderTest.{header_test}
use Rattle.sff_format.specs.FileTest.{file_test}
use Rattle.sff_format.specs.View.{view_test}
use Rattle.sff_format.specs.Step.{State, step_answer, step}
use Rattle.sff_format.specs.Position.{position_test, signal_test}
use Rattle.sff_format.specs.Writing.{new_outcome, new_buffer, append_outcome, append_buffer}
use Rattle.sff_format.specs.Numbers.{header_numbers, file_numbers, view_numbers, step_numbers, position_numbers, signal_numbers, new_numbers, append_numbers}
use Rattle.correction_format.specs.ListRun.{ListOutcome}
use Rattle.correction_format.specs.Record.{record_test}
use Rattle.correction_format.specs.Correct.{correct_outcome, correct_buffer}
use Rattle.correction_format.specs.ListRun.{first_records, run_list}
use Rattle.correction_format.specs.Numbers.{record_numbers, correct_numbers}
use Rattle.filter_format.specs.Undo.{room_of, undo, undo_layer, first_after, second_after}
use Rattle.filter_format.specs.Encode.{encode, out_after}
use Rattle.filter_format.specs.Samples.{encode_samples, undo_samples}
use Rattle.filter_format.specs.Numbers.{undo_numbers, layer_numbers, encode_numbers, samples_numbers}
use Rattle.text.specs.Writing.{fitted, text_numbers}
use Rattle.lines.specs.Lines.{too_long}
use Rattle.lister_text.specs.Listing.{listing, printed}
use Rattle.correct_text.specs.Report.{reported}
use Rattle.unfilter_text.specs.Unfiltering.{printed_by}

-- each as its function takes it; "by" names the companion call that answers for it on the same inputs
pub data Call : Type 0 where
  -- `sff_file::file_test(file)`
  file_test_call : List ℕ → Call
  -- `sff_header::header_test(file)`
  header_test_call : List ℕ → Call
  -- `sff_header::flow_characters(file)`, by `sff_header::header_test`
  flow_characters : List ℕ → Call
  -- `sff_header::key(file)`, by `sff_header::header_test`
  key : List ℕ → Call
  -- `sff_reader::Reader::fresh(file)`, by `sff_header::header_test`
  reader_fresh : List ℕ → Call
  -- `sff_reader::Reader::step(self, file)`
  reader_step : List ℕ → State → Call
  -- `sff_view::view_test(view, file)`
  view_test_call : List ℕ → ReadView → Call
  -- `sff_view::name(view, file)`, by `sff_view::view_test`
  view_name : List ℕ → ReadView → Call
  -- `sff_view::values(view, file)`, by `sff_view::view_test`
  view_values : List ℕ → ReadView → Call
  -- `sff_view::increments(view, file)`, by `sff_view::view_test`
  view_increments : List ℕ → ReadView → Call
  -- `sff_view::bases(view, file)`, by `sff_view::view_test`
  view_bases : List ℕ → ReadView → Call
  -- `sff_view::qualities(view, file)`, by `sff_view::view_test`
  view_qualities : List ℕ → ReadView → Call
  -- `sff_view::insert(view, file)`, by `sff_view::view_test`
  view_insert : List ℕ → ReadView → Call
  -- `sff_clips::first_base(view)`, by `sff_view::view_test`
  first_base : List ℕ → ReadView → Call
  -- `sff_clips::last_base(view)`, by `sff_view::view_test`
  last_base : List ℕ → ReadView → Call
  -- `sff_find::position_test(file, position)`
  position_test_call : List ℕ → ℕ → Call
  -- `sff_insert::insert(file, position)`, by `sff_find::position_test`
  insert : List ℕ → ℕ → Call
  -- `sff_insert::insert_ends(file, position)`, by `sff_find::position_test`
  insert_ends : List ℕ → ℕ → Call
  -- `sff_signal::signal_test(file, position)`
  signal_test_call : List ℕ → ℕ → Call
  -- `sff_signal::signal(file, position)`, by `sff_signal::signal_test`
  signal : List ℕ → ℕ → Call
  -- `sff_writer::new_file(buffer, flows, key)`
  new_file : List ℕ → List ℕ → List ℕ → Call
  -- `sff_writer::append(buffer, file_length, read)`: here the read's own lists, and not slices of them
  append : List ℕ → ℕ → Read → Call
  -- `sff_record::record_test(record)`
  record_test_call : List ℕ → Call
  -- `sff_corrector::correct(buffer, file_length, record)`
  correct : List ℕ → ℕ → List ℕ → Call
  -- `sff_corrector::correct_list(buffer, file_length, list)`
  correct_list : List ℕ → ℕ → List ℕ → Call
  -- `filter_undo::undo(block, first, second)`
  undo_block : List ℕ → List ℕ → List ℕ → Call
  -- `filter_undo::undo_layer(block, first, second)`
  undo_layer_call : List ℕ → List ℕ → List ℕ → Call
  -- `filter_encode::encode(format, level, follow, source, out)`
  encode_layer : ℕ → ℕ → List ℕ → List ℕ → List ℕ → Call
  -- `scf_samples::encode_samples(precision, source, out)`
  encode_samples_call : ℕ → List ℕ → List ℕ → Call
  -- `scf_samples::undo_samples(precision, source, out)`
  undo_samples_call : ℕ → List ℕ → List ℕ → Call
  -- `lister_text::list(file, out)`
  list_file : List ℕ → List ℕ → Call
  -- `lister_text::print(input, out)`
  print_listing : List ℕ → List ℕ → Call
  -- `correct_text::report(outcome, out)`
  report_run : ListOutcome → List ℕ → Call
  -- `correct_text::too_long(out)`
  report_too_long : List ℕ → Call
  -- `unfilter_text::print(input, first, second)`
  print_block : List ℕ → List ℕ → List ℕ → Call
  -- `service::sffstore_test(file)`
  sffstore_test : List ℕ → Call
  -- `service::sffstore_correct(buffer, file_length, record)`
  sffstore_correct : List ℕ → ℕ → List ℕ → Call

-- a row: the answer; the numbers that it may have beside 0; what each buffer that is lent to be written holds
-- afterwards, and what it is to hold after a refusal
pub record CallRow : Type 0 where
  pub answer : Answer
  pub numbers : List ℕ
  pub memory : List (List ℕ)
  pub if_refused : List (List ℕ)

-- a call that writes nothing
abbrev pub reading : Answer → List ℕ → CallRow
reading answer numbers = record { answer = answer; numbers = numbers; memory = []; if_refused = [] }

-- one that writes to one buffer, and nothing if it refuses
abbrev pub writing : Answer → List ℕ → List ℕ → List ℕ → CallRow
writing answer numbers after buffer = record { answer = answer; numbers = numbers; memory = after ∷ []; if_refused = buffer ∷ [] }

-- one that puts a text at the front of a buffer, if it fits
abbrev pub putting : List ℕ → List ℕ → CallRow
putting text out = writing (fitted (length out) text).answer text_numbers (put_at 0 (fitted (length out) text).text out) out

abbrev pub zeros : List ℕ → List ℕ
zeros buffer = replicate (length buffer) 0

abbrev pub row : Call → CallRow
row (file_test_call file) = reading (file_test file) file_numbers
row (header_test_call file) = reading (header_test file) header_numbers
row (flow_characters file) = reading (header_test file) header_numbers
row (key file) = reading (header_test file) header_numbers
row (reader_fresh file) = reading (header_test file) header_numbers
row (reader_step file state) = reading (step_answer (step file state)) step_numbers
row (view_test_call file view) = reading (view_test file view) view_numbers
row (view_name file view) = reading (view_test file view) view_numbers
row (view_values file view) = reading (view_test file view) view_numbers
row (view_increments file view) = reading (view_test file view) view_numbers
row (view_bases file view) = reading (view_test file view) view_numbers
row (view_qualities file view) = reading (view_test file view) view_numbers
row (view_insert file view) = reading (view_test file view) view_numbers
row (first_base file view) = reading (view_test file view) view_numbers
row (last_base file view) = reading (view_test file view) view_numbers
row (position_test_call file position) = reading (position_test file position) position_numbers
row (insert file position) = reading (position_test file position) position_numbers
row (insert_ends file position) = reading (position_test file position) position_numbers
row (signal_test_call file position) = reading (signal_test file position) signal_numbers
row (signal file position) = reading (signal_test file position) signal_numbers
-- "A refusal changes nothing"
row (new_file buffer characters key-characters) =
    writing (new_outcome buffer characters key-characters).answer new_numbers
    (new_buffer buffer characters key-characters) buffer
row (append buffer len read) =
    writing (append_outcome buffer len read).answer append_numbers (append_buffer buffer len read) buffer
row (record_test_call «record») = reading (record_test «record») record_numbers
-- "A refused correction changes no byte of the file's buffer"
row (correct buffer len «record») =
    writing (correct_outcome buffer len «record»).answer correct_numbers (correct_buffer buffer len «record») buffer
-- "The first refusal ends it; earlier ones stand": the buffer as a list of these alone leaves it
row (correct_list buffer len list) = record {
  answer = (run_list buffer len list).outcome.answer;
  numbers = correct_numbers;
  memory = (run_list buffer len list).buffer ∷ [];
  if_refused = (run_list buffer len (first_records (run_list buffer len list).outcome.count list)).buffer ∷ [];
}
-- "A refusal zeroes both"
row (undo_block block first second) = record {
  answer = (undo (room_of first second) block).answer;
  numbers = undo_numbers;
  memory = first_after (undo (room_of first second) block) first ∷ second_after second ∷ [];
  if_refused = zeros first ∷ zeros second ∷ [];
}
row (undo_layer_call block first second) = record {
  answer = (undo_layer (room_of first second) block).answer;
  numbers = layer_numbers;
  memory = first_after (undo_layer (room_of first second) block) first ∷ second_after second ∷ [];
  if_refused = zeros first ∷ zeros second ∷ [];
}
-- "in that order, changing nothing"
row (encode_layer format level follow source out) =
    writing (encode (length out) format level follow source).answer encode_numbers
    (out_after (encode (length out) format level follow source) out) out
row (encode_samples_call precision source out) =
    writing (encode_samples (length out) precision source).answer samples_numbers
    (out_after (encode_samples (length out) precision source) out) out
row (undo_samples_call precision source out) =
    writing (undo_samples (length out) precision source).answer samples_numbers
    (out_after (undo_samples (length out) precision source) out) out
-- 26 exactly if the text is longer than the buffer, which is then as it was; or zero, where it is one of an undo's
row (list_file file out) = putting (listing file) out
row (print_listing input out) = putting (printed input) out
row (report_run outcome out) = putting (reported outcome) out
row (report_too_long out) = putting too_long out
row (print_block input first second) = record {
  answer = (printed_by first second input).answer;
  numbers = text_numbers;
  memory = filled (length first) (printed_by first second input).text ∷ second_after second ∷ [];
  if_refused = zeros first ∷ zeros second ∷ [];
}
row (sffstore_test file) = reading (file_test file) file_numbers
row (sffstore_correct buffer len «record») =
    writing (correct_outcome buffer len «record»).answer correct_numbers (correct_buffer buffer len «record») buffer

-- every number of document 01: "Order of the file's tests", "Writing", "Correction records", "Filtered blocks"
abbrev pub document_numbers : List ℕ
document_numbers =
    1 ∷ 2 ∷ 3 ∷ 4 ∷ 5 ∷ 6 ∷ 7 ∷ 8 ∷ 9 ∷ 10 ∷ 11 ∷ 12 ∷ 13 ∷ 14 ∷ 20 ∷ 21 ∷ 22 ∷ 23 ∷ 24 ∷ 25 ∷ 26 ∷ 30 ∷ 31 ∷ 32 ∷ 33
    ∷ 40 ∷ 41 ∷ 42 ∷ 43 ∷ 44 ∷ []
