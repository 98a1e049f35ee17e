-- Each row of the table of calls: its answer has one of its numbers, or 0; and what a refusal leaves. Assumes nothing.
use Prim.Native.Nat.{ℕ, ◌-◌}
use native.Mathlib.Omega.{arith}
use mathlib.Core.Path.{◌≡◌, refl, ap, ◌∙◌}
use mathlib.Core.Bool.{true, false}
use mathlib.Core.List.{List, [], ◌∷◌}
use lib.ListN.{length, replicate}
use Rattle.octets.specs.Parts.{filled}
use Rattle.octets.proofs.Lists.{put_nil}
use Rattle.answers.specs.Answer.{number_of, among, Among}
use Rattle.answers.proofs.Answers.{refused_or}
use Rattle.answers.proofs.Numbered.{within, more_numbers}
use Rattle.sff_format.specs.Writing.{new_test, new_outcome, new_buffer, append_test, append_outcome, append_buffer}
use Rattle.sff_format.proofs.Refusals.{header_numbers_lem, file-numbers, view-numbers, step-numbers, position-numbers, signal-numbers, new-numbers, append-numbers}
use Rattle.correction_format.proofs.InOrder.{record-numbers}
use Rattle.correction_format.proofs.Answered.{outcome-numbers, refused_left}
use Rattle.correction_format.proofs.ListClaim.{list_numbers}
use Rattle.correction_format.proofs.InTurn.{earlier_left}
use Rattle.filter_format.specs.Undo.{room_of, undo, undo_layer}
use Rattle.filter_format.proofs.Refusals.{undo-numbers, layer_numbers_lem, encode-numbers, encode_samples_numbers, undo_samples_numbers, undo_none, layer_none, encode_none, encode_samples_none, undo_samples_none}
use Rattle.text.proofs.Fitted.{fitted-numbers, fitted_none}
use Rattle.lines.specs.Lines.{too_long}
use Rattle.lister_text.specs.Listing.{listing, printed}
use Rattle.correct_text.specs.Report.{reported}
use Rattle.unfilter_text.specs.Unfiltering.{unfilter_text}
use Rattle.claims.specs.Calls.{Call, file_test_call, header_test_call, flow_characters, key, reader_fresh, reader_step, view_test_call, view_name, view_values, view_increments, view_bases, view_qualities, view_insert, first_base, last_base, position_test_call, insert, insert_ends, signal_test_call, signal, new_file, append, record_test_call, correct, correct_list, undo_block, undo_layer_call, encode_layer, encode_samples_call, undo_samples_call, list_file, print_listing, report_run, report_too_long, print_block, sffstore_test, sffstore_correct, row, zeros, document_numbers}

-- one of its own numbers, all of which document 01 has
pub row-numbers : (call : Call)
    → Among (row call).numbers (row call).answer × (within (row call).numbers document_numbers ≡ true)
unfolding new_outcome append_outcome among
row-numbers (file_test_call file) = (file-numbers file, refl)
row-numbers (header_test_call file) = (header_numbers_lem file, refl)
row-numbers (flow_characters file) = (header_numbers_lem file, refl)
row-numbers (key file) = (header_numbers_lem file, refl)
row-numbers (reader_fresh file) = (header_numbers_lem file, refl)
row-numbers (reader_step file state) = (step-numbers file state, refl)
row-numbers (view_test_call file view) = (view-numbers file view, refl)
row-numbers (view_name file view) = (view-numbers file view, refl)
row-numbers (view_values file view) = (view-numbers file view, refl)
row-numbers (view_increments file view) = (view-numbers file view, refl)
row-numbers (view_bases file view) = (view-numbers file view, refl)
row-numbers (view_qualities file view) = (view-numbers file view, refl)
row-numbers (view_insert file view) = (view-numbers file view, refl)
row-numbers (first_base file view) = (view-numbers file view, refl)
row-numbers (last_base file view) = (view-numbers file view, refl)
row-numbers (position_test_call file position) = (position-numbers file position, refl)
row-numbers (insert file position) = (position-numbers file position, refl)
row-numbers (insert_ends file position) = (position-numbers file position, refl)
row-numbers (signal_test_call file position) = (signal-numbers file position, refl)
row-numbers (signal file position) = (signal-numbers file position, refl)
row-numbers (new_file buffer characters key-characters) = (new-numbers (length buffer) characters key-characters, refl)
row-numbers (append buffer len read) = (append-numbers buffer len read, refl)
row-numbers (record_test_call «record») = (record-numbers «record», refl)
row-numbers (correct buffer len «record») = (outcome-numbers buffer len «record», refl)
row-numbers (correct_list buffer len list) = (list_numbers buffer len list, refl)
row-numbers (undo_block block first second) = (undo-numbers (room_of first second) block, refl)
row-numbers (undo_layer_call block first second) = (layer_numbers_lem (room_of first second) block, refl)
row-numbers (encode_layer format level follow source out) =
    (encode-numbers (length out) format level follow source, refl)
row-numbers (encode_samples_call precision source out) = (encode_samples_numbers (length out) precision source, refl)
row-numbers (undo_samples_call precision source out) = (undo_samples_numbers (length out) precision source, refl)
row-numbers (list_file file out) = (fitted-numbers (length out) (listing file), refl)
row-numbers (print_listing input out) = (fitted-numbers (length out) (printed input), refl)
row-numbers (report_run outcome out) = (fitted-numbers (length out) (reported outcome), refl)
row-numbers (report_too_long out) = (fitted-numbers (length out) too_long, refl)
row-numbers (print_block input first second) =
    (fitted-numbers (length first) (unfilter_text (room_of first second) input), refl)
row-numbers (sffstore_test file) = (file-numbers file, refl)
row-numbers (sffstore_correct buffer len «record») = (outcome-numbers buffer len «record», refl)

pub none_is_zero : among 0 document_numbers ≡ false
unfolding among
none_is_zero = refl

-- with nothing made, both buffers of an undo are zero
filled_none : (buffer : List ℕ) → filled (length buffer) [] ≡ zeros buffer
unfolding filled
filled_none buffer = ap (λ (n : ℕ). replicate n 0) (let e : length buffer - 0 ≡ length buffer = omega arith in e)

zeroed : (made first second : List ℕ) → made ≡ [] → filled (length first) made ∷ filled (length second) [] ∷ [] ≡ zeros first ∷ zeros second ∷ []
zeroed made first second e = rw (e, filled_none first, filled_none second)

-- what a refusal leaves
pub row_refused : (call : Call) → (number_of (row call).answer ≡ 0 → ⊥) → (row call).memory ≡ (row call).if_refused
unfolding new_outcome new_buffer append_outcome append_buffer
row_refused (file_test_call file) h = refl
row_refused (header_test_call file) h = refl
row_refused (flow_characters file) h = refl
row_refused (key file) h = refl
row_refused (reader_fresh file) h = refl
row_refused (reader_step file state) h = refl
row_refused (view_test_call file view) h = refl
row_refused (view_name file view) h = refl
row_refused (view_values file view) h = refl
row_refused (view_increments file view) h = refl
row_refused (view_bases file view) h = refl
row_refused (view_qualities file view) h = refl
row_refused (view_insert file view) h = refl
row_refused (first_base file view) h = refl
row_refused (last_base file view) h = refl
row_refused (position_test_call file position) h = refl
row_refused (insert file position) h = refl
row_refused (insert_ends file position) h = refl
row_refused (signal_test_call file position) h = refl
row_refused (signal file position) h = refl
row_refused (new_file buffer characters key-characters) h = ap (λ (x : List ℕ). x ∷ []) (refused_or _ _ _ h)
row_refused (append buffer len read) h = ap (λ (x : List ℕ). x ∷ []) (refused_or _ _ _ h)
row_refused (record_test_call «record») h = refl
row_refused (correct buffer len «record») h = ap (λ (x : List ℕ). x ∷ []) (refused_left buffer len «record» h).1
row_refused (correct_list buffer len list) h = ap (λ (x : List ℕ). x ∷ []) (earlier_left buffer len list)
row_refused (undo_block block first second) h = zeroed _ first second (undo_none (room_of first second) block h)
row_refused (undo_layer_call block first second) h = zeroed _ first second (layer_none (room_of first second) block h)
row_refused (encode_layer format level follow source out) h =
    rw (encode_none (length out) format level follow source h) (ap (λ (x : List ℕ). x ∷ []) (put_nil 0 out))
row_refused (encode_samples_call precision source out) h =
    rw (encode_samples_none (length out) precision source h) (ap (λ (x : List ℕ). x ∷ []) (put_nil 0 out))
row_refused (undo_samples_call precision source out) h =
    rw (undo_samples_none (length out) precision source h) (ap (λ (x : List ℕ). x ∷ []) (put_nil 0 out))
row_refused (list_file file out) h =
    rw (fitted_none (length out) (listing file) h) (ap (λ (x : List ℕ). x ∷ []) (put_nil 0 out))
row_refused (print_listing input out) h =
    rw (fitted_none (length out) (printed input) h) (ap (λ (x : List ℕ). x ∷ []) (put_nil 0 out))
row_refused (report_run outcome out) h =
    rw (fitted_none (length out) (reported outcome) h) (ap (λ (x : List ℕ). x ∷ []) (put_nil 0 out))
row_refused (report_too_long out) h = rw (fitted_none (length out) too_long h) (ap (λ (x : List ℕ). x ∷ []) (put_nil 0 out))
row_refused (print_block input first second) h =
    zeroed _ first second (fitted_none (length first) (unfilter_text (room_of first second) input) h)
row_refused (sffstore_test file) h = refl
row_refused (sffstore_correct buffer len «record») h =
    ap (λ (x : List ℕ). x ∷ []) (refused_left buffer len «record» h).1
