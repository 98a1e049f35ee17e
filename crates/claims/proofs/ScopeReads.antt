-- Sentences of document 01 on a read of a file, "Insert", "Reading on" and "Signal summary", in its order, as
-- theorems over the definitions. Assumes nothing.
use Prim.Native.Nat.{ℕ, suc, ◌+◌, ◌-◌, ◌*◌, ◌≤◌, ◌<◌}
use mathlib.Core.Path.{◌≡◌, refl, sym, ap, ◌∙◌}
use mathlib.Core.Bool.{false}
use mathlib.Core.Logic.{◌↔◌, ◌⊎◌}
use mathlib.Core.List.{List, [], sum}
use native.Mathlib.Omega.{arith}
use lib.ListN.{length, get_or}
use lib.IntN.{pos, negsuc}
use lib.Ieee.{fin, binary64, div, of_int}
use lib.Ieee.Exact.{HasValue}
use Rattle.octets.specs.Parts.{part, up8}
use Rattle.octets.specs.Numbers.{Bytes, Words, number}
use Rattle.answers.specs.Answer.{Accepted, Refused, number_of, ◌then◌}
use Rattle.answers.proofs.Answers.{refused_or}
use Rattle.sff_format.specs.declared.ReadView.{ReadView}
use Rattle.sff_format.specs.Model.{Read}
use Rattle.sff_format.specs.Valid.{ValidRead}
use Rattle.sff_format.specs.HeaderTest.{read_count, flows, key_length, header_test}
use Rattle.sff_format.specs.FileTest.{file_test}
use Rattle.sff_format.specs.Parse.{parse}
use Rattle.sff_format.specs.Places.{read_at}
use Rattle.sff_format.specs.Insert.{insert_first, insert_last, insert_of}
use Rattle.sff_format.specs.View.{bytes_in, view_first, view_last, insert_in, view_test}
use Rattle.sff_format.specs.Step.{State, found, stop, step, fresh, last_answer, read_back}
use Rattle.sff_format.specs.Position.{position_test, signal_test, view_of, file_insert, file_first, file_last}
use Rattle.sff_format.proofs.HeaderLaws.{characters-length}
use Rattle.sff_format.proofs.FileLaid.{head_ok}
use Rattle.sff_format.proofs.Positions.{insert_chosen, first_chosen, last_chosen, insert_inside, insert-length, position-there, position_none, position_refused, signal_none, signal-there, signal-position, signal-flows, flows_small, position-file, position-below, signal_refused}
use Rattle.sff_format.proofs.Inserted.{insert-within}
use Rattle.sff_format.proofs.ViewTests.{name_whole, values_whole, increments_whole, bases_whole, qualities_whole, insert_whole, found-accepted}
use Rattle.sff_format.proofs.Steps.{stop_unmoved, found-moved, place_beyond, steps_end, reads_in_order, then_33}
use Rattle.sff_format.proofs.InWords.{first_is, IsEnd, last_is, insert_empty, insert-at, fresh-passed, fresh-accepted, fresh_refused, read_keeps}
use Rattle.sff_signal.specs.declared.Summary.{Summary}
use Rattle.sff_signal.specs.Signal.{sum_of, max_of, min_of, summary_of, file_signal}
use Rattle.sff_signal.proofs.Numbers.{In, max_bounds, min_bounds, largest_in, smallest_in, sum_is, whole_small, exact}
use Rattle.sff_signal.proofs.Chosen.{signal_is}
use Rattle.claims.specs.Marked.{e_bytes}
use Rattle.claims.proofs.ScopeCases.{signal-in-E}

-- INSERT. "Given a file and a position, the insert's bases are handed over": of an accepted position, those of the
-- read there, from its first to its last base (`sff_insert`)
pub insert_of_read : (file : List ℕ) (position : ℕ) → Bytes file → position_test file position ≡ Accepted
    → (file_insert file position ≡ insert_of (read_at (parse file) position) (read_at (parse file) position).bases)
    × (file_first file position ≡ insert_first (read_at (parse file) position))
    × (file_last file position ≡ insert_last (read_at (parse file) position))
insert_of_read file position y a =
    (insert_chosen file position a y, first_chosen file position a y, last_chosen file position a y)

-- "First = max(1, both lefts)": none of the three is above it, and it is one of them
pub first_of_insert : (read : Read)
    → (1 ≤ insert_first read) × (read.quality_left ≤ insert_first read) × (read.adapter_left ≤ insert_first read)
    × ((insert_first read ≡ 1) ⊎ ((insert_first read ≡ read.quality_left) ⊎ (insert_first read ≡ read.adapter_left)))
first_of_insert read = first_is read.quality_left read.adapter_left

-- "Last = min over both rights, a 0 read as N": of the two ends that the right clips stand for, none is below it,
-- and it is one of them
pub last_of_insert : (read : Read) (quality-end adapter-end : ℕ)
    → IsEnd (length read.bases) read.quality_right quality-end
    → IsEnd (length read.bases) read.adapter_right adapter-end
    → (insert_last read ≤ quality-end) × (insert_last read ≤ adapter-end)
    × ((insert_last read ≡ quality-end) ⊎ (insert_last read ≡ adapter-end))
last_of_insert read quality-end adapter-end h k =
    last_is (length read.bases) read.quality_right read.adapter_right quality-end adapter-end h k

-- "If first > last the insert is empty", and else it is not; its bases are the read's from first to last, both counted
-- from 1
pub insert_empty_exactly : (characters : List ℕ) (read : Read) → ValidRead characters read
    → (length (insert_of read read.bases) ≡ 0) ↔ (insert_last read < insert_first read)
insert_empty_exactly characters read valid = insert_empty valid

pub insert_base : (read : Read) (j : ℕ) → insert_first read + j ≤ insert_last read
    → get_or (insert_of read read.bases) j 0 ≡ get_or read.bases (insert_first read + j - 1) 0
insert_base read = insert-at read read.bases

-- "as a stretch of the caller's own file": the part of it from the first to the last of the read's bases there
pub insert_within_bases : (file : List ℕ) (position : ℕ) → Bytes file → position_test file position ≡ Accepted
    → (file_insert file position
    ≡ part ((view_of file position).bases.at + (file_first file position - 1))
    (suc (file_last file position) - file_first file position) file)
    × (file_first file position - 1 + (suc (file_last file position) - file_first file position)
    ≤ (view_of file position).bases.size)
    × (length (file_insert file position) ≡ suc (file_last file position) - file_first file position)
insert_within_bases file position y a =
    let h = insert_inside file position a y in
    (h.0, h.1, insert-length file position y)

-- an insert that is not empty lies within the read
pub insert_within_read : (characters : List ℕ) (read : Read) → ValidRead characters read
    → insert_first read ≤ insert_last read → (1 ≤ insert_first read) × (insert_last read ≤ length read.bases)
insert_within_read characters read valid h = insert-within valid h

-- "Refusals: the file's, 21. The stretch is then empty": the position's test, which is the "second call on the same
-- inputs"
pub position_answers : (file : List ℕ) (position : ℕ)
    → ((n place : ℕ) → file_test file ≡ Refused n place → position_test file position ≡ Refused n place)
    × (file_test file ≡ Accepted → read_count file ≤ position → position_test file position ≡ Refused 21 0)
    × (file_test file ≡ Accepted → position < read_count file → position_test file position ≡ Accepted)
position_answers file position = (
  position_refused file position,
  (λ e h. sym (position_none file position e h)),
  (λ e h. sym (position-there file position e h)),
)

pub refused_insert : (file : List ℕ) (position : ℕ) → (number_of (position_test file position) ≡ 0 → ⊥)
    → file_insert file position ≡ []
unfolding file_insert
refused_insert file position h = refused_or _ _ _ h

-- READING ON. "A fresh state has passed nothing and stands at the header's end, or at 0 if the header is refused":
-- the header length at 24, which is up8(31+F+K)
pub fresh_state : (file : List ℕ) → ((fresh file).passed_reads ≡ 0) × ((fresh file).passed_index ≡ false)
    × (header_test file ≡ Accepted
    → ((fresh file).place ≡ number 2 24 file) × ((fresh file).place ≡ up8 (31 + flows file + key_length file)))
    × ((n place : ℕ) → header_test file ≡ Refused n place → (fresh file).place ≡ 0)
fresh_state file = ((fresh-passed file).0, (fresh-passed file).1, fresh-accepted file, fresh_refused file)

-- "refuses a place beyond the file (1, that place)"; "A step that refuses, with 33 or any other number, gives back
-- its state unmoved"; else it "comes back moved by one read, for every state, forged ones included"
pub step_beyond : (file : List ℕ) (state : State) → header_test file ≡ Accepted → length file < state.place
    → step file state ≡ stop 1 state.place state
step_beyond = place_beyond

pub step_refused : (file : List ℕ) (state next : State) (n place : ℕ) → step file state ≡ stop n place next
    → next ≡ state
step_refused = stop_unmoved

pub step-moved : (file : List ℕ) (state next : State) (view : ReadView) → step file state ≡ found view next
    → next.passed_reads ≡ state.passed_reads + 1
step-moved file state next view e = ap (λ (x : State). x.passed_reads) (found-moved file state next view e)

-- the read that it found: the companion of a view's accessors accepts it, and where that accepts a view, whoever made
-- it, each accessor hands out its part whole (`sff_view`)
pub view_of_step : (file : List ℕ) (state : State) (view : ReadView) (next : State) → Bytes file
    → step file state ≡ found view next → view_test file view ≡ Accepted
view_of_step = found-accepted

pub view_handed_out : (file : List ℕ) (view : ReadView) → view_test file view ≡ Accepted
    → (bytes_in file view.name ≡ part view.name.at view.name.size file)
    × (bytes_in file view.values ≡ part view.values.at view.values.size file)
    × (bytes_in file view.increments ≡ part view.increments.at view.increments.size file)
    × (bytes_in file view.bases ≡ part view.bases.at view.bases.size file)
    × (bytes_in file view.qualities ≡ part view.qualities.at view.qualities.size file)
    × (length (insert_in view (bytes_in file view.bases)) ≡ suc (view_last view) - view_first view)
view_handed_out file view e = (
  (name_whole file view e).0,
  (values_whole file view e).0,
  (increments_whole file view e).0,
  (bases_whole file view e).0,
  (qualities_whole file view e).0,
  insert_whole file view e,
)

-- "From a fresh state an accepted file's reads come in order, each once, then 33; a refused file gives the whole-file
-- test's refusal at last" (`Reader::fresh`, `step`)
pub read_in_order : (file : List ℕ) → file_test file ≡ Accepted → Bytes file → read_back file ≡ (parse file).reads
read_in_order = reads_in_order

pub then_none_left : (file : List ℕ) → file_test file ≡ Accepted
    → last_answer file (suc (read_count file)) (fresh file) ≡ Refused 33 (length file)
then_none_left = then_33

pub refused_at_last : (file : List ℕ)
    → last_answer file (suc (read_count file)) (fresh file) ≡ (file_test file then Refused 33 (length file))
refused_at_last = steps_end

-- SIGNAL SUMMARY "of a read with F ≥ 1: three 64-bit floats, each of one division" (`sff_signal::signal`), of the
-- stored values and F flows
pub record Summarised (values : List ℕ) (F : ℕ) (summary : Summary) : Type 0 where
  -- "the largest and smallest stored value"
  pub most : ℕ
  pub most_stored : In most values
  pub most_bounds : (j : ℕ) → j < length values → get_or values j 0 ≤ most
  pub least : ℕ
  pub least_stored : In least values
  pub least_bounds : (j : ℕ) → j < length values → least ≤ get_or values j 0
  -- "Strongest and weakest are the largest and smallest stored value over 100.0"
  pub strongest : summary.strongest ≡ div binary64 (of_int binary64 (pos most)) (of_int binary64 (pos 100))
  pub weakest : summary.weakest ≡ div binary64 (of_int binary64 (pos least)) (of_int binary64 (pos 100))
  -- "the mean is the exact sum of stored values over the exact 100F"
  pub mean : summary.mean ≡ div binary64 (of_int binary64 (pos (sum ◌+◌ 0 values))) (of_int binary64 (pos (100 * F)))
  -- "whole numbers go to f64 exactly, then one division"
  pub most_exact : HasValue (of_int binary64 (pos most)) false most 1
  pub least_exact : HasValue (of_int binary64 (pos least)) false least 1
  pub sum_exact : HasValue (of_int binary64 (pos (sum ◌+◌ 0 values))) false (sum ◌+◌ 0 values) 1
  pub hundred_exact : HasValue (of_int binary64 (pos 100)) false 100 1
  pub flows_exact : HasValue (of_int binary64 (pos (100 * F))) false (100 * F) 1

summarised : (values : List ℕ) → Words values → 1 ≤ length values → length values < 65536
    → Summarised values (length values) (summary_of values)
unfolding summary_of
summarised values words h l =
    let k = whole_small values words l in
    let e = sum_is values in
    record {
      most = max_of values;
      most_stored = largest_in values h;
      most_bounds = max_bounds values;
      least = min_of values;
      least_stored = smallest_in values h;
      least_bounds = min_bounds values;
      strongest = refl;
      weakest = refl;
      mean = rw e;
      most_exact = exact (max_of values) k.0;
      least_exact = exact (min_of values) k.1;
      sum_exact = rw e at (exact (sum_of values) k.2);
      hundred_exact = exact 100 (omega arith);
      flows_exact = exact (100 * length values) k.3;
    }

pub signal_of_read : (file : List ℕ) (position : ℕ) → Bytes file → signal_test file position ≡ Accepted
    → (length (read_at (parse file) position).values ≡ number 2 28 file)
    × Summarised (read_at (parse file) position).values (number 2 28 file) (file_signal file position)
signal_of_read file position y a =
    let p = signal-position file position a in
    let e = position-file file position p in
    let valid = read_keeps file y e position (position-below file position p) in
    let c : length (read_at (parse file) position).values ≡ flows file =
    valid.values_count ∙ characters-length file (head_ok file e) in
    let m = signal-flows file position a in
    let l = flows_small file position a y in (
      c,
      rw (signal_is file position a, ← c)
          (summarised (read_at (parse file) position).values valid.values_fit (omega arith) (omega arith)),
    )

-- "Refusals: the file's, 21, 32; all three are then 0.0"
pub signal_answers : (file : List ℕ) (position : ℕ)
    → ((n place : ℕ) → position_test file position ≡ Refused n place → signal_test file position ≡ Refused n place)
    × (position_test file position ≡ Accepted → number 2 28 file ≡ 0 → signal_test file position ≡ Refused 32 0)
    × (position_test file position ≡ Accepted → 1 ≤ number 2 28 file → signal_test file position ≡ Accepted)
signal_answers file position = (
  signal_refused file position,
  (λ e h. sym (signal_none file position e h)),
  (λ e h. sym (signal-there file position e (λ z. let k = h in omega arith))),
)

pub refused_signal : (file : List ℕ) (position : ℕ) → (number_of (signal_test file position) ≡ 0 → ⊥)
    → file_signal file position
    ≡ record { strongest = fin false 0 (pos 0); weakest = fin false 0 (pos 0); mean = fin false 0 (pos 0) }
unfolding file_signal
refused_signal file position h = refused_or _ _ _ h

-- E's: 2.0, 0.0 and "Mean signal 0.75", which is 3 over 4
pub signal-of-E : file_signal e_bytes 0
    ≡ record { strongest = fin false 1 (pos 1); weakest = fin false 0 (pos 0); mean = fin false 3 (negsuc 1) }
signal-of-E = signal-in-E
