-- One claim over every list of whole records on any accepted file: the whole answer and the whole buffer, over the
-- model of the file. Assumes nothing.
use Prim.Native.Nat.{ℕ, zero, suc, ◌+◌, ◌-◌, ◌*◌, ◌/◌, ◌%◌, ◌≤◌, ◌<◌}
use mathlib.Core.Path.{◌≡◌, refl, sym, ap, ◌∙◌}
use mathlib.Core.Bool.{Bool, true, false, cond, not}
use mathlib.Core.List.{List}
use native.Mathlib.Omega.{arith}
use borrow.Author.Tests.{lt-ltb, le-ltb, leb-true, leb-false, eqb-true, eqb-false}
use lib.Dec.{ltb, leb, eqb}
use lib.ListN.{length, take}
use lib.Seq.{length-take-le}
use Rattle.octets.specs.Parts.{filled_front}
use Rattle.octets.specs.Numbers.{Bytes}
use Rattle.octets.proofs.AllBytes.{bytes_take, bytes-part}
use Rattle.octets.proofs.FilledFront.{take_filled_front, length_filled_front, filled_front_front, filled_front_again}
use Rattle.answers.specs.Answer.{Answer, Accepted, Refused, accepted_or, when, ◌then◌, among, Among}
use Rattle.answers.specs.Reasons.{NoneHolds, FirstHolds}
use Rattle.sff_format.specs.Model.{File, layout}
use Rattle.sff_format.specs.Valid.{Valid}
use Rattle.sff_format.specs.FileTest.{file_test}
use Rattle.sff_format.specs.Parse.{parse}
use Rattle.answers.proofs.Answers.{first-ok, second-ok, not-accepted, then_assoc, under_ok, either_keeps}
use Rattle.answers.proofs.Reasons.{Judged, chain_judged, none_accepted}
use Rattle.sff_format.proofs.FileLaid.{file_laid, file_valid}
use Rattle.sff_format.proofs.FileTaken.{file_taken, file-back}
use Rattle.correction_format.specs.Record.{record_test}
use Rattle.correction_format.specs.RecordLayout.{parse_record}
use Rattle.correction_format.specs.Edit.{edited}
use Rattle.correction_format.specs.Reasons.{reasons}
use Rattle.correction_format.specs.Correct.{correct_test, corrected, correct_outcome, correct_buffer}
use Rattle.correction_format.specs.Numbers.{correct_numbers}
use Rattle.correction_format.specs.ListRun.{record_at, Run, ran, turns, run_list}
use Rattle.correction_format.specs.ListModel.{correction_at, file_after, reason_for, first_refused, greatest, last_tried, run_on, reasons_in_turn, first_test, list_afresh}
use Rattle.correction_format.proofs.RecordsLaid.{parsed_valid}
use Rattle.correction_format.proofs.Edited.{reasons_room, edited_valid}
use Rattle.correction_format.proofs.ListTurns.{turn_on, turn_stop, list_20, list_run, list_none}
use Rattle.correction_format.proofs.InOrder.{record_tests, reasons-judged, correct-numbers}

-- on a buffer that holds a file that keeps the rules, the tests are those over the model
module _ (f : File) (m : ℕ) (b : List ℕ) (v : Valid f) (h : length (layout f) ≤ m) (i : m ≤ length b) (r : List ℕ) where
  model_test : correct_test (filled_front (layout f) m b) (length (layout f)) r ≡ (record_test r then reasons (length b) (parse_record r) f)
  unfolding correct_test ◌then◌ when
  model_test =
      let n : length (filled_front (layout f) m b) ≡ length b = length_filled_front (layout f) m b h i in
      let l : ltb (length b) (length (layout f)) ≡ false = le-ltb (length b) (length (layout f)) (omega arith) in
      rw (n, l, take_filled_front (layout f) m b, file_taken f v, file-back f v)

  model_new : corrected (filled_front (layout f) m b) (length (layout f)) r ≡ layout (edited (parse_record r) f)
  model_new = rw (take_filled_front (layout f) m b, file-back f v)

-- the state of a run after k records
pub record Held (k : ℕ) (b l : List ℕ) (f : File) : Type 0 where
  pub valid : Valid (file_after k (correction_at l) f)
  pub low : length (layout (file_after k (correction_at l) f)) ≤ greatest k (correction_at l) f
  pub high : greatest k (correction_at l) f ≤ length b

pub held_more : (k : ℕ) (b l : List ℕ) (f : File) → Bytes l → Held k b l f → reason_for (length b) k l f ≡ Accepted → Held (suc k) b l f
unfolding file_after reason_for greatest
held_more k b l f y s e =
    let q = first-ok _ _ e in
    let o = second-ok _ _ e in
    let n = reasons_room (length b) (correction_at l k) (file_after k (correction_at l) f) o in
    let g = s.low in
    let x = s.high in
    record {
      valid = edited_valid (length b) (correction_at l k) (file_after k (correction_at l) f) o (parsed_valid (record_at k l) (bytes-part (96 * k) 96 l y) q) s.valid;
      low = omega arith;
      high = omega arith;
    }

module _ (m k : ℕ) (b l : List ℕ) (f : File) (s : Held k b l f) where
  -- the buffer after k records
  abbrev pub now : List ℕ
  now = filled_front (layout (file_after k (correction_at l) f)) (greatest k (correction_at l) f) b

  pub held_test : correct_test now (length (layout (file_after k (correction_at l) f))) (record_at k l) ≡ reason_for (length b) k l f
  unfolding reason_for
  held_test = model_test (file_after k (correction_at l) f) (greatest k (correction_at l) f) b s.valid s.low s.high (record_at k l)

  pub held_new : corrected now (length (layout (file_after k (correction_at l) f))) (record_at k l) ≡ layout (file_after (suc k) (correction_at l) f)
  unfolding file_after
  held_new = model_new (file_after k (correction_at l) f) (greatest k (correction_at l) f) b s.valid s.low s.high (record_at k l)

  step_on : reason_for (length b) k l f ≡ Accepted
      → turns (suc m) k now (length (layout (file_after k (correction_at l) f))) l
      ≡ turns m (suc k) (filled_front (layout (file_after (suc k) (correction_at l) f)) (greatest (suc k) (correction_at l) f) b) (length (layout (file_after (suc k) (correction_at l) f))) l
  unfolding greatest
  step_on e =
      turn_on m k now (length (layout (file_after k (correction_at l) f))) l (held_test ∙ e)
      ∙ rw (held_new, filled_front_again (layout (file_after (suc k) (correction_at l) f)) (layout (file_after k (correction_at l) f)) (greatest k (correction_at l) f) b s.low)

  step-stop : (all n p : ℕ) → k < all → reason_for (length b) k l f ≡ Refused n p → turns (suc m) k now (length (layout (file_after k (correction_at l) f))) l ≡ run_on all k b l f
  unfolding last_tried
  step-stop all n p h e = turn_stop m k now (length (layout (file_after k (correction_at l) f))) l n p (held_test ∙ e) ∙ rw (lt-ltb k all h, e)

turns_are : (m k : ℕ) (b l : List ℕ) (f : File) (all : ℕ) → Bytes l → all ≡ k + m → Held k b l f
    → turns m k (filled_front (layout (file_after k (correction_at l) f)) (greatest k (correction_at l) f) b) (length (layout (file_after k (correction_at l) f))) l ≡ run_on all (first_refused m k (length b) l f) b l f
unfolding turns first_refused last_tried accepted_or
turns_are zero k b l f all y e s = rw (le-ltb k all (omega arith))
turns_are (suc m) k b l f all y e s = go (reason_for (length b) k l f) refl (turns_are m (suc k) b l f all y (omega arith))
  where
    go : (a : Answer) → reason_for (length b) k l f ≡ a
        → (Held (suc k) b l f → turns m (suc k) (filled_front (layout (file_after (suc k) (correction_at l) f)) (greatest (suc k) (correction_at l) f) b) (length (layout (file_after (suc k) (correction_at l) f))) l ≡ run_on all (first_refused m (suc k) (length b) l f) b l f)
        → turns (suc m) k (filled_front (layout (file_after k (correction_at l) f)) (greatest k (correction_at l) f) b) (length (layout (file_after k (correction_at l) f))) l ≡ run_on all (accepted_or a (first_refused m (suc k) (length b) l f) k) b l f
    go Accepted x ih = step_on m k b l f s x ∙ ih (held_more k b l f y s x)
    go (Refused n p) x ih = step-stop m k b l f s all n p (omega arith) x

-- of the first m records of a list on an accepted file, those before the first for which a reason holds in its turn are
-- carried out, and no others. The count is how many; the answer is that reason, or none; the file is written afresh as
-- these records have left its reads, then zeros up to the greatest length that it had, and the rest as it was
module _ (b : List ℕ) (len : ℕ) (l : List ℕ) (y : Bytes b) (z : Bytes l) (h : len ≤ length b) (e : file_test (take len b) ≡ Accepted) where
  abbrev start : File
  start = parse (take len b)

  pub start_held : (length (layout start) ≡ len) × (filled_front (layout start) (length (layout start)) b ≡ b) × Held 0 b l start
  unfolding file_after greatest
  start_held =
      let laid : layout start ≡ take len b = file_laid (take len b) (bytes_take len b y) e in
      let n : length (layout start) ≡ len = ap length laid ∙ length-take-le len b h in
      (n, rw n (filled_front_front (layout start) len b (sym laid) h), record { valid = file_valid (take len b) (bytes_take len b y) e; low = omega arith; high = omega arith })

  pub turns_claim : (m : ℕ) → turns m 0 b len l ≡ run_on m (first_refused m 0 (length b) l start) b l start
  unfolding file_after greatest
  turns_claim m =
      let s = start_held in
      ap (λ (i : ℕ). turns m 0 b i l) (sym s.0) ∙ ap (λ (x : List ℕ). turns m 0 x (length (layout start)) l) (sym s.1)
      ∙ turns_are m 0 b l start m z (omega arith) s.2

  -- The claim on a whole list
  pub list_claim : length l % 96 ≡ 0 → run_list b len l ≡ run_on (length l / 96) (first_refused (length l / 96) 0 (length b) l start) b l start
  list_claim w = list_run b len l w ∙ turns_claim (length l / 96)

-- `first_refused` is what its name says: it is at most the end, no reason holds before it, and one holds at it unless it
-- is the end
module _ (room : ℕ) (l : List ℕ) (f : File) where
  pub first-most : (m k : ℕ) → first_refused m k room l f ≤ k + m
  unfolding first_refused accepted_or
  first-most zero k = omega arith
  first-most (suc m) k = go (reason_for room k l f) (first-most m (suc k))
    where
      go : (a : Answer) → first_refused m (suc k) room l f ≤ suc k + m → accepted_or a (first_refused m (suc k) room l f) k ≤ k + suc m
      go Accepted h = omega arith
      go (Refused n p) h = omega arith

  pub none_before : (m k j : ℕ) → k ≤ j → j < first_refused m k room l f → reason_for room j l f ≡ Accepted
  unfolding first_refused accepted_or
  none_before zero k j h i = absurd (let a : ⊥ = omega arith in a)
  none_before (suc m) k j h i = go (reason_for room k l f) refl i (leb j k) refl (none_before m (suc k) j)
    where
      go : (a : Answer) → reason_for room k l f ≡ a → j < accepted_or a (first_refused m (suc k) room l f) k → (t : Bool) → leb j k ≡ t
          → (suc k ≤ j → j < first_refused m (suc k) room l f → reason_for room j l f ≡ Accepted) → reason_for room j l f ≡ Accepted
      go Accepted x y true t ih = let w = leb-true j k t in let q : j ≡ k = omega arith in rw q x
      go Accepted x y false t ih = let w = leb-false j k t in ih (omega arith) y
      go (Refused n p) x y t q ih = absurd (let a : ⊥ = omega arith in a)

  pub one_at : (m k : ℕ) → first_refused m k room l f < k + m → reason_for room (first_refused m k room l f) l f ≡ Accepted → ⊥
  unfolding first_refused accepted_or
  one_at zero k h e = omega arith
  one_at (suc m) k h e = go (reason_for room k l f) refl h e (one_at m (suc k))
    where
      go : (a : Answer) → reason_for room k l f ≡ a → accepted_or a (first_refused m (suc k) room l f) k < k + suc m → reason_for room (accepted_or a (first_refused m (suc k) room l f) k) l f ≡ Accepted
          → (first_refused m (suc k) room l f < suc k + m → reason_for room (first_refused m (suc k) room l f) l f ≡ Accepted → ⊥) → ⊥
      go Accepted x y z ih = ih (omega arith) z
      go (Refused n p) x y z ih = not-accepted n p (sym x ∙ z)

-- a record's reasons in its turn, in words of the model
pub turn_judged : (room k : ℕ) (l : List ℕ) (f : File) → Bytes l → Judged (reasons_in_turn room k l f) (reason_for room k l f)
unfolding reason_for
turn_judged room k l f y =
    chain_judged _ _ _ _ (record_tests (record_at k l) (bytes-part (96 * k) 96 l y)) (λ e. reasons-judged room (correction_at l k) (file_after k (correction_at l) f))

-- any list on any buffer with any stated length
module _ (buffer : List ℕ) (len : ℕ) (list : List ℕ) where
  first_then : correct_test buffer len (record_at 0 list)
      ≡ (first_test buffer len list then reasons (length buffer) (correction_at list 0) (parse (take len buffer)))
  unfolding correct_test first_test
  first_then =
      sym (then_assoc _ _ _ ∙ ap (λ (a : Answer). when (ltb (length buffer) len) 14 0 then a) (then_assoc _ _ _))

  first-inside : first_test buffer len list ≡ Accepted → len ≤ length buffer
  unfolding first_test
  first-inside e = under_ok _ _ _ _ (first-ok _ _ e)

  first-file : first_test buffer len list ≡ Accepted → file_test (take len buffer) ≡ Accepted
  unfolding first_test
  first-file e = second-ok _ _ (second-ok _ _ e)

  first-stop : (m : ℕ) → length list / 96 ≡ suc m → length list % 96 ≡ 0 → (n p : ℕ)
      → first_test buffer len list ≡ Refused n p → run_list buffer len list ≡ ran 0 (Refused n p) len buffer
  unfolding ◌then◌
  first-stop m e w n p t = list_run buffer len list w ∙ rw e (turn_stop m 0 buffer len list n p (first_then ∙ rw t))

  pub every_list : Bytes buffer → Bytes list → run_list buffer len list ≡ list_afresh buffer len list
  unfolding list_afresh accepted_or
  every_list y z = go (eqb (length list % 96) 0) refl (eqb (length list) 0) refl (first_test buffer len list) refl
    where
      after : Run
      after =
          run_on (length list / 96)
          (first_refused (length list / 96) 0 (length buffer) list (parse (take len buffer))) buffer list
          (parse (take len buffer))

      go : (s : Bool) → eqb (length list % 96) 0 ≡ s → (t : Bool) → eqb (length list) 0 ≡ t → (a : Answer)
          → first_test buffer len list ≡ a
          → run_list buffer len list
          ≡ cond (not s) (ran 0 (Refused 20 0) len buffer)
          (cond t (ran 0 Accepted len buffer) (accepted_or a after (ran 0 a len buffer)))
      go false e t d a c = list_20 buffer len list (eqb-false (length list % 96) 0 e)
      go true e true d a c =
          let x = eqb-true (length list) 0 d in
          list_none buffer len list (eqb-true (length list % 96) 0 e) (rw x)
      go true e false d Accepted c =
          list_claim buffer len list y z (first-inside c) (first-file c) (eqb-true (length list % 96) 0 e)
      go true e false d (Refused n p) c =
          let w = eqb-true (length list % 96) 0 e in
          let x = eqb-false (length list) 0 d in
          first-stop (length list / 96 - 1) (omega (arith, w, x)) w n p c

-- the number of records that are carried out on an accepted file, by the reasons in words of the model: none holds of a
-- record before it, and one holds of the record at it
module _ (room : ℕ) (l : List ℕ) (f : File) (all : ℕ) (y : Bytes l) where
  abbrev stop : ℕ
  stop = first_refused all 0 room l f

  pub stop-most : stop ≤ all
  stop-most = let h = first-most room l f all 0 in omega (arith, h)

  pub stop-before : (j : ℕ) → j < stop → NoneHolds (reasons_in_turn room j l f)
  stop-before j h = (turn_judged room j l f y).none (none_before room l f all 0 j (omega arith) h)

  pub stop-first : stop < all → FirstHolds (reasons_in_turn room stop l f) (last_tried all stop room l f)
  unfolding last_tried
  stop-first h = rw (lt-ltb stop all h) (turn_judged room stop l f y).first

  pub stop_refused : stop < all → NoneHolds (reasons_in_turn room stop l f) → ⊥
  stop_refused h n = one_at room l f all 0 (omega (arith, h)) (none_accepted (reasons_in_turn room stop l f) (reason_for room stop l f) (turn_judged room stop l f y).first n)

-- a list's answer has the number of a correction's
turns-numbers : (m k : ℕ) (b : List ℕ) (len : ℕ) (l : List ℕ) → Among correct_numbers (turns m k b len l).outcome.answer
unfolding turns correct_outcome
turns-numbers zero k b len l = tt
turns-numbers (suc m) k b len l =
    let r = record_at k l in
    let o = correct_outcome b len r in
    either_keeps (λ (v : Run). Among correct_numbers v.outcome.answer) (correct_test b len r) (turns m (suc k) (correct_buffer b len r) o.length l) (ran k o.answer o.length (correct_buffer b len r))
    (turns-numbers m (suc k) (correct_buffer b len r) o.length l) (correct-numbers b len r)

pub list_numbers : (buffer : List ℕ) (len : ℕ) (list : List ℕ)
    → Among correct_numbers (run_list buffer len list).outcome.answer
unfolding run_list among
list_numbers buffer len list = go (eqb (length list % 96) 0)
  where
    go : (t : Bool)
        → Among correct_numbers
        (cond t (turns (length list / 96) 0 buffer len list) (ran 0 (Refused 20 0) len buffer)).outcome.answer
    go true = turns-numbers (length list / 96) 0 buffer len list
    go false = refl
