-- A list's records in their turn: what the records before one have left, and that it is judged and carried out on that.
-- Assumes nothing.
use Prim.Native.Nat.{ℕ, zero, suc, ◌+◌, ◌*◌, ◌/◌, ◌%◌, ◌≤◌, ◌<◌}
use mathlib.Core.Path.{◌≡◌, refl, sym, ap, ◌∙◌}
use mathlib.Core.Bool.{Bool, true, false}
use mathlib.Core.Logic.{◌↔◌}
use mathlib.Core.List.{List}
use native.Mathlib.Omega.{arith}
use borrow.Author.Tests.{le-ltb, lt-ltb, leb-true, leb-false, eqb-true, eqb-false}
use lib.Dec.{leb, eqb}
use lib.ListN.{length, take, drop}
use lib.Seq.{length-take-le}
use Rattle.octets.specs.Parts.{filled, filled_front}
use Rattle.octets.specs.Numbers.{Bytes}
use Rattle.octets.proofs.Lists.{part-take}
use Rattle.octets.proofs.AllBytes.{bytes_both, bytes_drop, bytes-filled}
use Rattle.octets.proofs.FilledFront.{take_filled_front, length_filled_front, filled_front_again}
use Rattle.answers.specs.Answer.{Answer, Accepted, Refused}
use Rattle.answers.specs.Reasons.{NoneHolds, FirstHolds}
use Rattle.sff_format.specs.Model.{File, layout}
use Rattle.sff_format.specs.Valid.{Valid, IsFile}
use Rattle.sff_format.specs.FileTest.{file_test}
use Rattle.sff_format.specs.Parse.{parse}
use Rattle.sff_format.proofs.Format.{accepted}
use Rattle.sff_format.proofs.FileTaken.{file-back}
use Rattle.correction_format.specs.Correction.{Correction}
use Rattle.correction_format.specs.Edit.{edited}
use Rattle.correction_format.specs.InOrder.{reasons_against}
use Rattle.correction_format.specs.Correct.{correct_test, corrected, file_replaced, correct_outcome, correct_buffer}
use Rattle.correction_format.specs.ListRun.{record_at, first_records, Run, ran, turns, run_list}
use Rattle.correction_format.specs.ListModel.{correction_at, file_after, reason_for, first_refused, greatest, last_tried, reasons_in_turn, run_on}
use Rattle.correction_format.proofs.ListTurns.{turn_on, turn_stop, list_20, list_run}
use Rattle.correction_format.proofs.ListClaim.{Held, held_more, list_claim, stop-most, stop-before, stop-first, stop_refused, held_test, held_new, start_held, none_before, first-most, one_at, turns_claim}
use Rattle.correction_format.proofs.Carried.{done-outcome, done-buffer}

-- a run looks at no record behind its last
turns_alike : (m k : ℕ) (b : List ℕ) (len : ℕ) (l l' : List ℕ) → ((j : ℕ) → j < k + m → record_at j l ≡ record_at j l') → turns m k b len l ≡ turns m k b len l'
unfolding turns
turns_alike zero k b len l l' e = refl
turns_alike (suc m) k b len l l' e =
    let r = record_at k l' in
    rw (e k (omega arith), turns_alike m (suc k) (correct_buffer b len r) (correct_outcome b len r).length l l' (λ j h. e j (omega arith)))

-- the call with the first k records alone is the run of these
pub first_run : (k : ℕ) (b : List ℕ) (len : ℕ) (l : List ℕ) → k ≤ length l / 96 → run_list b len (first_records k l) ≡ turns k 0 b len l
unfolding run_list
first_run k b len l h =
    let i : 96 * k ≤ length l = omega (arith, h) in
    let n : length (first_records k l) ≡ 96 * k = length-take-le (96 * k) l i in
    let w : length (first_records k l) % 96 ≡ 0 = rw n (omega arith) in
    let d : length (first_records k l) / 96 ≡ k = rw n (omega arith) in
    rw (w, d, turns_alike k 0 b len (first_records k l) l (λ j q. part-take (96 * j) 96 (96 * k) l (omega arith) i))

-- "The first refusal ends it; earlier ones stand": a run leaves the buffer as those of its records that were carried
-- out do, on any buffer
pub record Earlier (m k : ℕ) (b : List ℕ) (len : ℕ) (l : List ℕ) : Type 0 where
  pub done : ℕ
  pub counted : (turns m k b len l).outcome.count ≡ k + done
  pub most : done ≤ m
  pub stand : (turns m k b len l).buffer ≡ (turns done k b len l).buffer

earlier_stand : (m k : ℕ) (b : List ℕ) (len : ℕ) (l : List ℕ) → Earlier m k b len l
unfolding turns
earlier_stand zero k b len l = record { done = 0; counted = omega arith; most = omega arith; stand = refl }
earlier_stand (suc m) k b len l =
    go (correct_test b len (record_at k l)) refl (earlier_stand m (suc k) (file_replaced (corrected b len (record_at k l)) len b) (length (corrected b len (record_at k l))) l)
  where
    go : (a : Answer) → correct_test b len (record_at k l) ≡ a → Earlier m (suc k) (file_replaced (corrected b len (record_at k l)) len b) (length (corrected b len (record_at k l))) l
        → Earlier (suc m) k b len l
    go Accepted x ih =
        record {
          done = suc ih.done;
          counted = ap (λ (v : Run). v.outcome.count) (turn_on m k b len l x) ∙ omega (arith, ih.counted);
          most = omega (arith, ih.most);
          stand = ap (λ (v : Run). v.buffer) (turn_on m k b len l x) ∙ ih.stand ∙ sym (ap (λ (v : Run). v.buffer) (turn_on ih.done k b len l x));
        }
    go (Refused n p) x ih = record {
      done = 0;
      counted = ap (λ (v : Run). v.outcome.count) (turn_stop m k b len l n p x) ∙ omega arith;
      most = omega arith;
      stand = ap (λ (v : Run). v.buffer) (turn_stop m k b len l n p x);
    }

pub earlier_left : (buffer : List ℕ) (len : ℕ) (list : List ℕ)
    → (run_list buffer len list).buffer
    ≡ (run_list buffer len (first_records (run_list buffer len list).outcome.count list)).buffer
unfolding turns
earlier_left buffer len list = go (eqb (length list % 96) 0) refl
  where
    go : (t : Bool) → eqb (length list % 96) 0 ≡ t
        → (run_list buffer len list).buffer
        ≡ (run_list buffer len (first_records (run_list buffer len list).outcome.count list)).buffer
    go true t =
        let s = earlier_stand (length list / 96) 0 buffer len list in
        let r = list_run buffer len list (eqb-true (length list % 96) 0 t) in
        let c : (run_list buffer len list).outcome.count ≡ s.done = ap (λ (v : Run). v.outcome.count) r ∙ s.counted ∙ omega arith in
        ap (λ (v : Run). v.buffer) r ∙ s.stand
        ∙ sym (rw c (ap (λ (v : Run). v.buffer) (first_run s.done buffer len list s.most)))
    go false t =
        let r = list_20 buffer len list (eqb-false (length list % 96) 0 t) in
        ap (λ (v : Run). v.buffer) r ∙ sym (rw (ap (λ (v : Run). v.outcome.count) r) (ap (λ (v : Run). v.buffer) (first_run 0 buffer len list (omega arith))))

-- a record in its turn is answered by its own reasons on the model, and carried out leaves the model's next file
module _ (k : ℕ) (b l : List ℕ) (f : File) (s : Held k b l f) where
  abbrev there : List ℕ
  there = filled_front (layout (file_after k (correction_at l) f)) (greatest k (correction_at l) f) b

  abbrev size : ℕ
  size = length (layout (file_after k (correction_at l) f))

  held_answer : (correct_outcome there size (record_at k l)).answer ≡ reason_for (length b) k l f
  unfolding correct_outcome
  held_answer = held_test 0 k b l f s

  module _ (e : reason_for (length b) k l f ≡ Accepted) where
    held_length : (correct_outcome there size (record_at k l)).length ≡ length (layout (file_after (suc k) (correction_at l) f))
    held_length = rw (done-outcome there size (record_at k l) (held_test 0 k b l f s ∙ e), held_new 0 k b l f s)

    held_buffer : correct_buffer there size (record_at k l) ≡ filled_front (layout (file_after (suc k) (correction_at l) f)) (greatest (suc k) (correction_at l) f) b
    unfolding greatest
    held_buffer =
        done-buffer there size (record_at k l) (held_test 0 k b l f s ∙ e)
        ∙ rw (held_new 0 k b l f s, filled_front_again (layout (file_after (suc k) (correction_at l) f)) (layout (file_after k (correction_at l) f)) (greatest k (correction_at l) f) b s.low)

-- records keep the header's characters and any index
pub header_kept : (k : ℕ) (cs : ℕ → Correction) (content : File)
    → ((file_after k cs content).flow_characters ≡ content.flow_characters)
    × ((file_after k cs content).key ≡ content.key) × ((file_after k cs content).index ≡ content.index)
unfolding file_after edited
header_kept zero cs content = (refl, refl, refl)
header_kept (suc k) cs content = header_kept k cs content

-- what the model's file leaves are bytes
bytes_laid : (f : File) → Valid f → Bytes (layout f)
bytes_laid f v = ((accepted (layout f)).1 (f, v, refl)).0

-- on an accepted file
module _ (buffer : List ℕ) (len : ℕ) (list : List ℕ) (y : Bytes buffer) (z : Bytes list) (h : len ≤ length buffer) (e : file_test (take len buffer) ≡ Accepted) where
  abbrev content : File
  content = parse (take len buffer)

  held_upto : (all k : ℕ) → k ≤ first_refused all 0 (length buffer) list content → Held k buffer list content
  held_upto all zero i = (start_held buffer len list y z h e).2
  held_upto all (suc k) i =
      held_more k buffer list content z (held_upto all k (omega arith))
      (none_before (length buffer) list content all 0 k (omega arith) (omega arith))

  first_short : (all k : ℕ) → k ≤ first_refused all 0 (length buffer) list content
      → first_refused k 0 (length buffer) list content ≡ k
  first_short all k i = go (leb k (first_refused k 0 (length buffer) list content)) refl
    where
      go : (t : Bool) → leb k (first_refused k 0 (length buffer) list content) ≡ t
          → first_refused k 0 (length buffer) list content ≡ k
      go true t = let a = leb-true k (first_refused k 0 (length buffer) list content) t in let m = first-most (length buffer) list content k 0 in omega (arith, a, m)
      go false t =
          let a = leb-false k (first_refused k 0 (length buffer) list content) t in
          absurd (one_at (length buffer) list content k 0 (omega (arith, a)) (none_before (length buffer) list content all 0 (first_refused k 0 (length buffer) list content) (omega arith) (omega (arith, a))))

  -- what the first k records leave, of those before the first for which a reason holds
  before_is : (k : ℕ) → k ≤ first_refused (length list / 96) 0 (length buffer) list content
      → run_list buffer len (first_records k list)
      ≡ ran k Accepted (length (layout (file_after k (correction_at list) content)))
      (filled_front (layout (file_after k (correction_at list) content)) (greatest k (correction_at list) content) buffer)
  unfolding last_tried
  before_is k i =
      let m = first-most (length buffer) list content (length list / 96) 0 in
      first_run k buffer len list (omega (arith, m)) ∙ turns_claim buffer len list y z h e k
      ∙ rw (first_short (length list / 96) k i, le-ltb k k (omega arith))

  -- of a whole list: the count, and each record up to it in its turn
  module _ (w : length list % 96 ≡ 0) where
    abbrev all : ℕ
    all = length list / 96

    abbrev count : ℕ
    count = (run_list buffer len list).outcome.count

    abbrev before : ℕ → Run
    before k = run_list buffer len (first_records k list)

    run_is : run_list buffer len list ≡ run_on all (first_refused all 0 (length buffer) list content) buffer list content
    run_is = list_claim buffer len list y z h e w

    count_is : count ≡ first_refused all 0 (length buffer) list content
    count_is = ap (λ (x : Run). x.outcome.count) run_is

    answer_is : (run_list buffer len list).outcome.answer
        ≡ last_tried all (first_refused all 0 (length buffer) list content) (length buffer) list content
    answer_is = ap (λ (x : Run). x.outcome.answer) run_is

    pub count_most : count ≤ all
    count_most = rw count_is (stop-most (length buffer) list content all z)

    pub none_of_carried : (k : ℕ) → k < count → NoneHolds (reasons_in_turn (length buffer) k list content)
    none_of_carried k i = stop-before (length buffer) list content all z k (rw count_is at i)

    pub some_of_refused : count < all → NoneHolds (reasons_in_turn (length buffer) count list content) → ⊥
    some_of_refused = rw count_is (stop_refused (length buffer) list content all z)

    pub first_of_refused : count < all
        → FirstHolds (reasons_in_turn (length buffer) count list content) (run_list buffer len list).outcome.answer
    first_of_refused = rw (answer_is, count_is) (stop-first (length buffer) list content all z)

    pub all_carried : count ≡ all → (run_list buffer len list).outcome.answer ≡ Accepted
    unfolding last_tried
    all_carried i =
        rw (answer_is, le-ltb (first_refused all 0 (length buffer) list content) all (omega (arith, sym i ∙ count_is)))

    -- what the list leaves is what the records that were carried out leave
    pub run_leaves : ((run_list buffer len list).outcome.length ≡ (before count).outcome.length)
        × ((run_list buffer len list).buffer ≡ (before count).buffer)
    run_leaves = let p = before_is count (omega (arith, count_is)) in (rw (p, count_is, run_is), rw (p, count_is, run_is))

    -- each record up to the count meets the file as those before it left it
    module _ (k : ℕ) (i : k ≤ count) where
      held : Held k buffer list content
      held = held_upto all k (omega (arith, count_is))

      here : before k
          ≡ ran k Accepted (length (layout (file_after k (correction_at list) content)))
          (filled_front (layout (file_after k (correction_at list) content)) (greatest k (correction_at list) content) buffer)
      here = before_is k (omega (arith, count_is))

      pub valid_in_turn : Valid (file_after k (correction_at list) content)
      valid_in_turn = held.valid

      pub room_in_turn : length (before k).buffer ≡ length buffer
      room_in_turn = rw here (length_filled_front (layout (file_after k (correction_at list) content)) (greatest k (correction_at list) content) buffer held.low held.high)

      pub file_in_turn : take (before k).outcome.length (before k).buffer
          ≡ layout (file_after k (correction_at list) content)
      file_in_turn = rw here (take_filled_front (layout (file_after k (correction_at list) content)) (greatest k (correction_at list) content) buffer)

      pub inside_in_turn : (before k).outcome.length ≤ length buffer
      inside_in_turn = let s = held in rw here (omega (arith, s.low, s.high))

      pub bytes_in_turn : Bytes (before k).buffer
      unfolding filled_front
      bytes_in_turn =
          rw here
          (bytes_both (filled (greatest k (correction_at list) content) (layout (file_after k (correction_at list) content))) (drop (greatest k (correction_at list) content) buffer)
          (bytes-filled (greatest k (correction_at list) content) (layout (file_after k (correction_at list) content)) (bytes_laid (file_after k (correction_at list) content) valid_in_turn)) (bytes_drop (greatest k (correction_at list) content) buffer y))

      -- so 14 and the file's refusal hold of none in its turn, and its other reasons are those on that file
      pub reasons_in_turn_lem : NoneHolds (reasons_against (before k).buffer (before k).outcome.length (record_at k list))
          ↔ NoneHolds (reasons_in_turn (length buffer) k list content)
      reasons_in_turn_lem =
          let p : parse (take (before k).outcome.length (before k).buffer) ≡ file_after k (correction_at list) content = rw file_in_turn (file-back (file_after k (correction_at list) content) valid_in_turn) in
          let o : IsFile (take (before k).outcome.length (before k).buffer) = rw file_in_turn (file_after k (correction_at list) content, valid_in_turn, refl) in (
            (λ n. (n.1.0, rw (room_in_turn, p) at n.1.1.1)),
            (λ n. ((λ q. omega (arith, inside_in_turn, room_in_turn, q)), (n.0, ((λ q. q o), rw (room_in_turn, p) n.1)))),
          )

    -- and is carried out on it, the next one on what it leaves; the first that is refused ends the list
    pub on_in_turn : (k : ℕ) → k < count
        → before (suc k)
        ≡ ran (suc k) Accepted
        (correct_outcome (before k).buffer (before k).outcome.length (record_at k list)).length
        (correct_buffer (before k).buffer (before k).outcome.length (record_at k list))
    on_in_turn k i =
        let s = held k (omega arith) in
        let a = none_before (length buffer) list content all 0 k (omega arith) (omega (arith, count_is)) in
        here (suc k) (omega arith)
        ∙ rw (here k (omega arith), held_length k buffer list content s a, held_buffer k buffer list content s a)

    pub stop_in_turn : count < all
        → run_list buffer len list
        ≡ ran count
        (correct_outcome (before count).buffer (before count).outcome.length (record_at count list)).answer
        (before count).outcome.length (before count).buffer
    unfolding last_tried
    stop_in_turn i =
        let s = held count (omega arith) in
        run_is
        ∙ rw (sym count_is, lt-ltb count all i, here count (omega arith), held_answer count buffer list content s)

    -- the file that the list leaves
    pub list_file : take (run_list buffer len list).outcome.length (run_list buffer len list).buffer
        ≡ layout (file_after count (correction_at list) content)
    list_file = rw (run_leaves.0, run_leaves.1) (file_in_turn count (omega arith))
