-- One record after another: what a carried_out record leaves for the next, and the loop over a list. Assumes nothing.
use Prim.Native.Nat.{ℕ, suc, ◌+◌, ◌-◌, ◌*◌, ◌/◌, ◌%◌, ◌≤◌, ◌<◌}
use mathlib.Core.Path.{◌≡◌, sym, ap, ◌∙◌}
use mathlib.Core.Bool.{Bool, true}
use mathlib.Core.List.{List}
use native.Mathlib.Omega.{arith}
use native.Mathlib.Numerals.{add-one}
use borrow.Author.Tests.{lt-ltb}
use lib.ListN.{length, take}
use Rattle.std.specs.Prelude.{Option, Some, Result, Ok, Err}
use Rattle.std.specs.Result.{IsErr, IsErrAnd}
use Rattle.octets.specs.Numbers.{Bytes}
use Rattle.octets.proofs.AllBytes.{bytes_take}
use Rattle.answers.specs.declared.Refusal.{Refusal}
use Rattle.answers.specs.Causes.{number}
use Rattle.answers.specs.Answer.{Answer, Accepted, Refused, when, ◌then◌}
use Rattle.sff_format.specs.Writing.{Outcome}
use Rattle.answers.proofs.Rows.{row-holds}
use Rattle.sff_format.specs.HeaderTest.{read_count}
use Rattle.sff_format.specs.FileTest.{file_test}
use Rattle.sff_format.specs.Parse.{parse}
use Rattle.sff_format.specs.Places.{read_place}
use Rattle.sff_format.proofs.FileLaid.{reads-counted}
use Rattle.sff_format.proofs.Written.{layout-bytes}
use Rattle.sff_format.proofs.Places.{place_found}
use Rattle.correction_format.specs.ListRun.{ListOutcome}
use Rattle.correction_format.specs.declared.Fields.{Fields}
use Rattle.correction_format.specs.Record.{position, record_test}
use Rattle.correction_format.specs.Fields.{fields_at, asked}
use Rattle.correction_format.specs.RecordLayout.{parse_record}
use Rattle.correction_format.specs.Edit.{edited}
use Rattle.correction_format.specs.Reasons.{position_above, reasons}
use Rattle.correction_format.specs.Correct.{correct_test, corrected, correct_outcome, file_replaced, correct_buffer}
use Rattle.correction_format.specs.ListRun.{record_at, Run, ran, turns, run_list}
use Rattle.correction_format.proofs.Asked.{asked_of_record}
use Rattle.correction_format.proofs.Edited.{reasons-position, place_kept}
use Rattle.correction_format.proofs.Carried.{refused_outcome, refused_buffer, done-outcome, done-buffer, done-fits, done-length}
use Rattle.correction_format.proofs.Carried.{done-front, done_valid, done-accepted, done_parsed}
use Rattle.correction_format.proofs.Carried.{test_file, test_reasons, test_from_20, test_from_file, test_from_21}
use Rattle.correction_format.proofs.ListTurns.{turn_on, turn_stop, list_20, list_run, list_none}
use Rattle.sff_find.specs.declared.inner.Mark.{Mark}
use Rattle.sff_corrector.specs.declared.CarriedOut.{CarriedOut}
use Rattle.sff_corrector.specs.Carried.{carried_outcome, AcceptedFront, AcceptedAfter}

-- what came of a record
abbrev Carried : Type 0
Carried = Result CarriedOut Refusal

-- what is told of a record that is refused
module _ (buffer : List ℕ) (len : ℕ) (r : List ℕ) where
  pub stopped : (x : Refusal) → Refused (number x.0) x.1 ≡ correct_test buffer len r
      → (carried_outcome len (Err x) ≡ correct_outcome buffer len r) × ((buffer ≡ correct_buffer buffer len r) × Unit {0})
  stopped x e = (sym (refused_outcome buffer len r (sym e)), (sym (refused_buffer buffer len r (sym e)), tt))

  -- the same where a `?` hands the refusal back
  pub stopped_back : (v : Carried) (x : Refusal) → IsErr v × IsErrAnd v (λ y. y ≡ x) → Refused (number x.0) x.1 ≡ correct_test buffer len r
      → (carried_outcome len v ≡ correct_outcome buffer len r) × ((buffer ≡ correct_buffer buffer len r) × AcceptedAfter buffer v)
  stopped_back (Ok w) x (h, k) e = absurd k
  stopped_back (Err y) x (h, k) e = rw k (stopped x e)

  pub stop_14 : length buffer < len → Refused 14 0 ≡ correct_test buffer len r
  unfolding correct_test ◌then◌ when
  stop_14 h = rw (lt-ltb (length buffer) len h)

  module _ (h : len ≤ length buffer) where
    pub stop_20 : {n p : ℕ} → Refused n p ≡ record_test r → Refused n p ≡ correct_test buffer len r
    unfolding ◌then◌
    stop_20 e = sym (test_from_20 buffer len r h ∙ rw (← e))

    pub stop-file : Accepted ≡ record_test r → {n p : ℕ} → Refused n p ≡ file_test (take len buffer) → Refused n p ≡ correct_test buffer len r
    unfolding ◌then◌
    stop-file q e = sym (test_from_file buffer len r h (sym q) ∙ rw (← e))

  -- on an accepted file, where the record's own fields ask for what it says
  module _ {from : Option Mark} (s : AcceptedFront buffer len from) (q : record_test r ≡ Accepted) (x : Fields) (o : x ≡ fields_at (position r) r) where
    pub stop_21 : {t : Bool} → ((room : ℕ) → t ≡ position_above room (asked x r) (parse (take len buffer))) → t ≡ true
        → Refused 21 0 ≡ correct_test buffer len r
    unfolding reasons
    stop_21 f g =
        sym
        (
        test_from_21 buffer len r s.inside q s.accepted
        ∙ row-holds 21 _ _ (rw (← asked_of_record x r o) (sym (f (length buffer)) ∙ g))
        )

    pub reasons_are : {a : Answer} → a ≡ reasons (length buffer) (asked x r) (parse (take len buffer)) → a ≡ correct_test buffer len r
    reasons_are e = rw (asked_of_record x r o) at e ∙ sym (test_from_21 buffer len r s.inside q s.accepted)

  -- what is told of one that is carried out, and what it leaves for the next
  module _ (e : Accepted ≡ correct_test buffer len r) where
    pub done : {n : ℕ} {b : List ℕ} → n ≡ length (corrected buffer len r) → b ≡ file_replaced (corrected buffer len r) len buffer
        → (record { answer = Accepted; length = n } ≡ correct_outcome buffer len r) × (b ≡ correct_buffer buffer len r)
    done m f = (rw m (sym (done-outcome buffer len r (sym e))), f ∙ sym (done-buffer buffer len r (sym e)))

    module _ (y : Bytes buffer) (z : Bytes r) where
      bytes : Bytes (take len buffer)
      bytes = bytes_take len buffer y

      accepted : file_test (corrected buffer len r) ≡ Accepted
      accepted = rw (done-front buffer len r (sym e)) at (done-accepted buffer len r (sym e) bytes z)

      parsed : parse (corrected buffer len r) ≡ edited (parse_record r) (parse (take len buffer))
      parsed = rw (done-front buffer len r (sym e)) at (done_parsed buffer len r (sym e) bytes z)

      below : position r < length (parse (take len buffer)).reads
      below = reasons-position (length buffer) (parse_record r) (parse (take len buffer)) (test_reasons buffer len r (sym e))

      -- what stands before the read stays, so where it starts does
      place_same : position r < read_count (corrected buffer len r)
          → read_place (take len buffer) (position r) ≡ read_place (corrected buffer len r) (position r)
      place_same h =
          let b = below in
          let file = parse (take len buffer) in
          let y' = layout-bytes (edited (parse_record r) file) (done_valid buffer len r (sym e) bytes z) in
          place_found (take len buffer) bytes (test_file buffer len r (sym e)) (position r) (rw (reads-counted (take len buffer)) at b)
          ∙ sym
          (
          place_found (corrected buffer len r) y' accepted (position r) h
          ∙ rw parsed (place_kept (parse_record r) file (omega arith))
          )

      pub ready : {n : ℕ} {b : List ℕ} {q i : ℕ} → n ≡ length (corrected buffer len r) → b ≡ file_replaced (corrected buffer len r) len buffer
          → i ≡ position r → q ≡ read_place (take len buffer) i → AcceptedFront b n (Some (record { position = i; place = q }))
      ready {n} {b} {q} {i} m f k g =
          rw (m, f)
          (
          record {
            inside = rw (done-length buffer len r (sym e)) (done-fits buffer len r (sym e));
            accepted = done-accepted buffer len r (sym e) bytes z;
            start = rw (done-front buffer len r (sym e)) (record { known = λ h. g ∙ rw k (place_same (rw k at h)) });
          }
          )

  -- the answer in what is told
  answer_told : (v : Carried) → carried_outcome len v ≡ correct_outcome buffer len r → (carried_outcome len v).answer ≡ correct_test buffer len r
  unfolding correct_outcome
  answer_told v e = ap (λ (o : Outcome). o.answer) e

-- the same of what came of a record, and of the case that this is
pub told_as : (len : ℕ) {v w : Carried} {o : Outcome} → v ≡ w → carried_outcome len v ≡ o → carried_outcome len w ≡ o
told_as len c e = sym (ap (carried_outcome len) c) ∙ e

-- the record at position k of a list was tried, and m come after it
module _ (b : List ℕ) (len : ℕ) (l : List ℕ) (k : ℕ) (v : Carried) {b' : List ℕ}
    (e : carried_outcome len v ≡ correct_outcome b len (record_at k l)) (f : b' ≡ correct_buffer b len (record_at k l)) where
  tested : {w : Carried} → v ≡ w → correct_test b len (record_at k l) ≡ (carried_outcome len w).answer
  tested c = sym (answer_told b len (record_at k l) v e) ∙ ap (λ (w : Carried). (carried_outcome len w).answer) c

  tried_same : {w : CarriedOut} → v ≡ Ok w → length b' ≡ length b
  tried_same c = ap length (f ∙ done-buffer b len (record_at k l) (tested c)) ∙ done-length b len (record_at k l) (tested c)

  tried_on : (m : ℕ) {w : CarriedOut} → v ≡ Ok w → turns (suc m) k b len l ≡ turns m (suc k) b' w.length l
  tried_on m {w} c =
      let r : List ℕ = record_at k l in
      let t = tested c in
      let n : w.length ≡ length (corrected b len r) = ap (λ (o : Outcome). o.length) (told_as len c e ∙ done-outcome b len r t) in
      let eb : b' ≡ file_replaced (corrected b len r) len b = f ∙ done-buffer b len r t in
      turn_on m k b len l t ∙ rw (n, eb)

  tried_stop : (m : ℕ) {x : Refusal} → v ≡ Err x → turns (suc m) k b len l ≡ ran k (Refused (number x.0) x.1) len b'
  tried_stop m {x} c =
      let eb : b' ≡ b = f ∙ refused_buffer b len (record_at k l) (tested c) in
      turn_stop m k b len l (number x.0) x.1 (tested c) ∙ ap (ran k (Refused (number x.0) x.1) len) (sym eb)

-- The invariant of the loop over a list: k records are carried out, and what is to come is the rest.
pub record ListInvariant (n : ℕ) (b₀ : List ℕ) (len₀ : ℕ) (l b : List ℕ) (k : ℕ) (left : CarriedOut) : Type 0 where
  pub low : k ≤ n
  pub whole : 96 * n ≤ length l
  pub same : length b ≡ length b₀
  pub ready : AcceptedFront b left.length (Some left.read)
  pub is : turns (n - 1) 1 b₀ len₀ l ≡ turns (n - k) k b left.length l

-- what a run told so far
told : {count : ℕ} {a : Answer} {len : ℕ} {b : List ℕ} {t : Run} → t ≡ ran count a len b
    → (record { count = count; answer = a; length = len } ≡ t.outcome) × (b ≡ t.buffer)
told e = (sym (ap (λ (x : Run). x.outcome) e), sym (ap (λ (x : Run). x.buffer) e))

module _ {n : ℕ} {b₀ : List ℕ} {len₀ : ℕ} {l b : List ℕ} {k : ℕ} {left : CarriedOut} (g : ListInvariant n b₀ len₀ l b k left) where
  pub list_done : n ≤ k
      → (record { count = n; answer = Accepted; length = left.length } ≡ (turns (n - 1) 1 b₀ len₀ l).outcome) × (b ≡ (turns (n - 1) 1 b₀ len₀ l).buffer)
  unfolding turns
  list_done h =
      let z : n - k ≡ 0 = omega arith in
      let e : k ≡ n = omega (arith, g.low, h) in
      told (g.is ∙ rw (z, e))

  module _ (h : k < n) (v : Carried) {b' : List ℕ}
      (e : carried_outcome left.length v ≡ correct_outcome b left.length (record_at k l)) (f : b' ≡ correct_buffer b left.length (record_at k l)) where
    next : n - k ≡ suc (n - (k + 1))
    next = omega arith

    pub list_more : {w : CarriedOut} → v ≡ Ok w → AcceptedFront b' w.length (Some w.read) → ListInvariant n b₀ len₀ l b' (k + 1) w
    list_more {w} c o =
        let u : turns (n - k) k b left.length l ≡ turns (n - (k + 1)) (k + 1) b' w.length l =
        ap (λ (i : ℕ). turns i k b left.length l) next ∙ tried_on b left.length l k v e f (n - (k + 1)) c ∙ rw (add-one k) in
        record {
          low = omega arith;
          whole = g.whole;
          same = tried_same b left.length l k v e f c ∙ g.same;
          ready = o;
          is = g.is ∙ u;
        }

    pub list_stop : {x : Refusal} → v ≡ Err x
        → (record { count = k; answer = Refused (number x.0) x.1; length = left.length } ≡ (turns (n - 1) 1 b₀ len₀ l).outcome) × (b' ≡ (turns (n - 1) 1 b₀ len₀ l).buffer)
    list_stop c = told (g.is ∙ ap (λ (i : ℕ). turns i k b left.length l) next ∙ tried_stop b left.length l k v e f (n - (k + 1)) c)

-- a list before its loop
module _ (b : List ℕ) (len : ℕ) (l : List ℕ) where
  pub list_20_told : (length l % 96 ≡ 0 → ⊥)
      → (record { count = 0; answer = Refused 20 0; length = len } ≡ (run_list b len l).outcome) × (b ≡ (run_list b len l).buffer)
  list_20_told h = told (list_20 b len l h)

  module _ (w : length l % 96 ≡ 0) where
    pub list_none_told : length l / 96 ≡ 0
        → (record { count = 0; answer = Accepted; length = len } ≡ (run_list b len l).outcome) × (b ≡ (run_list b len l).buffer)
    list_none_told z = told (list_none b len l w z)

    module _ (z : length l / 96 ≡ 0 → ⊥) (v : Carried) {b' : List ℕ}
        (e : carried_outcome len v ≡ correct_outcome b len (record_at 0 l)) (f : b' ≡ correct_buffer b len (record_at 0 l)) where
      some : run_list b len l ≡ turns (suc (length l / 96 - 1)) 0 b len l
      some = let n : length l / 96 ≡ suc (length l / 96 - 1) = omega arith in list_run b len l w ∙ ap (λ (i : ℕ). turns i 0 b len l) n

      pub first-stop : {x : Refusal} → v ≡ Err x
          → (record { count = 0; answer = Refused (number x.0) x.1; length = len } ≡ (run_list b len l).outcome) × (b' ≡ (run_list b len l).buffer)
      first-stop c = told (some ∙ tried_stop b len l 0 v e f (length l / 96 - 1) c)

      pub first_run : {w : CarriedOut} {o : ListOutcome} {b'' : List ℕ} → v ≡ Ok w
          → o ≡ (turns (length l / 96 - 1) 1 b' w.length l).outcome → b'' ≡ (turns (length l / 96 - 1) 1 b' w.length l).buffer
          → (o ≡ (run_list b len l).outcome) × (b'' ≡ (run_list b len l).buffer)
      first_run c d g =
          let t = some ∙ tried_on b len l 0 v e f (length l / 96 - 1) c in
          (d ∙ sym (ap (λ (x : Run). x.outcome) t), g ∙ sym (ap (λ (x : Run). x.buffer) t))
