-- Steps from a fresh state: the reads in order, each once, then 33; or the whole-file test's refusal at last. Assumes
-- nothing.
use Prim.Native.Nat.{ℕ, zero, suc, ◌+◌, ◌≤◌, ◌<◌}
use mathlib.Core.Path.{◌≡◌, refl, sym, ap, ◌∙◌}
use mathlib.Core.Bool.{Bool, true, false, cond}
use mathlib.Core.List.{List, map}
use native.Mathlib.Omega.{arith}
use lib.ListN.{length}
use lib.Dec.{ltb}
use borrow.Author.Tests.{ltb-true, lt-ltb, le-ltb}
use Rattle.octets.specs.Numbers.{Bytes}
use Rattle.answers.specs.Answer.{Answer, Accepted, Refused, when, ◌then◌}
use Rattle.sff_format.specs.declared.ReadView.{ReadView}
use Rattle.sff_format.specs.Rules.{index_size}
use Rattle.sff_format.specs.HeaderTest.{index_length, header_test, header_length, flows, flow_characters, read_count}
use Rattle.sff_format.specs.ReadTest.{read_test, read_end}
use Rattle.sff_format.specs.FileTest.{index_here, pass_test, index_test, past_index, end_test, boundary_test, file_test}
use Rattle.sff_format.specs.Step.{State, found, stop, concluded, step_test, read_or_none, moved, boundary, index_passed, step, fresh_place, fresh, on_stop, last_answer, on_found, views_found, read_back}
use Rattle.sff_format.specs.View.{view_at, view_read}
use Rattle.sff_format.specs.Parse.{parse_read, parse_reads, parse}
use Rattle.answers.proofs.Answers.{not-accepted, first-ok, second-ok, under_ok, then-accepted, then_assoc, then_on}
use Rattle.sff_format.proofs.HeaderLaws.{header_fits, characters-length}
use Rattle.sff_format.proofs.Boundaries.{accepted_none, accepted-read}
use Rattle.sff_format.proofs.FileLaid.{head_ok, sections_ok}
use Rattle.sff_format.proofs.Indexes.{pass_fits}
use Rattle.sff_format.proofs.ReadLaid.{data_fits}
use Rattle.sff_format.proofs.Views.{read_viewed}

-- past an index that is not cut short the boundary is within the file
pub past_fits : (b : List ℕ) (p : ℕ) (q : Bool) → p ≤ length b → index_test b p q ≡ Accepted → past_index b p q ≤ length b
unfolding index_test past_index
past_fits b p q l e = go (index_here b p q) e
  where
    go : (t : Bool) → cond t (pass_test b p) Accepted ≡ Accepted → cond t (p + index_size (index_length b)) p ≤ length b
    go true f = pass_fits b p f
    go false f = l

-- at an accepted end all bytes are used
end_place : (b : List ℕ) (p : ℕ) (q : Bool) → p ≤ length b → end_test b p q ≡ Accepted → p ≡ length b
unfolding end_test
end_place b p q l e = let h = under_ok p (length b) _ _ (second-ok _ _ e) in omega arith

-- a step that is accepted finds a read, and one that is not gives its state back
pub step-found : (b : List ℕ) (s : State) → step_test b s ≡ Accepted → step b s ≡ found (view_at (flows b) b (boundary b s)) (moved b s)
unfolding step concluded
step-found b s e = rw e

pub step-stop : (b : List ℕ) (s : State) (n p : ℕ) → step_test b s ≡ Refused n p → step b s ≡ stop n p s
unfolding step concluded
step-stop b s n p e = rw e

-- what a step's tests tell where they accept
module _ (b : List ℕ) (s : State) (e : step_test b s ≡ Accepted) where
  pub header_accepted : header_test b ≡ Accepted
  unfolding step_test
  header_accepted = first-ok _ _ e

  pub place_inside : s.place ≤ length b
  unfolding step_test
  place_inside = under_ok _ _ _ _ (first-ok _ _ (second-ok _ _ e))

  -- no end is accepted by a step: a read was
  read_accepted_or : (s.passed_reads < read_count b) × (read_test (flow_characters b) b (boundary b s) ≡ Accepted)
  unfolding step_test read_or_none
  read_accepted_or = go (ltb s.passed_reads (read_count b)) refl (second-ok _ _ (second-ok _ _ (second-ok _ _ e)))
    where
      go : (t : Bool) → ltb s.passed_reads (read_count b) ≡ t
          → cond t (read_test (flow_characters b) b (boundary b s)) (end_test b (boundary b s) (index_passed b s) then Refused 33 (boundary b s)) ≡ Accepted
          → (s.passed_reads < read_count b) × (read_test (flow_characters b) b (boundary b s) ≡ Accepted)
      go true l a = (ltb-true _ _ l, a)
      go false l a = not-accepted 33 (boundary b s) (second-ok (end_test b (boundary b s) (index_passed b s)) (Refused 33 (boundary b s)) a)

  pub one_left : s.passed_reads < read_count b
  one_left = read_accepted_or.0

  pub read-accepted : read_test (flow_characters b) b (boundary b s) ≡ Accepted
  read-accepted = read_accepted_or.1

-- "A step that refuses, with 33 or any other number, gives back its state unmoved", and one that finds a read has moved
module _ (file : List ℕ) (state next : State) where
  pub stop_unmoved : (n place : ℕ) → step file state ≡ stop n place next → next ≡ state
  unfolding step concluded
  stop_unmoved n place e = go (step_test file state) e
    where
      go : (a : Answer)
          → concluded a (view_at (flows file) file (boundary file state)) (moved file state) state ≡ stop n place next
          → next ≡ state
      go Accepted f = cc
      go (Refused m q) f = cc

  pub found-moved : (view : ReadView) → step file state ≡ found view next → next ≡ moved file state
  unfolding step concluded
  found-moved view e = go (step_test file state) e
    where
      go : (a : Answer)
          → concluded a (view_at (flows file) file (boundary file state)) (moved file state) state ≡ found view next
          → next ≡ moved file state
      go Accepted f = cc
      go (Refused m q) f = cc

-- "refuses a place beyond the file (1, that place)"
pub place_beyond : (file : List ℕ) (state : State) → header_test file ≡ Accepted → length file < state.place
    → step file state ≡ stop 1 state.place state
unfolding step step_test concluded ◌then◌ when
place_beyond file state e h = rw (e, lt-ltb (length file) state.place h)

last_step : (b : List ℕ) (k : ℕ) (s : State) → last_answer b (suc k) s ≡ (step_test b s then last_answer b k (moved b s))
unfolding last_answer on_stop step concluded ◌then◌
last_step b k s = go (step_test b s)
  where
    go : (a : Answer) → on_stop (last_answer b k) (concluded a (view_at (flows b) b (boundary b s)) (moved b s) s) ≡ (a then last_answer b k (moved b s))
    go Accepted = refl
    go (Refused n p) = refl

last_none : (b : List ℕ) (s : State) → last_answer b 0 s ≡ Accepted
unfolding last_answer
last_none b s = refl

module _ (b : List ℕ) (head : header_test b ≡ Accepted) where
  pub read_fits : (p : ℕ) → read_test (flow_characters b) b p ≡ Accepted → read_end (flows b) b p ≤ length b
  unfolding read_end
  read_fits p e = rw (characters-length b head) at (data_fits (flow_characters b) b p e)

  module _ (s : State) (l : s.place ≤ length b) where
    -- a step at a boundary with a read left, and with none
    test_read : (n : ℕ) → s.passed_reads + suc n ≡ read_count b
        → step_test b s ≡ (index_test b s.place s.passed_index then read_test (flow_characters b) b (boundary b s))
    unfolding step_test read_or_none ◌then◌ when
    test_read n e = rw (head, le-ltb (length b) s.place l, lt-ltb s.passed_reads (read_count b) (omega arith))

    test_none : s.passed_reads + 0 ≡ read_count b
        → step_test b s ≡ (index_test b s.place s.passed_index then (end_test b (boundary b s) (index_passed b s) then Refused 33 (boundary b s)))
    unfolding step_test read_or_none ◌then◌ when
    test_none e = rw (head, le-ltb (length b) s.place l, le-ltb s.passed_reads (read_count b) (omega arith))

    -- what the whole-file test says of the boundary, with 33 at its end
    end_none : (index_test b s.place s.passed_index then (end_test b (boundary b s) (index_passed b s) then Refused 33 (boundary b s)))
        ≡ (boundary_test b 0 s.place s.passed_index then Refused 33 (length b))
    unfolding boundary_test
    end_none =
        then_on _ _ _ (λ i. then_on _ _ _ (λ g. ap (Refused 33) (end_place b (boundary b s) (index_passed b s) (past_fits b s.place s.passed_index l i) g)))
        ∙ sym (then_assoc (index_test b s.place s.passed_index) (end_test b (boundary b s) (index_passed b s)) (Refused 33 (length b)))

    end_read : (n : ℕ) (more : Answer)
        → (read_test (flow_characters b) b (boundary b s) ≡ Accepted → more ≡ (boundary_test b n (moved b s).place (moved b s).passed_index then Refused 33 (length b)))
        → ((index_test b s.place s.passed_index then read_test (flow_characters b) b (boundary b s)) then more)
        ≡ (boundary_test b (suc n) s.place s.passed_index then Refused 33 (length b))
    unfolding boundary_test
    end_read n more h =
        let i : Answer = index_test b s.place s.passed_index in
        let r : Answer = read_test (flow_characters b) b (boundary b s) in
        let m : Answer = boundary_test b n (moved b s).place (moved b s).passed_index in
        then_assoc i r more ∙ ap (λ (x : Answer). i then x) (then_on r more (m then Refused 33 (length b)) h)
        ∙ ap (λ (x : Answer). i then x) (sym (then_assoc r m (Refused 33 (length b)))) ∙ sym (then_assoc i (r then m) (Refused 33 (length b)))

  ended : (n : ℕ) (s : State) → s.passed_reads + n ≡ read_count b → s.place ≤ length b
      → last_answer b (suc n) s ≡ (boundary_test b n s.place s.passed_index then Refused 33 (length b))
  ended zero s e l = last_step b 0 s ∙ rw (last_none b (moved b s), then-accepted, test_none s l e) (end_none s l)
  ended (suc n) s e l =
      last_step b (suc n) s ∙ rw (test_read s l n e)
      (end_read s l n (last_answer b (suc n) (moved b s)) (λ r. ended n (moved b s) (omega arith) (read_fits (boundary b s) r)))

  -- with the file's own number of flows
  viewed : Bytes b → (p : ℕ) → read_test (flow_characters b) b p ≡ Accepted → view_read b (view_at (flows b) b p) ≡ parse_read (flows b) b p
  viewed y p e = rw (characters-length b head) at (read_viewed (flow_characters b) b p e y)

  reads-found : Bytes b → (n : ℕ) (s : State) → s.passed_reads + n ≡ read_count b → s.place ≤ length b → boundary_test b n s.place s.passed_index ≡ Accepted
      → map (view_read b) (views_found b (suc n) s) ≡ parse_reads b n s.place s.passed_index
  unfolding views_found on_found parse_reads ◌then◌
  reads-found y zero s e l a =
      let t = accepted_none b s.place s.passed_index a in
      rw (step-stop b s 33 (boundary b s) (test_none s l e ∙ rw (t.0, t.1)))
  reads-found y (suc n) s e l a =
      let t = accepted-read b n s.place s.passed_index a in
      let r : read_test (flow_characters b) b (boundary b s) ≡ Accepted = t.1 in
      rw (step-found b s (test_read s l n e ∙ rw (t.0, r)), viewed y (boundary b s) r, reads-found y n (moved b s) (omega arith) (read_fits (boundary b s) r) t.2)

-- from a fresh state: the whole-file test's refusal at last, or 33 at the file's end
pub steps_end : (file : List ℕ)
    → last_answer file (suc (read_count file)) (fresh file) ≡ (file_test file then Refused 33 (length file))
unfolding file_test fresh fresh_place step_test ◌then◌
steps_end file = go (header_test file) refl
  where
    go : (a : Answer) → header_test file ≡ a
        → last_answer file (suc (read_count file))
        (record { place = fresh_place a file; passed_reads = 0; passed_index = false })
        ≡ ((a then boundary_test file (read_count file) (header_length file) false) then Refused 33 (length file))
    go Accepted h = ended file h (read_count file) _ (omega arith) (header_fits file h)
    go (Refused n p) h = last_step file (read_count file) _ ∙ rw h

module _ (file : List ℕ) (e : file_test file ≡ Accepted) where
  fresh_is : fresh file ≡ record { place = header_length file; passed_reads = 0; passed_index = false }
  unfolding fresh fresh_place
  fresh_is = rw (head_ok file e)

  -- "From a fresh state an accepted file's reads come in order, each once"
  pub reads_in_order : Bytes file → read_back file ≡ (parse file).reads
  unfolding parse
  reads_in_order y =
      let h = head_ok file e in
      rw fresh_is (reads-found file h y (read_count file) _ (omega arith) (header_fits file h) (sections_ok file e))

  -- "then 33"
  pub then_33 : last_answer file (suc (read_count file)) (fresh file) ≡ Refused 33 (length file)
  unfolding ◌then◌
  then_33 = steps_end file ∙ rw e
