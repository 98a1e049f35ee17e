-- A step: its tests by what the code's calls gave, and what is answered where they accept. Assumes nothing.
use Prim.Native.Nat.{ℕ, ◌+◌, ◌≤◌, ◌<◌}
use mathlib.Core.Path.{◌≡◌, sym}
use mathlib.Core.Bool.{Bool}
use mathlib.Core.List.{List}
use borrow.Author.Tests.{lt-ltb, le-ltb}
use lib.ListN.{length}
use native.Mathlib.Omega.{arith}
use Rattle.std.specs.Prelude.{Result, Ok, Err}
use Rattle.std.specs.Result.{IsErr, IsErrAnd}
use Rattle.octets.specs.Numbers.{Bytes}
use Rattle.octets.proofs.Stands.{number_small}
use Rattle.answers.specs.declared.Refusal.{Refusal}
use Rattle.answers.specs.Causes.{number}
use Rattle.answers.specs.Answer.{Answer, Accepted, Refused, ◌then◌}
use Rattle.sff_format.specs.declared.Boundary.{Boundary}
use Rattle.sff_format.specs.declared.ReadView.{ReadView}
use Rattle.sff_format.specs.HeaderTest.{header_test, header_length, read_count, flows, flow_characters}
use Rattle.sff_format.specs.ReadTest.{read_test}
use Rattle.sff_format.specs.FileTest.{end_test}
use Rattle.sff_format.specs.Walk.{read_start, next_boundary}
use Rattle.sff_format.specs.Step.{State, fresh_place, step_test, read_or_none, boundary, found, stop, step}
use Rattle.sff_format.specs.View.{view_at}
use Rattle.sff_format.proofs.ReadLaid.{fits_16}
use Rattle.sff_format.proofs.Steps.{read-accepted, step-found, step-stop}
use Rattle.sff_reader.specs.declared.Reader.{Reader}
use Rattle.sff_reader.specs.declared.Found.{Found}
use Rattle.sff_reader.specs.declared.Stopped.{Stopped}
use Rattle.sff_reader.specs.Forms.{state_of, step_of}

module _ (b : List ℕ) where
  -- where a fresh reader stands, by what the header's test answered
  pub fresh_refused : {n p : ℕ} → Refused n p ≡ header_test b → 0 ≡ fresh_place (header_test b) b
  unfolding fresh_place
  fresh_refused r = rw (← r)

  pub fresh-accepted : Accepted ≡ header_test b → {n : ℕ} → n ≡ header_length b → n ≡ fresh_place (header_test b) b
  unfolding fresh_place
  fresh-accepted a e = rw (← a) e

  -- a read, or the end
  module _ (p n : ℕ) (q : Bool) {k : ℕ} (r : k ≡ read_count b) where
    pub read_left : n < k → {x : Answer} → x ≡ read_test (flow_characters b) b p → x ≡ read_or_none b p n q
    unfolding read_or_none
    read_left l f = rw (← r, lt-ltb n k l) f

    pub none_left : k ≤ n → {x : Answer} → x ≡ (end_test b p q then Refused 33 p) → x ≡ read_or_none b p n q
    unfolding read_or_none
    none_left l f = rw (← r, le-ltb n k l) f

-- the header's field for the number of reads has 32 bits
pub reads_small : (b : List ℕ) → Bytes b → 31 ≤ length b → read_count b < 4294967296
reads_small b y h = number_small 4 20 b y (omega arith)

-- where a step's tests accept, its read begins past any index, and what the code made of it is what the step says
module _
    (b : List ℕ)
    (s : State)
    (e : step_test b s ≡ Accepted)
    {start : Boundary}
    (g : start ≡ read_start b (record { place = s.place; passed = s.passed_index })) where
  pub found_begins : start.place + 16 ≤ length b
  found_begins = rw g (fits_16 (flow_characters b) b (boundary b s) (read-accepted b s e))

  pub found_is : {after : Boundary} → after ≡ next_boundary b start
      → {v : ReadView} → v ≡ view_at (flows b) b start.place
      → found v (record { place = after.place; passed_reads = s.passed_reads + 1; passed_index = after.passed }) ≡ step b s
  found_is k i = rw (i, k, g) (sym (step-found b s e))

-- where they refuse, the state is given back
pub handed_over : (r : Result Found Stopped) (d : Stopped) (e : Refusal) (reader : Reader) → d ≡ record { refusal = e; unmoved = reader }
    → IsErr r × IsErrAnd r (λ x. x ≡ d) → step_of r ≡ stop (number e.0) e.1 (state_of reader)
handed_over (Ok x) d e reader q (h, k) = absurd k
handed_over (Err x) d e reader q (h, k) = rw (k, q)

pub stopped_is : (b : List ℕ) (s : State) {n p : ℕ} → Refused n p ≡ step_test b s → stop n p s ≡ step b s
stopped_is b s {n} {p} e = sym (step-stop b s n p (sym e))
