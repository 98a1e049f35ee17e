-- The numbers that each call may answer with; and so "Every answer has a number (0 accepted)": 0 is acceptance's alone.
-- Assumes nothing.
use Prim.Native.Nat.{ℕ, zero, suc}
use mathlib.Core.Path.{◌≡◌, refl}
use mathlib.Core.Bool.{Bool, false}
use mathlib.Core.List.{List, [], ◌∷◌}
use lib.ListN.{length, take}
use lib.Dec.{ltb}
use Rattle.answers.specs.Answer.{Answer, Accepted, Refused, number_of, ◌then◌, among, Among}
use Rattle.answers.proofs.Answers.{cond_keeps, either_keeps}
use Rattle.answers.proofs.Numbered.{zero_accepted, then-refusing, when-refusing, shifted-refusing, zero_place_refusing, more_numbers}
use Rattle.sff_format.specs.HeaderTest.{fixed_test, characters_test, header_test, read_count, header_length, flows, flow_characters}
use Rattle.sff_format.specs.ReadTest.{name_test, clip_test, bases_test, data_test, read_test}
use Rattle.sff_format.specs.FileTest.{index_here, pass_test, index_test, end_test, boundary_test, file_test}
use Rattle.sff_format.specs.Model.{Read, File}
use Rattle.sff_format.specs.Position.{position_test, signal_test}
use Rattle.sff_format.specs.Writing.{new_test, new_outcome, given_test, open_test, append_test, append_outcome, WriteResult, new_in, append_to, append_each, write_each}
use Rattle.sff_format.specs.declared.ReadView.{ReadView}
use Rattle.sff_format.specs.View.{view_at, view_test}
use Rattle.sff_format.specs.Numbers.{header_numbers, file_numbers, step_numbers, view_numbers, position_numbers, signal_numbers, new_numbers, append_numbers}
use Rattle.sff_format.specs.Step.{State, boundary, index_passed, read_or_none, step_test, moved, concluded, step_answer, step}

-- the tests in their order
pub header_numbers_lem : (file : List ℕ) → Among header_numbers (header_test file)
unfolding header_test fixed_test characters_test among
header_numbers_lem file =
    then-refusing _ _ _ (when-refusing _ _ 1 _ refl)
    (
    then-refusing _ _ _
    (
    then-refusing _ _ _ (when-refusing _ _ 2 _ refl)
    (
    then-refusing _ _ _ (when-refusing _ _ 3 _ refl)
    (then-refusing _ _ _ (when-refusing _ _ 4 _ refl) (when-refusing _ _ 5 _ refl))
    )
    )
    (
    then-refusing _ _ _ (when-refusing _ _ 1 _ refl)
    (
    then-refusing _ _ _ (when-refusing _ _ 6 _ refl)
    (then-refusing _ _ _ (when-refusing _ _ 7 _ refl) (when-refusing _ _ 8 _ refl))
    )
    )
    )

header_in_file : (b : List ℕ) → Among file_numbers (header_test b)
unfolding among
header_in_file b = more_numbers header_numbers file_numbers refl (header_test b) (header_numbers_lem b)

name-numbers : (b : List ℕ) (p s L : ℕ) → Among file_numbers (name_test b p s L)
unfolding name_test among
name-numbers b p s L =
    then-refusing _ _ _ (when-refusing _ _ 5 _ refl)
    (
    then-refusing _ _ _ (when-refusing _ _ 1 _ refl)
    (then-refusing _ _ _ (when-refusing _ _ 6 _ refl) (when-refusing _ _ 7 _ refl))
    )

clip_numbers : (p n ql qr al ar : ℕ) → Among file_numbers (clip_test p n ql qr al ar)
unfolding clip_test among
clip_numbers p n ql qr al ar =
    then-refusing _ _ _ (when-refusing _ _ 9 _ refl)
    (
    then-refusing _ _ _ (when-refusing _ _ 9 _ refl)
    (then-refusing _ _ _ (when-refusing _ _ 9 _ refl) (when-refusing _ _ 9 _ refl))
    )

bases-numbers : (characters xs ys : List ℕ) → Among file_numbers (bases_test characters xs ys)
unfolding bases_test among
bases-numbers characters xs ys = then-refusing _ _ _ (when-refusing _ _ 10 _ refl) (when-refusing _ _ 11 _ refl)

data_numbers : (characters b : List ℕ) (d n : ℕ) → Among file_numbers (data_test characters b d n)
unfolding data_test among
data_numbers characters b d n =
    then-refusing _ _ _ (when-refusing _ _ 1 _ refl)
    (then-refusing _ _ _ (shifted-refusing _ _ _ (bases-numbers characters _ _)) (when-refusing _ _ 7 _ refl))

read-numbers : (characters b : List ℕ) (p : ℕ) → Among file_numbers (read_test characters b p)
unfolding read_test among
read-numbers characters b p =
    then-refusing _ _ _ (when-refusing _ _ 1 _ refl)
    (then-refusing _ _ _ (name-numbers b p _ _) (then-refusing _ _ _ (clip_numbers p _ _ _ _ _) (data_numbers characters b _ _)))

index-numbers : (b : List ℕ) (p : ℕ) (q : Bool) → Among file_numbers (index_test b p q)
unfolding index_test pass_test among
index-numbers b p q = cond_keeps (Among file_numbers) (index_here b p q) (pass_test b p) Accepted (when-refusing _ _ 1 _ refl) tt

end_numbers : (b : List ℕ) (p : ℕ) (q : Bool) → Among file_numbers (end_test b p q)
unfolding end_test among
end_numbers b p q = then-refusing _ _ _ (when-refusing _ _ 13 _ refl) (when-refusing _ _ 12 _ refl)

boundary-numbers : (b : List ℕ) (n p : ℕ) (q : Bool) → Among file_numbers (boundary_test b n p q)
unfolding boundary_test
boundary-numbers b zero p q = then-refusing _ _ _ (index-numbers b p q) (end_numbers b _ _)
boundary-numbers b (suc n) p q =
    then-refusing _ _ _ (index-numbers b p q) (then-refusing _ _ _ (read-numbers (flow_characters b) b _) (boundary-numbers b n _ _))

pub file-numbers : (file : List ℕ) → Among file_numbers (file_test file)
unfolding file_test
file-numbers file =
    then-refusing _ _ _ (header_in_file file) (boundary-numbers file (read_count file) (header_length file) false)

step_test_numbers : (b : List ℕ) (s : State) → Among step_numbers (step_test b s)
unfolding step_test read_or_none among
step_test_numbers b s =
    then-refusing _ _ _ (more_numbers file_numbers step_numbers refl (header_test b) (header_in_file b))
    (
    then-refusing _ _ _ (when-refusing _ _ 1 _ refl)
    (
    then-refusing _ _ _ (more_numbers file_numbers step_numbers refl (index_test b s.place s.passed_index) (index-numbers b s.place s.passed_index))
    (
    cond_keeps (Among step_numbers) (ltb s.passed_reads (read_count b))
    (read_test (flow_characters b) b (boundary b s))
    (end_test b (boundary b s) (index_passed b s) then Refused 33 (boundary b s))
    (more_numbers file_numbers step_numbers refl (read_test (flow_characters b) b (boundary b s)) (read-numbers (flow_characters b) b (boundary b s)))
    (
    then-refusing _ (end_test b (boundary b s) (index_passed b s)) (Refused 33 (boundary b s))
    (more_numbers file_numbers step_numbers refl (end_test b (boundary b s) (index_passed b s)) (end_numbers b (boundary b s) (index_passed b s)))
    refl
    )
    )
    )
    )

-- a step's number and place are its test's
step-answered : (b : List ℕ) (s : State) → step_answer (step b s) ≡ step_test b s
unfolding step concluded
step-answered b s = go (step_test b s)
  where
    go : (a : Answer) → step_answer (concluded a (view_at (flows b) b (boundary b s)) (moved b s) s) ≡ a
    go Accepted = refl
    go (Refused n p) = refl

pub step-numbers : (file : List ℕ) (state : State) → Among step_numbers (step_answer (step file state))
step-numbers file state = rw (step-answered file state) (step_test_numbers file state)

pub view-numbers : (file : List ℕ) (view : ReadView) → Among view_numbers (view_test file view)
unfolding view_test among
view-numbers file view =
    then-refusing _ _ _ (when-refusing _ _ 1 _ refl)
    (
    then-refusing _ _ _ (when-refusing _ _ 1 _ refl)
    (
    then-refusing _ _ _ (when-refusing _ _ 1 _ refl)
    (
    then-refusing _ _ _ (when-refusing _ _ 1 _ refl)
    (then-refusing _ _ _ (when-refusing _ _ 1 _ refl) (when-refusing _ _ 1 _ refl))
    )
    )
    )

pub position-numbers : (file : List ℕ) (position : ℕ) → Among position_numbers (position_test file position)
unfolding position_test among
position-numbers file position =
    then-refusing _ _ _ (more_numbers file_numbers position_numbers refl (file_test file) (file-numbers file))
    (when-refusing _ _ 21 _ refl)

pub signal-numbers : (file : List ℕ) (position : ℕ) → Among signal_numbers (signal_test file position)
unfolding signal_test among
signal-numbers file position =
    then-refusing _ _ _
    (more_numbers position_numbers signal_numbers refl (position_test file position) (position-numbers file position))
    (when-refusing _ _ 32 _ refl)

pub new-numbers : (room : ℕ) (characters key : List ℕ) → Among new_numbers (new_test room characters key)
unfolding new_test among
new-numbers room characters key = then-refusing _ _ _ (when-refusing _ _ 5 _ refl) (then-refusing _ _ _ (when-refusing _ _ 6 _ refl) (when-refusing _ _ 26 _ refl))

given_numbers : (characters : List ℕ) (r : Read) → Among append_numbers (given_test characters r)
unfolding given_test among
given_numbers characters r =
    let n = length r.bases in
    let ql = r.quality_left in
    let qr = r.quality_right in
    let al = r.adapter_left in
    let ar = r.adapter_right in
    then-refusing _ _ _ (when-refusing _ _ 30 _ refl)
    (
    then-refusing _ _ _ (when-refusing _ _ 5 _ refl)
    (
    then-refusing _ _ _ (when-refusing _ _ 6 _ refl)
    (
    then-refusing _ _ _ (zero_place_refusing _ _ (more_numbers file_numbers append_numbers refl (clip_test 0 n ql qr al ar) (clip_numbers 0 n ql qr al ar)))
    (zero_place_refusing _ _ (more_numbers file_numbers append_numbers refl (bases_test characters r.increments r.bases) (bases-numbers characters r.increments r.bases)))
    )
    )
    )

pub append-numbers : (buffer : List ℕ) (len : ℕ) (read : Read) → Among append_numbers (append_test buffer len read)
unfolding append_test open_test among
append-numbers buffer len read =
    then-refusing _ _ _ (when-refusing _ _ 14 _ refl)
    (
    then-refusing _ _ _
    (then-refusing _ _ _ (more_numbers file_numbers append_numbers refl (file_test (take len buffer)) (file-numbers (take len buffer))) (then-refusing _ _ _ (when-refusing _ _ 25 _ refl) (when-refusing _ _ 31 _ refl)))
    (then-refusing _ _ _ (given_numbers (flow_characters (take len buffer)) read) (when-refusing _ _ 26 _ refl))
    )

-- "Every answer has a number (0 accepted)": 0 is in none of these lists
pub file_zero : (file : List ℕ) → number_of (file_test file) ≡ 0 → file_test file ≡ Accepted
unfolding among
file_zero file e = zero_accepted file_numbers refl (file_test file) (file-numbers file) e

pub append_zero : (buffer : List ℕ) (len : ℕ) (read : Read) → number_of (append_test buffer len read) ≡ 0
    → append_test buffer len read ≡ Accepted
unfolding among
append_zero buffer len read e =
    zero_accepted append_numbers refl (append_test buffer len read) (append-numbers buffer len read) e

-- nor is it a refusal's of a file that is written
each-numbers : (w : WriteResult) (rs : List Read) → Among append_numbers w.outcome.answer → Among append_numbers (append_each w rs).outcome.answer
unfolding append_each append_outcome
each-numbers w [] h = h
each-numbers w (r ∷ rs) h =
    either_keeps (λ (v : WriteResult). Among append_numbers v.outcome.answer) w.outcome.answer (append_each (append_to w r) rs) w
    (each-numbers (append_to w r) rs (append-numbers w.buffer w.outcome.length r)) h

pub written_zero : (buffer : List ℕ) (content : File) → number_of (write_each buffer content).outcome.answer ≡ 0
    → (write_each buffer content).outcome.answer ≡ Accepted
unfolding write_each new_outcome among
written_zero buffer content e =
    zero_accepted append_numbers refl (write_each buffer content).outcome.answer
    (
    each-numbers (new_in buffer content.flow_characters content.key) content.reads
    (more_numbers new_numbers append_numbers refl (new_test (length buffer) content.flow_characters content.key) (new-numbers (length buffer) content.flow_characters content.key))
    )
    e
