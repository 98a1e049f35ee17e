-- What each answer of the writers' tests shows, one test after another. Assumes nothing.
use Prim.Native.Nat.{ℕ, ◌+◌, ◌-◌, ◌≤◌, ◌<◌}
use mathlib.Core.Path.{◌≡◌, sym, ◌∙◌}
use mathlib.Core.Bool.{Bool, true, false, ◌||◌}
use mathlib.Core.List.{List}
use native.Mathlib.Omega.{arith}
use lib.Dec.{ltb}
use lib.ListN.{length, take, drop, length-take}
use lib.Seq.{length-take-le}
use borrow.Author.Tests.{lt-ltb, le-ltb}
use Rattle.std.specs.Prelude.{Result, Ok, Err}
use Rattle.std.specs.Result.{MatchResult, IsErrAnd}
use Rattle.octets.specs.Parts.{whole_part, put_at, up8}
use Rattle.octets.specs.Numbers.{Bytes, number, bytes_of}
use Rattle.octets.proofs.Lists.{part-take, whole_in}
use Rattle.octets.proofs.AllBytes.{bytes_take}
use Rattle.octets.proofs.Stands.{number_small}
use Rattle.answers.specs.declared.Refusal.{Refusal}
use Rattle.answers.specs.Answer.{Answer, Accepted, Refused, answer_of, when, zero_place, ◌then◌, accepted_or}
use Rattle.sff_format.specs.Model.{Read, layout_read, layout}
use Rattle.sff_format.specs.HeaderTest.{read_count, flows, flow_characters}
use Rattle.sff_format.specs.FileTest.{file_test}
use Rattle.sff_format.specs.Writing.{new_file, new_test, new_outcome, new_buffer, given_test, open_test, append_test, append_outcome, append_buffer}
use Rattle.answers.proofs.Answers.{first-ok, second-ok, when-ok, under_ok}
use Rattle.sff_format.proofs.HeaderLaws.{fits_31, characters-length}
use Rattle.sff_format.proofs.FileLaid.{head_ok}
use Rattle.sff_format.proofs.Given.{counts_ok}
use Rattle.sff_format.proofs.Appends.{Carried, carried}
use Rattle.sff_file.proofs.Sections.{characters_fit}
use Rattle.sff_sections.specs.Sections.{read_size}
use Rattle.sff_sections.proofs.Sections.{length-read, length-new}

-- a refusal r whose place became 0, where `map_err` says P of it
pub zero_placed : (tested result : Result (Unit {0}) Refusal) (P : Refusal → Refusal → Type 0)
    → MatchResult tested (λ x. result ≡ Ok x) (λ e. IsErrAnd result (P e)) → ((e r : Refusal) → P e r → r ≡ record { 0 = e.0; 1 = 0 })
    → answer_of result ≡ zero_place (answer_of tested)
unfolding zero_place
zero_placed (Ok x) result P h k = rw h
zero_placed (Err e) (Ok x) P h k = absurd h
zero_placed (Err e) (Err r) P h k = rw (k e r h)

-- a refusal of the writer's own input, by what the test of it gave
pub zero_place_told : (b : Answer) {a x : Answer} → x ≡ zero_place a → a ≡ b → x ≡ zero_place b
zero_place_told b e f = rw (← f) e

-- one of two conditions that calls gave
pub either_told : (s t : Bool) {u v w : Bool} → u ≡ s → v ≡ t → (u || v) ≡ w → (s || t) ≡ w
either_told s t e f g = rw (← e, ← f) g

-- a new file's length n
module _ (room : ℕ) (fs ks : List ℕ) {n : ℕ} (e : n ≡ up8 (31 + length fs + length ks)) where
  pub new_over : room < n → ltb room (length (layout (new_file fs ks))) ≡ true
  new_over h = rw (length-new fs ks, ← e) (lt-ltb room n h)

  pub new-within : n ≤ room → ltb room (length (layout (new_file fs ks))) ≡ false
  new-within h = rw (length-new fs ks, ← e) (le-ltb room n h)

-- what a new file's test tells the one who writes, and what is left then
module _ (buffer fs ks : List ℕ) where
  pub new_refused : {n p : ℕ} → Refused n p ≡ new_test (length buffer) fs ks
      → (record { answer = Refused n p; length = 0 } ≡ new_outcome buffer fs ks) × (buffer ≡ new_buffer buffer fs ks)
  unfolding new_outcome new_buffer accepted_or
  new_refused e = (rw (← e), rw (← e))

  module _ (e : Accepted ≡ new_test (length buffer) fs ks) where
    pub new-small : length fs + length ks ≤ 65497
    unfolding new_test
    new-small = under_ok _ _ _ _ (first-ok _ _ (sym e))

    pub new_room : up8 (31 + length fs + length ks) ≤ length buffer
    unfolding new_test
    new_room =
        let h : length (layout (new_file fs ks)) ≤ length buffer = under_ok _ _ _ _ (second-ok _ _ (second-ok _ _ (sym e))) in
        rw (length-new fs ks) at h

    pub new-outcome : {n : ℕ} → n ≡ up8 (31 + length fs + length ks) → record { answer = Accepted; length = n } ≡ new_outcome buffer fs ks
    unfolding new_outcome accepted_or
    new-outcome m = rw (← e, m, ← length-new fs ks)

    pub new-buffer : {after : List ℕ} → after ≡ put_at 0 (layout (new_file fs ks)) buffer → after ≡ new_buffer buffer fs ks
    unfolding new_buffer accepted_or
    new-buffer b = b ∙ rw (← e)

-- a file that takes another read has the header's bytes, and its flow characters as they are handed out are few
module _ (b : List ℕ) (e : Accepted ≡ open_test b) where
  open_accepted : file_test b ≡ Accepted
  unfolding open_test
  open_accepted = first-ok _ _ (sym e)

  pub open_header : 31 ≤ length b
  open_header = fits_31 b (head_ok b open_accepted)

  module _ {characters : List ℕ} (f : characters ≡ whole_part 31 (flows b) b) where
    pub open_characters : characters ≡ flow_characters b
    open_characters = f ∙ whole_in 31 (flows b) b (characters_fit b (head_ok b open_accepted))

    pub open_few : Bytes b → length characters < 65536
    open_few y =
        let h = open_header in
        let n : length (flow_characters b) ≡ flows b = characters-length b (head_ok b open_accepted) in
        rw (open_characters, n) (number_small 2 28 b y (omega arith))

-- what a read that is not refused shows
module _ (characters : List ℕ) (r : Read) (e : Accepted ≡ given_test characters r) where
  given_counts : (length r.values ≡ length characters) × (length r.increments ≡ length r.bases)
      × (length r.qualities ≡ length r.bases) × (length r.bases < 4294967296)
  unfolding given_test
  given_counts = counts_ok _ _ _ _ _ (when-ok _ _ _ (first-ok _ _ (sym e)))

  given_name : length r.name ≤ 65512
  unfolding given_test
  given_name = under_ok _ _ _ _ (first-ok _ _ (second-ok _ _ (sym e)))

  pub given_bounds : length characters < 65536 → (length r.name < 65536) × (length r.values < 65536) × (length r.bases < 4294967296)
  given_bounds h = let k = given_counts in let n = given_name in (omega arith, omega (arith, h, k.0), k.3)

  pub given_size : length (layout_read r) ≡ read_size r
  given_size = let k = given_counts in length-read r k.1 k.2

-- all reasons, over the flow characters as they are handed out
pub append-tested : (buffer : List ℕ) (len : ℕ) (r : Read) → Accepted ≡ open_test (take len buffer)
    → {characters : List ℕ} → characters ≡ whole_part 31 (flows (take len buffer)) (take len buffer) → {x : Answer} → x ≡
    (when (ltb (length buffer) len) 14 0
    then open_test (take len buffer)
    then given_test characters r
    then when (ltb (length buffer) (len + length (layout_read r))) 26 0)
    → x ≡ append_test buffer len r
unfolding append_test
append-tested buffer len r o f g = rw (open_characters (take len buffer) o f) at g

-- a read's size z, once it is not refused
module _ (room len : ℕ) (r : Read) (characters : List ℕ) (e : Accepted ≡ given_test characters r) {z : ℕ} (f : z ≡ read_size r) where
  pub read_over : room - len < z → ltb room (len + length (layout_read r)) ≡ true
  read_over h = rw (given_size characters r e, ← f) (lt-ltb room (len + z) (omega arith))

  pub read-within : len ≤ room → z ≤ room - len → ltb room (len + length (layout_read r)) ≡ false
  read-within k h = rw (given_size characters r e, ← f) (le-ltb room (len + z) (omega arith))

-- what a file and a read have that are not refused
pub record Fits (buffer : List ℕ) (len : ℕ) (r : Read) : Type 0 where
  pub count : 24 ≤ len
  pub stated : len ≤ length buffer
  pub whole : len + read_size r ≤ length buffer
  pub name : length r.name ≤ 65512
  pub values : length r.values < 65536
  pub increments : length r.increments ≡ length r.bases
  pub qualities : length r.qualities ≡ length r.bases
  pub bases : length r.bases < 4294967296

-- what an append's test tells the one who writes, and what is left then
module _ (buffer : List ℕ) (len : ℕ) (r : Read) where
  pub append_refused : {n p : ℕ} → Refused n p ≡ append_test buffer len r
      → (record { answer = Refused n p; length = len } ≡ append_outcome buffer len r) × (buffer ≡ append_buffer buffer len r)
  unfolding append_outcome append_buffer accepted_or
  append_refused e = (rw (← e), rw (← e))

  module _ (e : Accepted ≡ append_test buffer len r) where
    c : Carried buffer len r
    c = carried buffer len r (sym e)

    sized : length (layout_read r) ≡ read_size r
    sized = given_size (flow_characters (take len buffer)) r (sym c.given)

    file-fits : (31 ≤ len) × (len ≤ length buffer)
    file-fits =
        let h = fits_31 (take len buffer) (head_ok (take len buffer) c.accepted) in
        let l = length-take-le len buffer c.stated in
        (omega (arith, h, l), c.stated)

    pub append-fits : Bytes buffer → Fits buffer len r
    append-fits y =
        let h = file-fits in
        let l = length-take-le len buffer c.stated in
        let k = given_counts (flow_characters (take len buffer)) r (sym c.given) in
        let m = length-take (flows (take len buffer)) (drop 31 (take len buffer)) in
        let f : flows (take len buffer) < 65536 = number_small 2 28 (take len buffer) (bytes_take len buffer y) (omega arith) in
        record {
          count = omega arith;
          stated = c.stated;
          whole = rw (← sized) c.room;
          name = given_name (flow_characters (take len buffer)) r (sym c.given);
          values = omega (arith, k.0, m, f);
          increments = k.1;
          qualities = k.2;
          bases = k.3;
        }

    counted : {n : ℕ} → n ≡ number 4 20 buffer → read_count (take len buffer) ≡ n
    unfolding number
    counted f = let h = file-fits in rw (part-take 20 4 len buffer (omega arith) (omega arith)) (sym f)

    pub append-outcome : {z : ℕ} → z ≡ read_size r → record { answer = Accepted; length = len + z } ≡ append_outcome buffer len r
    unfolding append_outcome accepted_or
    append-outcome f = rw (← e, sized, f)

    pub append-buffer : {n : ℕ} → n ≡ number 4 20 buffer → {b b' : List ℕ} → b ≡ put_at len (layout_read r) buffer
        → b' ≡ put_at 20 (bytes_of 4 (n + 1)) b → b' ≡ append_buffer buffer len r
    unfolding append_buffer accepted_or
    append-buffer f g h = h ∙ rw (g, ← e, counted f)
