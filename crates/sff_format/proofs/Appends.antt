-- What an append asks and what it leaves: the file written afresh with one read more. Assumes nothing.
use Prim.Native.Nat.{ℕ, ◌+◌, ◌≤◌}
use mathlib.Core.Path.{◌≡◌, refl, ap, ◌∙◌}
use mathlib.Core.Bool.{false}
use mathlib.Core.List.{List, [], ◌∷◌, ◌++◌}
use native.Mathlib.Omega.{arith}
use lib.ListN.{length, take, length-append, take-append-drop}
use borrow.Author.Tests.{ne_eqb, eqb-false}
use Rattle.octets.specs.Parts.{put_at, part}
use Rattle.octets.specs.Numbers.{bytes_of, Bytes}
use Rattle.octets.proofs.Lists.{length_put, put_next, put_front_lem}
use Rattle.octets.proofs.Digits.{length-bytes_of}
use Rattle.answers.specs.Answer.{Accepted, accepted_or}
use Rattle.sff_format.specs.Rules.{declared}
use Rattle.sff_format.specs.Model.{Read, no_index, layout_read, layout, with_reads}
use Rattle.sff_format.specs.Valid.{Valid}
use Rattle.sff_format.specs.HeaderTest.{index_offset, index_length, read_count, flow_characters, key_characters}
use Rattle.sff_format.specs.FileTest.{file_test}
use Rattle.sff_format.specs.Writing.{given_test, open_test, append_test, append_outcome, append_buffer, FitsSlices}
use Rattle.answers.proofs.Answers.{first-ok, second-ok, both_ok, when-ok, ok-when, under_ok, ok_under}
use Rattle.sff_format.proofs.Sizes.{length_header}
use Rattle.sff_format.proofs.Appended.{layout-plain, appended}
use Rattle.sff_format.proofs.Given.{given_valid}
use lib.Seq.{length-take-le}
use Rattle.sff_format.specs.Parse.{parse}
use Rattle.sff_format.proofs.Boundaries.{undeclared}
use Rattle.sff_format.proofs.FileLaid.{reads-counted, file_laid, file_valid}
use Rattle.sff_format.proofs.Keeps.{valid_append, plain, is_plain, plain_valid}

module _ (characters key : List ℕ) (us : List Read) where
  -- the header alone has room for the count
  header_room : 31 ≤ length (layout (plain characters key us))
  header_room = rw (layout-plain (plain characters key us) refl, length-append, length_header (plain characters key us)) (omega arith)

  module _ (r : Read) where
    abbrev pub more : List ℕ
    more = bytes_of 4 (length us + 1)

    -- the file with one read more, as an append writes it
    one_more_lem : layout (plain characters key (us ++ (r ∷ []))) ≡ put_at 20 more (layout (plain characters key us) ++ layout_read r)
    one_more_lem = appended (plain characters key us) r refl

    room : 20 + length more ≤ length (layout (plain characters key us) ++ layout_read r)
    room = let h = header_room in rw (length-bytes_of, length-append) (omega arith)

    pub length_more : length (layout (plain characters key (us ++ (r ∷ [])))) ≡ length (layout (plain characters key us)) + length (layout_read r)
    length_more = rw (one_more_lem, length_put 20 more (layout (plain characters key us) ++ layout_read r) room, length-append)

    module _ (buffer : List ℕ) (fits : length (layout (plain characters key us)) ≤ length buffer) where
      -- an append writes the file with one read more where the file stood
      pub appended_in : put_at 20 more (put_at (length (layout (plain characters key us))) (layout_read r) (put_at 0 (layout (plain characters key us)) buffer))
          ≡ put_at 0 (layout (plain characters key (us ++ (r ∷ [])))) buffer
      appended_in =
          let L = layout (plain characters key us) in
          let p : put_at (length L) (layout_read r) (put_at 0 L buffer) ≡ put_at 0 (L ++ layout_read r) buffer =
          let z : 0 + length L ≡ length L = omega arith in rw z at (put_next 0 (length L) L (layout_read r) buffer refl (omega arith)) in
          rw (p, one_more_lem) (put_front_lem 20 more (L ++ layout_read r) buffer room)

-- All that an append asks: no reason to refuse holds.
pub record Carried (buffer : List ℕ) (len : ℕ) (r : Read) : Type 0 where
  pub stated : len ≤ length buffer
  pub accepted : file_test (take len buffer) ≡ Accepted
  pub no_index_lem : declared (index_offset (take len buffer)) (index_length (take len buffer)) ≡ false
  pub below : read_count (take len buffer) ≡ 4294967295 → ⊥
  pub given : given_test (flow_characters (take len buffer)) r ≡ Accepted
  pub room : len + length (layout_read r) ≤ length buffer

module _ (buffer : List ℕ) (len : ℕ) (r : Read) where
  pub carried : append_test buffer len r ≡ Accepted → Carried buffer len r
  unfolding append_test open_test
  carried a =
      let more = second-ok _ _ a in
      let takes = first-ok _ _ more in
      record {
        stated = under_ok _ _ _ _ (first-ok _ _ a);
        accepted = first-ok _ _ takes;
        no_index_lem = when-ok _ _ _ (first-ok _ _ (second-ok _ _ takes));
        below = λ e. eqb-false (read_count (take len buffer)) 4294967295 (when-ok _ _ _ (second-ok _ _ (second-ok _ _ takes))) e;
        given = first-ok _ _ (second-ok _ _ more);
        room = under_ok _ _ _ _ (second-ok _ _ (second-ok _ _ more));
      }

  pub carried_out : Carried buffer len r → append_test buffer len r ≡ Accepted
  unfolding append_test open_test
  carried_out c =
      both_ok _ _ (ok_under (length buffer) len _ _ c.stated)
      (
      both_ok _ _
      (both_ok _ _ c.accepted (both_ok _ _ (ok-when _ _ _ c.no_index_lem) (ok-when _ _ _ (ne_eqb (read_count (take len buffer)) 4294967295 c.below))))
      (both_ok _ _ c.given (ok_under (length buffer) (len + length (layout_read r)) _ _ c.room))
      )

pub append-done : (buffer : List ℕ) (len : ℕ) (r : Read) → append_test buffer len r ≡ Accepted
    → append_outcome buffer len r ≡ record { answer = Accepted; length = len + length (layout_read r) }
unfolding append_outcome accepted_or
append-done buffer len r e = rw e

pub append_left : (buffer : List ℕ) (len : ℕ) (r : Read) → append_test buffer len r ≡ Accepted
    → append_buffer buffer len r ≡ put_at 20 (bytes_of 4 (read_count (take len buffer) + 1)) (put_at len (layout_read r) buffer)
unfolding append_buffer accepted_or
append_left buffer len r e = rw e

pub no_index_read : (b : List ℕ) → declared (index_offset b) (index_length b) ≡ false → (parse b).index ≡ no_index
unfolding parse
no_index_read b d = let u = undeclared (index_offset b) (index_length b) d in λ j. record { offset = u.0 j; bytes = part (u.0 j) (u.1 j) b }

module _ (buffer : List ℕ) (len : ℕ) (read : Read) (y : Bytes (take len buffer)) (a : append_test buffer len read ≡ Accepted) where
  abbrev old : List ℕ
  old = take len buffer

  c : Carried buffer len read
  c = carried buffer len read a

  length-old : length old ≡ len
  length-old = length-take-le len buffer c.stated

  itself : put_at 0 old buffer ≡ buffer
  unfolding put_at
  itself = let l : 0 + length old ≡ len = omega (arith, length-old) in rw l (take-append-drop len buffer)

  laid : layout (plain (flow_characters old) (key_characters old) (parse old).reads) ≡ old
  unfolding parse
  laid = ap layout (is_plain (parse old) (no_index_read old c.no_index_lem)) ∙ file_laid old y c.accepted

  -- without an index the model is as the new file's, with reads
  same_model : with_reads ((parse old).reads ++ (read ∷ [])) (parse old)
      ≡ plain (flow_characters old) (key_characters old) ((parse old).reads ++ (read ∷ []))
  unfolding parse
  same_model = λ j. record { flow_characters = flow_characters old; key = key_characters old; index = no_index_read old c.no_index_lem j; reads = (parse old).reads ++ (read ∷ []) }

  pub append-afresh : append_buffer buffer len read
      ≡ put_at 0 (layout (with_reads ((parse old).reads ++ (read ∷ [])) (parse old))) buffer
  append-afresh =
      let put = appended_in (flow_characters old) (key_characters old) (parse old).reads read buffer (rw (laid, length-old) c.stated) in
      append_left buffer len read a ∙ (rw (laid, length-old, itself, reads-counted old) at put) ∙ rw same_model

  -- and that file keeps the rules
  pub append_valid : FitsSlices read → Valid (with_reads ((parse old).reads ++ (read ∷ [])) (parse old))
  unfolding parse
  append_valid t =
      let v = file_valid old y c.accepted in
      let n = v.count_fits in
      let b = c.below in
      let l : length ((parse old).reads ++ (read ∷ [])) ≡ length (parse old).reads + 1 = length-append (parse old).reads (read ∷ []) in
      rw same_model
      (plain_valid (flow_characters old) (key_characters old) ((parse old).reads ++ (read ∷ [])) v.characters_good v.header_fits (omega (arith, n, l, reads-counted old, b))
      (valid_append (flow_characters old) (parse old).reads (read ∷ []) v.reads_good (given_valid (flow_characters old) read t c.given, tt)))
