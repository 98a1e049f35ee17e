-- A correction is answered for the first reason that holds in document 01's order; and with one of its numbers. Assumes
-- nothing.
use Prim.Native.Nat.{ℕ, zero, suc, ◌+◌, ◌-◌, ◌<◌}
use mathlib.Core.Path.{◌≡◌, refl, sym, ap, ◌∙◌}
use mathlib.Core.Bool.{Bool, true, false, not, ◌&&◌, ◌||◌, true≢false}
use mathlib.Core.Logic.{◌↔◌}
use mathlib.Core.List.{List, [], ◌∷◌, ◌++◌, append-nil}
use native.Mathlib.Omega.{arith}
use borrow.Author.Tests.{not-true, not-false, ltb-true, ltb-false, lt-ltb, le-ltb}
use lib.ListN.{length, take, drop, get_or, length-drop}
use lib.Seq.{length-take-le, get_or-take, get_or-drop}
use lib.Dec.{ltb, eqb}
use Rattle.octets.specs.Parts.{same}
use Rattle.octets.specs.Numbers.{Bytes}
use Rattle.octets.proofs.Same.{same_is, is_same}
use Rattle.octets.proofs.AllBytes.{bytes_take}
use Rattle.answers.specs.Answer.{Answer, Accepted, Refused, number_of, accepted_or, ◌then◌, Refusing, among, Among}
use Rattle.answers.proofs.Answers.{not-accepted, first-ok, second-ok, both_ok, under_ok, ok_under, or_left, or_right, cond_keeps}
use Rattle.answers.proofs.Numbered.{zero_accepted, then-refusing, when-refusing, more_numbers}
use Rattle.answers.proofs.Reasons.{Tests, when_tests, Judged, chain_judged}
use Rattle.answers.specs.Rows.{RowByRow}
use Rattle.answers.proofs.Rows.{rows_judged, rows_numbers}
use Rattle.sff_format.specs.Rules.{declared}
use Rattle.sff_format.specs.Model.{Read, File, no_index, layout}
use Rattle.sff_format.specs.ReadTest.{clip_test}
use Rattle.sff_format.specs.Valid.{IsFile}
use Rattle.sff_format.specs.FileTest.{file_test}
use Rattle.sff_format.specs.Parse.{parse}
use Rattle.sff_format.specs.Places.{no_read, replaced}
use Rattle.sff_format.specs.Numbers.{file_numbers}
use Rattle.sff_format.proofs.Keeps.{none_declared, no_index_lem}
use Rattle.sff_format.proofs.Format.{accepted}
use Rattle.sff_format.proofs.Refusals.{file-numbers}
use Rattle.correction_format.specs.Record.{kind, old_length, new_length, name_field_test, unused_test, new_clips_test, new_name_test, record_test}
use Rattle.correction_format.specs.Correction.{Change, clips, rename, remove, Correction, is_clips}
use Rattle.correction_format.specs.RecordLayout.{parse_record}
use Rattle.correction_format.specs.Edit.{target, edited}
use Rattle.correction_format.specs.Reasons.{has_target, clips_above, name_among, new_name_among, position_above, other_name, index_present, clip_above, name_taken, no_room, reason_rows, reasons}
use Rattle.correction_format.specs.InOrder.{malformed, Present, RenameOrRemove, ClipsWithin, NewClipAbove, NameTaken, correction_reasons, reasons_against}
use Rattle.correction_format.specs.Numbers.{record_numbers, correct_numbers}
use Rattle.correction_format.specs.Correct.{correct_test}
use Rattle.correction_format.proofs.Edited.{clips_low}
use Rattle.correction_format.proofs.RecordsLaid.{record_exactly}

-- a name is borne exactly if some read has it
name_among_some : (name : List ℕ) (xs : List Read) → name_among name xs ≡ true → (j : ℕ) × (j < length xs) × ((get_or xs j no_read).name ≡ name)
unfolding name_among
name_among_some name [] h = absurd (true≢false (sym h))
name_among_some name (x ∷ xs) h = go (same name x.name) refl h (name_among_some name xs)
  where
    go : (t : Bool) → same name x.name ≡ t → (t || name_among name xs) ≡ true → (name_among name xs ≡ true → (j : ℕ) × (j < length xs) × ((get_or xs j no_read).name ≡ name))
        → (j : ℕ) × (j < length (x ∷ xs)) × ((get_or (x ∷ xs) j no_read).name ≡ name)
    go true e k f = (0, omega arith, sym (same_is name x.name e))
    go false e k f = let t = f k in (suc t.0, (let h = t.1 in omega arith), t.2)

none_named : (name : List ℕ) (xs : List Read) → name_among name xs ≡ false → (j : ℕ) → j < length xs → (get_or xs j no_read).name ≡ name → ⊥
unfolding name_among
none_named name [] b j h e = omega arith
none_named name (x ∷ xs) b zero h e = let s : same name x.name ≡ true = rw e (is_same name) in go (name_among name xs) (rw s at b)
  where
    go : (t : Bool) → (true || t) ≡ false → ⊥
    go t d = true≢false d
none_named name (x ∷ xs) b (suc j) h e = none_named name xs (go (same name x.name) b) j (omega arith) e
  where
    go : (t : Bool) → (t || name_among name xs) ≡ false → name_among name xs ≡ false
    go true d = absurd (true≢false d)
    go false d = d

pub name_among_append : (name : List ℕ) (us ws : List Read) → name_among name (us ++ ws) ≡ (name_among name us || name_among name ws)
unfolding name_among
name_among_append name [] ws = refl
name_among_append name (u ∷ us) ws = go (same name u.name) (name_among_append name us ws)
  where
    go : (t : Bool) → name_among name (us ++ ws) ≡ (name_among name us || name_among name ws) → (t || name_among name (us ++ ws)) ≡ ((t || name_among name us) || name_among name ws)
    go true e = refl
    go false e = e

-- the names of the reads at other positions
module _ (name : List ℕ) (i : ℕ) (rs : List Read) (h : i < length rs) where
  others_apart : name_among name (replaced i [] rs) ≡ (name_among name (take i rs) || name_among name (drop (suc i) rs))
  others_apart = ap (λ (us : List Read). name_among name (us ++ drop (suc i) rs)) (append-nil (take i rs)) ∙ name_among_append name (take i rs) (drop (suc i) rs)

  free_others : name_among name (replaced i [] rs) ≡ false → (j : ℕ) → j < length rs → (j ≡ i → ⊥) → (get_or rs j no_read).name ≡ name → ⊥
  free_others b j l d e = go (ltb j i) refl
    where
      apart : (name_among name (take i rs) || name_among name (drop (suc i) rs)) ≡ false
      apart = sym others_apart ∙ b

      go : (t : Bool) → ltb j i ≡ t → ⊥
      go true k =
          let m = ltb-true j i k in
          let n : length (take i rs) ≡ i = length-take-le i rs (omega arith) in
          none_named name (take i rs) (or_left (name_among name (take i rs)) (name_among name (drop (suc i) rs)) apart) j (omega (arith, n, m)) (rw (get_or-take i rs j no_read m) e)
      go false k =
          let m = ltb-false j i k in
          let n : length (drop (suc i) rs) ≡ length rs - suc i = length-drop (suc i) rs in
          let a : suc i + (j - suc i) ≡ j = omega (arith, m, d) in
          none_named name (drop (suc i) rs) (or_right (name_among name (take i rs)) (name_among name (drop (suc i) rs)) apart) (j - suc i) (omega (arith, n, m, d, l)) (rw (get_or-drop (suc i) rs (j - suc i) no_read, a) e)

  some_other : name_among name (replaced i [] rs) ≡ true → (j : ℕ) × (j < length rs) × (j ≡ i → ⊥) × ((get_or rs j no_read).name ≡ name)
  some_other b = go (name_among name (take i rs)) refl (sym others_apart ∙ b)
    where
      n : length (take i rs) ≡ i
      n = length-take-le i rs (omega arith)

      m : length (drop (suc i) rs) ≡ length rs - suc i
      m = length-drop (suc i) rs

      go : (t : Bool) → name_among name (take i rs) ≡ t → (t || name_among name (drop (suc i) rs)) ≡ true → (j : ℕ) × (j < length rs) × (j ≡ i → ⊥) × ((get_or rs j no_read).name ≡ name)
      go true e k =
          let t = name_among_some name (take i rs) e in
          let l : t.0 < i = (let q = t.1 in omega (arith, q, n)) in
          (t.0, omega (arith, l), (λ z. omega (arith, z, l)), rw (get_or-take i rs t.0 no_read l) at t.2)
      go false e k =
          let t = name_among_some name (drop (suc i) rs) k in
          let q = t.1 in
          (suc i + t.0, omega (arith, q, m), (λ z. omega (arith, z)), rw (get_or-drop (suc i) rs t.0 no_read) at t.2)

-- a test that holds exactly if the condition does
told : (t : Bool) (H : Type 0) → (t ≡ true → H) → (t ≡ false → H → ⊥) → (t ≡ true) ↔ H
told true H f g = (f, (λ h. refl))
told false H f g = ((λ e. absurd (true≢false (sym e))), (λ h. absurd (g refl h)))

-- two tests, the second asked where the first holds
both : (s t : Bool) (A B : Type 0) → ((s ≡ true) ↔ A) → (s ≡ true → (t ≡ true) ↔ B) → ((s && t) ≡ true) ↔ (A × B)
both true t A B h k = ((λ e. (h.0 refl, (k refl).0 e)), (λ p. (k refl).1 p.1))
both false t A B h k = ((λ e. absurd (true≢false (sym e))), (λ p. absurd (true≢false (sym (h.1 p.0)))))

-- 22's test by its facts
names_differ : (n m : List ℕ) → (not (same n m) ≡ true) ↔ (n ≡ m → ⊥)
names_differ n m =
    told (not (same n m)) (n ≡ m → ⊥) (λ e h. (let s : same n m ≡ true = rw h (is_same m) in true≢false (sym s ∙ not-true _ e))) (λ e h. h (same_is n m (not-false _ e)))

-- 25's
other-kind : (x : Change) → (not (is_clips x) ≡ true) ↔ RenameOrRemove x
other-kind (clips a b c d) = ((λ e. true≢false (sym e)), (λ h. absurd h))
other-kind (rename name) = ((λ e. tt), (λ h. refl))
other-kind remove = ((λ e. tt), (λ h. refl))

has_index : (f : File) → (declared f.index.offset (length f.index.bytes) ≡ true) ↔ (f.index ≡ no_index → ⊥)
has_index f = told _ (f.index ≡ no_index → ⊥) (λ e h. true≢false (sym e ∙ none_declared f h)) (λ e h. h (no_index_lem f e))

-- 23's
module _ (n a b c d : ℕ) where
  low_within : clips_above n (clips a b c d) ≡ false → ClipsWithin n a b c d
  unfolding clip_test
  low_within e =
      let t = clips_low n a b c d e in
      record {
        quality_left = under_ok _ _ _ _ (first-ok _ _ t);
        quality_right = under_ok _ _ _ _ (first-ok _ _ (second-ok _ _ t));
        adapter_left = under_ok _ _ _ _ (first-ok _ _ (second-ok _ _ (second-ok _ _ t)));
        adapter_right = under_ok _ _ _ _ (second-ok _ _ (second-ok _ _ (second-ok _ _ t)));
      }

  within_low : ClipsWithin n a b c d → clips_above n (clips a b c d) ≡ false
  unfolding clips_above clip_test accepted_or
  within_low w =
      let t : clip_test 0 n a b c d ≡ Accepted =
      both_ok _ _ (ok_under _ _ _ _ w.quality_left)
      (both_ok _ _ (ok_under _ _ _ _ w.quality_right) (both_ok _ _ (ok_under _ _ _ _ w.adapter_left) (ok_under _ _ _ _ w.adapter_right))) in
      ap (λ (a : Answer). accepted_or a false true) t

clip_above_lem : (n : ℕ) (x : Change) → (clips_above n x ≡ true) ↔ NewClipAbove n x
unfolding clips_above
clip_above_lem n (clips a b c d) =
    told (clips_above n (clips a b c d)) (ClipsWithin n a b c d → ⊥) (λ e w. true≢false (sym e ∙ within_low n a b c d w)) (λ e h. h (low_within n a b c d e))
clip_above_lem n (rename name) = ((λ e. true≢false (sym e)), (λ h. absurd h))
clip_above_lem n remove = ((λ e. true≢false (sym e)), (λ h. absurd h))

-- 24's
name_taken_lem : (x : Change) (i : ℕ) (f : File) → i < length f.reads → (new_name_among x (replaced i [] f.reads) ≡ true) ↔ NameTaken x i f
unfolding new_name_among
name_taken_lem (clips a b c d) i f h = ((λ e. true≢false (sym e)), (λ k. absurd k))
name_taken_lem (rename name) i f h =
    told (name_among name (replaced i [] f.reads)) (NameTaken (rename name) i f) (some_other name i f.reads h)
    (λ e b. free_others name i f.reads h e b.0 b.1 b.2 b.3)
name_taken_lem remove i f h = ((λ e. true≢false (sym e)), (λ k. absurd k))

-- The two tables agree row by row.
module _ (room : ℕ) (correction : Correction) (content : File) where
  present : (has_target correction content ≡ true) ↔ Present correction content
  present = (ltb-true correction.position (length content.reads), lt-ltb correction.position (length content.reads))

  pub rows_agree : RowByRow (reason_rows room correction content) (correction_reasons room correction content)
  unfolding position_above other_name index_present clip_above name_taken no_room
  rows_agree =
      let new = length (layout (edited correction content)) in (
        ((λ e. ltb-false correction.position (length content.reads) (not-true _ e)), (λ h. ap not (le-ltb correction.position (length content.reads) h))),
        refl,
        (
          both _ _ _ _ present (λ e. names_differ correction.old_name (target correction content).name),
          refl,
          (
            both _ _ _ _ (other-kind correction.change) (λ e. has_index content),
            refl,
            (
              both _ _ _ _ present (λ e. clip_above_lem (length (target correction content).bases) correction.change),
              refl,
              (
                both _ _ _ _ present
                    (λ e. name_taken_lem correction.change correction.position content (present.0 e)),
                refl,
                (both _ _ _ _ present (λ e. (ltb-true room new, lt-ltb room new)), refl, tt),
              ),
            ),
          ),
        ),
      )

  pub reasons-judged : Judged (correction_reasons room correction content) (reasons room correction content)
  unfolding reasons
  reasons-judged = rows_judged (reason_rows room correction content) (correction_reasons room correction content) rows_agree

  pub reasons-numbers : Among correct_numbers (reasons room correction content)
  unfolding reasons among
  reasons-numbers = rows_numbers correct_numbers (reason_rows room correction content) refl

-- the record's own test, and the file's
field_20 : (p n : ℕ) (r : List ℕ) → Refusing (λ m q. (m ≡ 20) × (q ≡ 0)) (name_field_test p n r)
unfolding name_field_test
field_20 p n r = then-refusing _ _ _ (when-refusing _ _ 20 0 (refl, refl)) (then-refusing _ _ _ (when-refusing _ _ 20 0 (refl, refl)) (when-refusing _ _ 20 0 (refl, refl)))

unused_20 : (p n : ℕ) (r : List ℕ) → Refusing (λ m q. (m ≡ 20) × (q ≡ 0)) (unused_test p n r)
unfolding unused_test
unused_20 p n r = when-refusing _ _ 20 0 (refl, refl)

record_20 : (r : List ℕ) → Refusing (λ m q. (m ≡ 20) × (q ≡ 0)) (record_test r)
unfolding record_test new_clips_test new_name_test
record_20 r =
    then-refusing _ _ _ (when-refusing _ _ 20 0 (refl, refl))
    (
    then-refusing _ _ _ (when-refusing _ _ 20 0 (refl, refl))
    (
    then-refusing _ _ _ (unused_20 3 1 r)
    (
    then-refusing _ _ _ (field_20 16 (old_length r) r)
    (
    then-refusing _ _ _ (cond_keeps (Refusing (λ m q. (m ≡ 20) × (q ≡ 0))) (eqb (kind r) 1) Accepted (unused_test 8 8 r) tt (unused_20 8 8 r))
    (
    cond_keeps (Refusing (λ m q. (m ≡ 20) × (q ≡ 0))) (eqb (kind r) 2) (name_field_test 56 (new_length r) r) (unused_test 2 1 r then unused_test 56 40 r)
    (field_20 56 (new_length r) r) (then-refusing _ _ _ (unused_20 2 1 r) (unused_20 56 40 r))
    )
    )
    )
    )
    )

pub record_tests : (r : List ℕ) → Bytes r → Tests (record_test r) (malformed r)
record_tests r z = record {
  accepts = (λ e h. h ((record_exactly r).0 (z, e)));
  refuses = (
      λ n p e.
      let t : (n ≡ 20) × (p ≡ 0) = (let q = record_20 r in rw e at q) in
      ((λ c. not-accepted n p (sym e ∙ ((record_exactly r).1 c).1)), rw (t.0, t.1))
      );
}

-- so it has the one number, which is also a correction's
only_20 : (ns : List ℕ) → among 20 ns ≡ true → (a : Answer) → Refusing (λ m q. (m ≡ 20) × (q ≡ 0)) a → Among ns a
only_20 ns w Accepted h = tt
only_20 ns w (Refused n p) h = rw h.0 w

pub record-numbers : («record» : List ℕ) → Among record_numbers (record_test «record»)
unfolding among
record-numbers «record» = only_20 record_numbers refl (record_test «record») (record_20 «record»)

file_tests : (b : List ℕ) → Bytes b → Tests (file_test b) (record { holds = IsFile b → ⊥; answer = file_test b })
file_tests b y = record {
  accepts = (λ e h. h ((accepted b).0 (y, e)));
  refuses = (λ n p e. ((λ c. not-accepted n p (sym e ∙ ((accepted b).1 c).1)), e));
}

-- the whole order
module _ (buffer : List ℕ) (len : ℕ) (r : List ℕ) where
  pub correct-judged : Bytes buffer → Bytes r → Judged (reasons_against buffer len r) (correct_test buffer len r)
  unfolding correct_test
  correct-judged y z =
      chain_judged _ _ _ _
      (when_tests (length buffer < len) _ 14 0 (λ e. ltb-true (length buffer) len e) (λ e h. (let k = ltb-false (length buffer) len e in omega (arith, k, h))))
      (
      λ inside.
      chain_judged _ _ _ _ (record_tests r z)
      (λ formed. chain_judged _ _ _ _ (file_tests (take len buffer) (bytes_take len buffer y)) (λ kept. reasons-judged (length buffer) (parse_record r) (parse (take len buffer))))
      )

  -- the numbers of document 01's list
  pub correct-numbers : Among correct_numbers (correct_test buffer len r)
  unfolding correct_test among
  correct-numbers =
      then-refusing _ _ _ (when-refusing _ _ 14 _ refl)
      (
      then-refusing _ _ _ (only_20 correct_numbers refl (record_test r) (record_20 r))
      (
      then-refusing _ _ _ (more_numbers file_numbers correct_numbers refl (file_test (take len buffer)) (file-numbers (take len buffer)))
      (reasons-numbers (length buffer) (parse_record r) (parse (take len buffer)))
      )
      )

  -- 0 is in none of the lists
  pub correct_zero : number_of (correct_test buffer len r) ≡ 0 → correct_test buffer len r ≡ Accepted
  unfolding among
  correct_zero e = zero_accepted correct_numbers refl (correct_test buffer len r) correct-numbers e
