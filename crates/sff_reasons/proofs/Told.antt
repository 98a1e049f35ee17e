-- Each reason's test by what the code reads at the place of the read and in the record's fields. Assumes nothing.
use Prim.Native.Nat.{ℕ, ◌+◌, ◌-◌, ◌*◌, ◌≤◌, ◌<◌}
use mathlib.Core.Path.{◌≡◌, refl, sym, ap, ◌∙◌}
use mathlib.Core.Bool.{Bool, true, false, not}
use mathlib.Core.List.{List, []}
use native.Mathlib.Omega.{arith}
use denote.Enum.Bare.{sameb}
use borrow.Author.Tests.{not-false, ltb-true, ltb-false, lt-ltb, le-ltb, leb-true, leb-false}
use lib.Dec.{ltb, leb}
use lib.ListN.{length, drop}
use Rattle.std.specs.Prelude.{Result, Ok, Err}
use Rattle.std.specs.Result.{is_err}
use Rattle.octets.specs.Parts.{part, same, up8}
use Rattle.octets.specs.Numbers.{Bytes}
use Rattle.octets.proofs.AllBytes.{bytes_of_lem}
use Rattle.octets.proofs.Lists.{length_part}
use Rattle.answers.specs.declared.Refusal.{Refusal}
use Rattle.answers.specs.Answer.{Accepted, Refused, answer_of, accepted_or}
use Rattle.answers.specs.Rows.{Row, first_row}
use Rattle.answers.proofs.Rows.{row-holds, row-not}
use Rattle.sff_format.specs.Rules.{declared}
use Rattle.sff_format.specs.Model.{layout}
use Rattle.sff_format.specs.HeaderTest.{index_offset, index_length, read_count, flows, flow_characters}
use Rattle.sff_format.specs.ReadTest.{section_length, name_length, base_count, clip_test, read_test}
use Rattle.sff_format.specs.FileTest.{file_test}
use Rattle.sff_format.specs.Parse.{parse_read, parse}
use Rattle.sff_format.specs.Places.{read_place}
use Rattle.sff_format.proofs.HeaderLaws.{characters-length}
use Rattle.sff_format.proofs.Indexes.{index-length}
use Rattle.sff_format.proofs.ReadLaid.{fits_16, section_is, section_fits, name_fits, data_fits}
use Rattle.sff_format.proofs.FileLaid.{head_ok, reads-counted, index-passed, file_laid}
use Rattle.sff_format.proofs.Places.{read_found}
use Rattle.sff_format.proofs.Positions.{read-accepted}
use Rattle.correction_format.specs.declared.Fields.{Fields}
use Rattle.correction_format.specs.declared.Kind.{Kind}
use Rattle.correction_format.specs.declared.Kind.TheVariants.{Clips, Rename, Remove}
use Rattle.correction_format.specs.contracts.Kind.{the_type}
use Rattle.correction_format.specs.Record.{record_test, old_name, new_name}
use Rattle.correction_format.specs.Correction.{is_clips}
use Rattle.correction_format.specs.RecordLayout.{change_in}
use Rattle.correction_format.specs.Fields.{FieldsOf, asked}
use Rattle.correction_format.specs.Edit.{target, edited}
use Rattle.correction_format.specs.Reasons.{has_target, clips_above, others, name_among, new_name_among, position_above, other_name, index_present, clip_above, name_taken, no_room, reason_rows, reasons}
use Rattle.correction_format.proofs.Asked.{clips-asked, rename-asked, not-clips, not-rename, new_length_of}
use Rattle.correction_format.proofs.EditedSizes.{clips-size, name-size, none_size}
use Rattle.sff_record.specs.declared.inner.Record.{Record}
use Rattle.sff_reasons.specs.declared.inner.Judged.{Judged}

-- what the code asks of a kind
pub kind_is : (k j : Kind) → true ≡ sameb the_type k j → k ≡ j
kind_is Clips Clips e = refl
kind_is Clips Rename e = absurd (let z : ◌≡◌ {A = ℕ} 0 1 = cc in let f : ⊥ = omega arith in f)
kind_is Clips Remove e = absurd (let z : ◌≡◌ {A = ℕ} 0 1 = cc in let f : ⊥ = omega arith in f)
kind_is Rename Clips e = absurd (let z : ◌≡◌ {A = ℕ} 0 1 = cc in let f : ⊥ = omega arith in f)
kind_is Rename Rename e = refl
kind_is Rename Remove e = absurd (let z : ◌≡◌ {A = ℕ} 0 1 = cc in let f : ⊥ = omega arith in f)
kind_is Remove Clips e = absurd (let z : ◌≡◌ {A = ℕ} 0 1 = cc in let f : ⊥ = omega arith in f)
kind_is Remove Rename e = absurd (let z : ◌≡◌ {A = ℕ} 0 1 = cc in let f : ⊥ = omega arith in f)
kind_is Remove Remove e = refl

kind_itself : (k : Kind) → sameb the_type k k ≡ true
kind_itself Clips = refl
kind_itself Rename = refl
kind_itself Remove = refl

pub kind_not : (k j : Kind) → false ≡ sameb the_type k j → k ≡ j → ⊥
kind_not k j e f =
    let g : false ≡ true = e ∙ rw f (kind_itself j) in
    let z : ◌≡◌ {A = ℕ} 0 1 = cc in omega arith

turned : (s t : Bool) → s ≡ not t → not s ≡ t
turned s true e = ap not e
turned s false e = ap not e

pub kind_differs : (k j : Kind) → true ≡ not (sameb the_type k j) → k ≡ j → ⊥
kind_differs k j e = kind_not k j (turned true (sameb the_type k j) e)

pub kind_equals : (k j : Kind) → false ≡ not (sameb the_type k j) → k ≡ j
kind_equals k j e = kind_is k j (turned false (sameb the_type k j) e)

-- an accepted file, and the fields of a well-formed record: the file has a read at their position
pub record ReadAtPosition (file r : List ℕ) (fields : Fields) : Type 0 where
  pub bytes : Bytes file
  pub accepted : file_test file ≡ Accepted
  pub formed : record_test r ≡ Accepted
  pub fields_of : FieldsOf fields r
  pub below : fields.position < read_count file

pub found_by : {b : List ℕ} (t : Record) → Bytes b → file_test b ≡ Accepted → t.fields.position < read_count b
    → ReadAtPosition b t.bytes.now t.fields
found_by t z e h = record { bytes = z; accepted = e; formed = t.formed; fields_of = t.fields_of; below = h }

-- what is judged is that
pub found : (j : Judged) → ReadAtPosition j.file.now j.record.now.bytes.now j.record.now.fields
found j = found_by j.record.now (bytes_of_lem j.file.now j.bytes_fit) j.accepted j.below

-- a refusal by the code's word
told_by : {T : Type 0} (v : Result T Refusal) → is_err v ≡ accepted_or (answer_of v) false true
unfolding accepted_or
told_by (Ok value) = refl
told_by (Err refusal) = refl

-- as much is added on both sides of a test
moved_over : (room n k u v : ℕ) → n ≤ room → v + k ≡ n + u → ltb (room - n + k) u ≡ ltb room v
moved_over room n k u v h e = go (ltb room v) refl
  where
    go : (t : Bool) → ltb room v ≡ t → ltb (room - n + k) u ≡ t
    go true l = let m = ltb-true room v l in lt-ltb (room - n + k) u (omega arith)
    go false l = let m = ltb-false room v l in le-ltb (room - n + k) u (omega arith)

-- 21 by the header's count
module _ (b r : List ℕ) (x : Fields) (room : ℕ) where
  pub above_told : {n : ℕ} → n ≡ read_count b → leb n x.position ≡ position_above room (asked x r) (parse b)
  unfolding position_above
  above_told {n} e = go (leb n x.position) refl
    where
      m : length (parse b).reads ≡ n
      m = reads-counted b ∙ sym e

      go : (t : Bool) → leb n x.position ≡ t → t ≡ not (ltb x.position (length (parse b).reads))
      go true l = sym (ap not (le-ltb x.position _ (let h = leb-true n x.position l in omega (arith, m, h))))
      go false l = sym (ap not (lt-ltb x.position _ (let h = leb-false n x.position l in omega (arith, m, h))))

  pub below-count : position_above room (asked x r) (parse b) ≡ false → x.position < read_count b
  unfolding position_above
  below-count e = rw (reads-counted b) at (ltb-true x.position (length (parse b).reads) (not-false _ e))

module _ {b r : List ℕ} {x : Fields} (s : ReadAtPosition b r x) where
  count : x.position < length (parse b).reads
  count = rw (reads-counted b) s.below

  has_target_lem : has_target (asked x r) (parse b) ≡ true
  has_target_lem = lt-ltb _ _ count

  laid : length (layout (parse b)) ≡ length b
  laid = ap length (file_laid b s.bytes s.accepted)

  module _ (room : ℕ) where
    -- the position (21)
    pub read-there : position_above room (asked x r) (parse b) ≡ false
    unfolding position_above
    read-there = ap not has_target_lem

    -- an index (25): clips may be changed beside one
    pub clips_pass : x.kind ≡ Clips → false ≡ index_present room (asked x r) (parse b)
    unfolding index_present
    clips_pass k = rw (clips-asked x r s.fields_of k)

    pub index_told : (x.kind ≡ Clips → ⊥) → {d : Bool} → d ≡ declared (index_offset b) (index_length b) → d ≡ index_present room (asked x r) (parse b)
    unfolding index_present parse
    index_told k e = rw (not-clips x r s.fields_of (λ y. is_clips y ≡ false) k refl refl, index-length b (index-passed b s.bytes s.accepted)) e

    -- another read's name (24): only a rename can take one
    pub none_borne : (x.kind ≡ Rename → ⊥) → false ≡ name_taken room (asked x r) (parse b)
    unfolding name_taken new_name_among
    none_borne k = rw (has_target_lem, not-rename x r s.fields_of (λ y. new_name_among y (others (asked x r) (parse b)) ≡ false) k refl refl)

    pub borne_told : x.kind ≡ Rename → {t : Bool} → t ≡ name_among (new_name r) (others (asked x r) (parse b)) → t ≡ name_taken room (asked x r) (parse b)
    unfolding name_taken new_name_among
    borne_told k e = rw (has_target_lem, rename-asked x r s.fields_of k) e

    -- room (26): only a longer name can lack it
    pub room_kept : length b ≤ room → (x.kind ≡ Rename → ⊥) → false ≡ no_room room (asked x r) (parse b)
    unfolding no_room
    room_kept h k =
        let c = asked x r in
        let m : length (layout (edited c (parse b))) ≤ length b =
        not-rename x r s.fields_of (λ y. change_in r ≡ y → length (layout (edited c (parse b))) ≤ length b) k
        (λ e. let n = clips-size c (parse b) count _ _ _ _ e in omega (arith, n, laid))
        (λ e. let n = none_size c (parse b) count e in omega (arith, n, laid)) refl in
        let n : length (layout (edited c (parse b))) ≤ room = omega arith in
        rw (has_target_lem, le-ltb room _ n)

  -- at the place of the read
  module _ {p : ℕ} (o : p ≡ read_place b x.position) where
    there : read_test (flow_characters b) b p ≡ Accepted
    there = rw o (read-accepted b x.position s.accepted s.below)

    read_is : target (asked x r) (parse b) ≡ parse_read (flows b) b p
    read_is = rw o (read_found b s.bytes s.accepted x.position s.below)

    pub found_begins : p + 16 ≤ length b
    found_begins = fits_16 (flow_characters b) b p there

    pub found_section : p + section_length b p ≤ length b
    found_section = section_fits (flow_characters b) b p there

    pub found_name : p + 16 + name_length b p ≤ length b
    found_name = name_fits (flow_characters b) b p there

    name_is : (target (asked x r) (parse b)).name ≡ part (p + 16) (name_length b p) b
    unfolding parse_read
    name_is = rw read_is

    bases-length : length (target (asked x r) (parse b)).bases ≡ base_count b p
    unfolding parse_read
    bases-length =
        let f = rw (characters-length b (head_ok b s.accepted)) at (data_fits (flow_characters b) b p there) in
        rw read_is (length_part (p + section_length b p + 2 * flows b + base_count b p) (base_count b p) b (omega arith))

    module _ (room : ℕ) where
      -- the read's name (22)
      pub name_told : {t : Bool} → t ≡ same (old_name r) (part (p + 16) (name_length b p) b) → not t ≡ other_name room (asked x r) (parse b)
      unfolding other_name
      name_told e = rw (has_target_lem, name_is, e)

      -- clips above the bases (23): only kind 1 gives clips
      pub none_above : (x.kind ≡ Clips → ⊥) → false ≡ clip_above room (asked x r) (parse b)
      unfolding clip_above clips_above
      none_above k = rw (has_target_lem, not-clips x r s.fields_of (λ y. clips_above (length (target (asked x r) (parse b)).bases) y ≡ false) k refl refl)

      pub clips_told : x.kind ≡ Clips → {n : ℕ} → n ≡ base_count b p → {T : Type 0} (v : Result T Refusal)
          → answer_of v ≡ clip_test 0 n x.quality_left x.quality_right x.adapter_left x.adapter_right
          → is_err v ≡ clip_above room (asked x r) (parse b)
      unfolding clip_above clips_above
      clips_told k l v e = sym (rw (has_target_lem, bases-length, clips-asked x r s.fields_of k, ← l, ← e) (sym (told_by v)))

      -- 26, by the two header sections
      pub room_told : x.kind ≡ Rename → length b ≤ room → {k u : ℕ} → k ≡ section_length b p → u ≡ up8 (16 + x.new_length)
          → ltb (room - length b + k) u ≡ no_room room (asked x r) (parse b)
      unfolding no_room
      room_told k h e f =
          let n = name-size (asked x r) (parse b) count (new_name r) (rename-asked x r s.fields_of k) in
          let m = ap length name_is ∙ length_part (p + 16) (name_length b p) b found_name in
          let z : length (layout (edited (asked x r) (parse b))) + section_length b p ≡ length b + up8 (16 + x.new_length) =
          rw (m, ← section_is (flow_characters b) b p there, laid, ← new_length_of x r s.fields_of s.formed) at n in
          rw (has_target_lem, e, f) (moved_over room (length b) (section_length b p) _ _ h z)

-- The tests in document 01's order: the first that holds gives its number.
module _ {b r : List ℕ} {x : Fields} (s : ReadAtPosition b r x) (room : ℕ) where
  abbrev rows : List Row
  rows = reason_rows room (asked x r) (parse b)

  none_21 : first_row rows ≡ first_row (drop 1 rows)
  none_21 = row-not 21 _ _ (read-there s room)

  pub first_22 : true ≡ other_name room (asked x r) (parse b) → Refused 22 0 ≡ reasons room (asked x r) (parse b)
  unfolding reasons
  first_22 e = sym (none_21 ∙ row-holds 22 _ _ (sym e))

  module _ (e₂ : false ≡ other_name room (asked x r) (parse b)) where
    none_22 : first_row rows ≡ first_row (drop 2 rows)
    none_22 = none_21 ∙ row-not 22 _ _ (sym e₂)

    pub first_25 : true ≡ index_present room (asked x r) (parse b) → Refused 25 0 ≡ reasons room (asked x r) (parse b)
    unfolding reasons
    first_25 e = sym (none_22 ∙ row-holds 25 _ _ (sym e))

    module _ (e₅ : false ≡ index_present room (asked x r) (parse b)) where
      none_25 : first_row rows ≡ first_row (drop 3 rows)
      none_25 = none_22 ∙ row-not 25 _ _ (sym e₅)

      pub first_23 : true ≡ clip_above room (asked x r) (parse b) → Refused 23 0 ≡ reasons room (asked x r) (parse b)
      unfolding reasons
      first_23 e = sym (none_25 ∙ row-holds 23 _ _ (sym e))

      module _ (e₃ : false ≡ clip_above room (asked x r) (parse b)) where
        none_23 : first_row rows ≡ first_row (drop 4 rows)
        none_23 = none_25 ∙ row-not 23 _ _ (sym e₃)

        pub first_24 : true ≡ name_taken room (asked x r) (parse b) → Refused 24 0 ≡ reasons room (asked x r) (parse b)
        unfolding reasons
        first_24 e = sym (none_23 ∙ row-holds 24 _ _ (sym e))

        module _ (e₄ : false ≡ name_taken room (asked x r) (parse b)) where
          none_24 : first_row rows ≡ first_row (drop 5 rows)
          none_24 = none_23 ∙ row-not 24 _ _ (sym e₄)

          pub first_26 : true ≡ no_room room (asked x r) (parse b) → Refused 26 0 ≡ reasons room (asked x r) (parse b)
          unfolding reasons
          first_26 e = sym (none_24 ∙ row-holds 26 _ _ (sym e))

          pub none_26 : false ≡ no_room room (asked x r) (parse b) → Accepted ≡ reasons room (asked x r) (parse b)
          unfolding reasons first_row
          none_26 e = sym (none_24 ∙ row-not 26 _ [] (sym e))
