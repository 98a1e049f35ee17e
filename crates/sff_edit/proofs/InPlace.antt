-- What the code writes, call by call, is the edit, and the edit leaves the file written afresh with the read changed or
-- left out. Assumes nothing.
use Prim.Native.Nat.{ℕ, ◌+◌, ◌-◌, ◌≤◌, ◌<◌, max}
use mathlib.Core.Path.{◌≡◌, refl, sym, ap, ◌∙◌}
use mathlib.Core.Bool.{false}
use mathlib.Core.Logic.{◌⊎◌, inl, inr}
use mathlib.Core.List.{List, [], ◌∷◌, ◌++◌, append_assoc, append-nil}
use native.Mathlib.Omega.{arith}
use lib.ListN.{length, take, drop, length-append, length-take, length-drop}
use lib.Seq.{length-take-le, take-take, take_at, drop_at}
use Rattle.octets.specs.Parts.{part, put_at, filled, filled_front, spliced, up8}
use Rattle.octets.specs.Numbers.{Bytes, number, bytes_of, fields, words, unit_bytes, units_at, words_at}
use Rattle.octets.proofs.Lists.{part_in, part_put, length_put, put_over, put_next, length_part}
use Rattle.octets.proofs.AllBytes.{bytes_take, bytes-part}
use Rattle.octets.proofs.Digits.{length-bytes_of}
use Rattle.octets.proofs.Inserts.{drop-rest}
use Rattle.octets.proofs.Stands.{stands_read, units_stand, length_units, length_fields_lem, length-filled, field_filled, number-take}
use Rattle.octets.proofs.FilledFront.{filled_front_front, filled_front_put, splice_filled_front}
use Rattle.answers.specs.Answer.{Accepted}
use Rattle.sff_format.specs.Model.{Read, no_index, read_fields, layout_read_header, layout_read_data, layout_read, layout_reads, layout, with_reads}
use Rattle.sff_format.specs.HeaderTest.{read_count, flows, flow_characters, header_test}
use Rattle.sff_format.specs.ReadTest.{section_length, name_length, read_test, read_end}
use Rattle.sff_format.specs.FileTest.{file_test}
use Rattle.sff_format.specs.Parse.{parse_read, parse}
use Rattle.sff_format.specs.Places.{replaced, read_place}
use Rattle.sff_format.proofs.Sizes.{length_header, length-layout}
use Rattle.sff_format.proofs.HeaderLaws.{fits_31, characters-length}
use Rattle.sff_format.proofs.FileLaid.{head_ok, ends, reads-counted, file_laid}
use Rattle.sff_format.proofs.ReadLaid.{fits_16, section_is, section_fits, data_fits}
use Rattle.sff_format.proofs.Places.{read_found, read_split, read_changed, read_gone}
use Rattle.sff_format.proofs.Positions.{read-accepted}
use Rattle.correction_format.specs.declared.Fields.{Fields}
use Rattle.correction_format.specs.declared.Kind.TheVariants.{Clips, Rename, Remove}
use Rattle.correction_format.specs.Record.{kind, new_length, new_name, record_test}
use Rattle.correction_format.specs.Correction.{rename, remove, is_clips}
use Rattle.correction_format.specs.RecordLayout.{change_in}
use Rattle.correction_format.specs.Fields.{FieldsOf, asked}
use Rattle.correction_format.specs.Edit.{clipped, renamed, replacement, target, edited}
use Rattle.correction_format.specs.Reasons.{reasons}
use Rattle.correction_format.specs.Correct.{file_replaced}
use Rattle.correction_format.proofs.Records.{record_96, new-size, new-zeros}
use Rattle.correction_format.proofs.Asked.{renamed-by, kind_of_lem, clips-asked, rename-asked, remove-asked, new_length_of, new-inside}
use Rattle.correction_format.proofs.Edited.{clipped-size, reasons-position, reasons-index, reasons_room}
use Rattle.correction_format.proofs.EditedSizes.{clips-size, name-size, edited-length}
use Rattle.sff_edit.specs.Edits.{afresh, clipped_at, name_room, renamed_at, removed_at}

-- a write within a file that lies over another
over_put : (at : ℕ) (xs new : List ℕ) (len : ℕ) (b : List ℕ) → at + length xs ≤ length new → put_at at xs (file_replaced new len b) ≡ file_replaced (put_at at xs new) len b
over_put at xs new len b h =
    filled_front_put at xs new (max len (length new)) b h ∙ ap (λ (n : ℕ). filled_front (put_at at xs new) (max len n) b) (sym (length_put at xs new h))

-- a read's header section: two lengths, the number of bases, the clips, the name with its padding
abbrev lengths : ℕ → List ℕ
lengths n = bytes_of 2 (up8 (16 + n)) ++ bytes_of 2 n

abbrev bases : Read → List ℕ
bases x = bytes_of 4 (length x.bases)

abbrev clip_bytes : Read → List ℕ
clip_bytes x = words (x.quality_left ∷ x.quality_right ∷ x.adapter_left ∷ x.adapter_right ∷ [])

abbrev name_padded : List ℕ → List ℕ
name_padded name = filled (name_room (length name)) name

-- a read by these pieces, between what stands before it and what stands after
pieces : (front : List ℕ) (x : Read) (back : List ℕ)
    → front ++ (layout_read x ++ back)
    ≡ front ++ (lengths (length x.name) ++ (bases x ++ (clip_bytes x ++ (name_padded x.name ++ (layout_read_data x ++ back)))))
unfolding layout_read layout_read_header read_fields filled fields unit_bytes
pieces front x back =
    let l : length (fields (read_fields x) ++ x.name) ≡ 16 + length x.name = rw (length-append, length_fields_lem) in
    let e : up8 (16 + length x.name) - (16 + length x.name) ≡ name_room (length x.name) - length x.name = omega arith in
    rw (l, e) (simp (append_assoc, append-nil))

-- the field of four clips, which holds bytes, holds what a record's fields say
clips_field : (x : Fields) (r : List ℕ) → FieldsOf x r → length r ≡ 96 → Bytes (part 8 8 r)
    → part 8 8 r ≡ words (x.quality_left ∷ x.quality_right ∷ x.adapter_left ∷ x.adapter_right ∷ [])
unfolding units_at number
clips_field x r o h z =
    let l : length (part 8 8 r) ≡ 8 = length_part 8 8 r (omega arith) in
    let n : (k : ℕ) → k + 2 ≤ 8 → part k 2 (part 8 8 r) ≡ part (8 + k) 2 r = λ k m. part_in k 2 8 8 r m (omega arith) in
    let e : part 0 8 (part 8 8 r) ≡ words (words_at 4 0 (part 8 8 r)) =
    stands_read 0 8 (words (words_at 4 0 (part 8 8 r))) (part 8 8 r) (length_units 2 (words_at 4 0 (part 8 8 r))) (units_stand 2 (part 8 8 r) z 4 0 (omega arith)) in
    sym (part_in 0 8 8 8 r (omega arith) (omega arith)) ∙ e
    ∙ rw (n 0 (omega arith), n 2 (omega arith), n 4 (omega arith), n 6 (omega arith))
    (λ j. words ((sym o j).quality_left ∷ (sym o j).quality_right ∷ (sym o j).adapter_left ∷ (sym o j).adapter_right ∷ []))

-- a name and its two lengths, put one after another
pub name_put : (p len n : ℕ) (field b : List ℕ) {old new : ℕ} {s t u : List ℕ} →
    old ≡ section_length b p →
    new ≡ up8 (16 + n) →
    s ≡ spliced (p + 16) (old - 16) len (take (new - 16) field) b →
    t ≡ put_at p (bytes_of 2 new) s →
    u ≡ put_at (p + 2) (bytes_of 2 n) t →
    p + 2 ≤ length s →
    u ≡ renamed_at p len n field b
unfolding renamed_at
name_put p len n field b {old} {new} {s} e₁ e₂ e₃ e₄ e₅ h =
    e₅ ∙ ap (put_at (p + 2) (bytes_of 2 n)) e₄ ∙ put_next p 2 (bytes_of 2 new) (bytes_of 2 n) s (length-bytes_of 2 new) h ∙ rw (e₃, e₂, e₁)

-- a read cut out, and the count put
pub read_cut : (p size len : ℕ) (b : List ℕ) {reads : ℕ} {s t : List ℕ} → reads ≡ read_count b → s ≡ spliced p size len [] b
    → t ≡ put_at 20 (bytes_of 4 (reads - 1)) s → t ≡ removed_at p size len b
unfolding removed_at
read_cut p size len b e₁ e₂ e₃ = e₃ ∙ rw (e₁, e₂)

-- An accepted file in a buffer, a well-formed record for which no reason holds, its fields, and the place of its read.
pub record ReadyToEdit (buffer : List ℕ) (len p : ℕ) (x : Fields) (r : List ℕ) : Type 0 where
  pub inside : len ≤ length buffer
  pub bytes : Bytes (take len buffer)
  pub accepted : file_test (take len buffer) ≡ Accepted
  pub formed : record_test r ≡ Accepted
  pub fields_are : FieldsOf x r
  pub place_is : p ≡ read_place (take len buffer) x.position
  pub fine : reasons (length buffer) (asked x r) (parse (take len buffer)) ≡ Accepted

-- the same from what `apply` is given
pub ready : {buffer r : List ℕ} {len p : ℕ} {x : Fields} → Bytes buffer → len ≤ length buffer → file_test (take len buffer) ≡ Accepted
    → record_test r ≡ Accepted → FieldsOf x r → p ≡ read_place (take len buffer) x.position
    → reasons (length buffer) (asked x r) (parse (take len buffer)) ≡ Accepted → ReadyToEdit buffer len p x r
ready {buffer = buffer} {len = len} z h e f o g n =
    record { inside = h; bytes = bytes_take len buffer z; accepted = e; formed = f; fields_are = o; place_is = g; fine = n }

module _ {buffer : List ℕ} {len p : ℕ} {x : Fields} {r : List ℕ} (s : ReadyToEdit buffer len p x r) where
  abbrev file : List ℕ
  file = take len buffer

  abbrev read : Read
  read = target (asked x r) (parse file)

  abbrev new : List ℕ
  new = afresh (asked x r) len buffer

  abbrev front : List ℕ
  front = take p file

  abbrev back : List ℕ
  back = drop (p + length (layout_read read)) file

  -- what the code may read
  size : length file ≡ len
  size = length-take-le len buffer s.inside

  counted : x.position < length (parse file).reads
  counted = reasons-position (length buffer) (asked x r) (parse file) s.fine

  below : x.position < read_count file
  below = rw (reads-counted file) at counted

  there : read_test (flow_characters file) file p ≡ Accepted
  there = rw s.place_is (read-accepted file x.position s.accepted below)

  head : header_test file ≡ Accepted
  head = head_ok file s.accepted

  pub ready_record : length r ≡ 96
  ready_record = record_96 r s.formed

  pub ready_clips : length (part 8 8 r) ≡ 8
  ready_clips = let l = ready_record in length_part 8 8 r (omega arith)

  pub ready_field : length (part 56 40 r) ≡ 40
  ready_field = length_part 56 40 r (omega (arith, ready_record))

  pub ready_header : 31 ≤ len
  ready_header = omega (arith, fits_31 file head, size)

  pub ready_start : p + 16 ≤ length file
  ready_start = fits_16 (flow_characters file) file p there

  pub ready_read : p + 16 ≤ len
  ready_read = omega (arith, ready_start, size)

  number_is : (w q : ℕ) → q + w ≤ len → number w q file ≡ number w q buffer
  number_is w q h = number-take w q len buffer h s.inside

  -- the read in the file
  read_is : read ≡ parse_read (flows file) file p
  read_is = rw s.place_is (read_found file s.bytes s.accepted x.position below)

  read-size : read_end (flows file) file p ≡ p + length (layout_read read)
  read-size = ends file s.bytes head p there ∙ ap (λ (y : Read). p + length (layout_read y)) (sym read_is)

  read-inside : p + length (layout_read read) ≤ len
  unfolding read_end
  read-inside = let f = rw (characters-length file head) at (data_fits (flow_characters file) file p there) in omega (arith, f, read-size, size)

  front_length : length front ≡ p
  front_length = length-take-le p file (omega (arith, ready_start))

  split : file ≡ front ++ (layout_read read ++ back)
  split = rw s.place_is (read_split file s.bytes s.accepted x.position below)

  -- the file with another read there
  changed : (y : Read) → (length (layout_read y) ≡ length (layout_read read)) ⊎ ((parse file).index ≡ no_index)
      → layout (with_reads (replaced x.position (y ∷ []) (parse file).reads) (parse file)) ≡ front ++ (layout_read y ++ back)
  changed y o = rw s.place_is (read_changed file s.bytes s.accepted x.position below y o)

  laid : length (layout (parse file)) ≡ len
  laid = ap length (file_laid file s.bytes s.accepted) ∙ size

  held : file_replaced file len buffer ≡ buffer
  held = let m : max len (length file) ≡ len = omega (arith, size) in rw m (filled_front_front file len buffer refl s.inside)

  -- new clips
  module _ (k : x.kind ≡ Clips) where
    abbrev new_clips : List ℕ
    new_clips = words (x.quality_left ∷ x.quality_right ∷ x.adapter_left ∷ x.adapter_right ∷ [])

    abbrev clipped_read : Read
    clipped_read = clipped x.quality_left x.quality_right x.adapter_left x.adapter_right read

    afresh-clips : new ≡ front ++ (layout_read clipped_read ++ back)
    unfolding edited replacement
    afresh-clips = rw (clips-asked x r s.fields_are k) (changed clipped_read (inl (clipped-size _ _ _ _ read)))

    clipped-file : put_at (p + 8) new_clips file ≡ new
    unfolding layout_read_data
    clipped-file =
        let u : List ℕ = front ++ (lengths (length read.name) ++ bases read) in
        let w : List ℕ = name_padded read.name ++ (layout_read_data read ++ back) in
        let l : length u ≡ p + 8 = simp (length-append, length-bytes_of, front_length) (omega arith) in
        let m : length new_clips ≡ length (clip_bytes read) = simp length_units in
        let e : file ≡ u ++ (clip_bytes read ++ w) = split ∙ pieces front read back ∙ simp append_assoc in
        let f : u ++ (new_clips ++ w) ≡ new = sym (afresh-clips ∙ pieces front clipped_read back ∙ simp append_assoc) in
        ap (put_at (p + 8) new_clips) e ∙ (rw l at (put_over u new_clips (clip_bytes read) w m)) ∙ f

    pub clips-done : {field b : List ℕ} → Bytes b → field ≡ part 8 8 r → b ≡ clipped_at p field buffer → (len ≡ length new) × (b ≡ file_replaced new len buffer)
    clips-done {b = b} z f g =
        let h : part (p + 8) 8 b ≡ part 8 8 r = rw (g, f) (part_put (p + 8) 8 (part 8 8 r) buffer ready_clips (omega (arith, ready_read, s.inside))) in
        let y : Bytes (part 8 8 r) = rw h at (bytes-part (p + 8) 8 b z) in
        let e = g ∙ ap (λ (xs : List ℕ). put_at (p + 8) xs buffer) (f ∙ clips_field x r s.fields_are ready_record y) in
        let n : length new_clips ≡ 8 = length_units 2 _ in (
          sym (clips-size (asked x r) (parse file) counted _ _ _ _ (clips-asked x r s.fields_are k) ∙ laid),
          e ∙ ap (put_at (p + 8) new_clips) (sym held) ∙ over_put (p + 8) new_clips file len buffer (omega (arith, ready_start))
              ∙ ap (λ (l : List ℕ). file_replaced l len buffer) clipped-file,
        )

  -- another change: there is no index
  none : is_clips (change_in r) ≡ false → (parse file).index ≡ no_index
  none = reasons-index (length buffer) (asked x r) (parse file) s.fine

  name-length : p + 16 + name_length file p ≤ length file → length (parse_read (flows file) file p).name ≡ name_length file p
  unfolding parse_read
  name-length f = length_part (p + 16) (name_length file p) file f

  pub section_inside : p + section_length buffer p ≤ len
  section_inside = omega (arith, section_fits (flow_characters file) file p there, number_is 2 p (omega (arith, ready_read)), size)

  section : section_length buffer p ≡ up8 (16 + length read.name)
  section =
      let e : section_length file p ≡ up8 (16 + name_length file p) = section_is (flow_characters file) file p there in
      let n = number_is 2 p (omega (arith, ready_read)) in
      let l : length read.name ≡ name_length file p = ap (λ (y : Read). length y.name) read_is ∙ name-length (omega (arith, section_inside, size)) in
      omega arith

  pub section_least : 16 ≤ section_length buffer p
  section_least = omega (arith, section)

  -- a new name
  module _ (k : x.kind ≡ Rename) where
    abbrev name : List ℕ
    name = new_name r

    asks : change_in r ≡ rename name
    asks = rename-asked x r s.fields_are k

    name_size_is : x.new_length ≡ length name
    name_size_is = new_length_of x r s.fields_are s.formed

    abbrev renamed_read : Read
    renamed_read = renamed name read

    abbrev old_room : ℕ
    old_room = section_length buffer p - 16

    -- the file with the new name in the place of the old one, its lengths still the old ones
    abbrev spliced_file : List ℕ
    spliced_file = take (p + 16) file ++ (name_padded name ++ drop (p + 16 + old_room) file)

    afresh-name : new ≡ front ++ (layout_read renamed_read ++ back)
    unfolding edited replacement
    afresh-name = rw asks (changed renamed_read (inr (none (ap is_clips asks))))

    name-after : length new + section_length buffer p ≡ len + up8 (16 + x.new_length)
    name-after = let n = name-size (asked x r) (parse file) counted name asks in rw name_size_is (omega (arith, n, section, laid))

    pub name_room_lem : len + up8 (16 + x.new_length) ≤ length buffer + section_length buffer p
    name_room_lem = let f = reasons_room (length buffer) (asked x r) (parse file) s.fine in omega (arith, f, name-after)

    pub name_inside : x.new_length ≤ 40
    name_inside = new-inside x r s.fields_are s.formed

    renamed-file : put_at p (lengths (length name)) spliced_file ≡ new
    unfolding layout_read_data
    renamed-file =
        let ahead : List ℕ = front ++ (lengths (length read.name) ++ (bases read ++ clip_bytes read)) in
        let old : List ℕ = name_padded read.name in
        let behind : List ℕ = layout_read_data read ++ back in
        let rest : List ℕ = bases read ++ (clip_bytes read ++ (name_padded name ++ behind)) in
        let l : length ahead ≡ p + 16 = simp (length-append, length-bytes_of, length_units, front_length) (omega arith) in
        let n : length old ≡ old_room = length-filled (name_room (length read.name)) read.name (omega arith) ∙ omega (arith, section) in
        let around : file ≡ ahead ++ (old ++ behind) = split ∙ pieces front read back ∙ simp append_assoc in
        let a : take (p + 16) file ≡ ahead = ap (take (p + 16)) around ∙ take_at ahead (old ++ behind) (p + 16) l in
        let d : drop (p + 16 + old_room) file ≡ behind =
        rw n at (drop-rest (p + 16) old behind file (ap (drop (p + 16)) around ∙ drop_at ahead (old ++ behind) (p + 16) l)) in
        let m : length (lengths (length name)) ≡ length (lengths (length read.name)) = simp (length-append, length-bytes_of) in
        let e : spliced_file ≡ front ++ (lengths (length read.name) ++ rest) = rw (a, d) (simp append_assoc) in
        let f : front ++ (lengths (length name) ++ rest) ≡ new = sym (afresh-name ∙ pieces front renamed_read back ∙ simp append_assoc) in
        ap (put_at p (lengths (length name))) e ∙ (rw front_length at (put_over front (lengths (length name)) (lengths (length read.name)) rest m)) ∙ f

    -- the record's field holds the name with its padding
    field_padded : take (name_room x.new_length) (part 56 40 r) ≡ name_padded name
    field_padded =
        let n = ap (λ (y : Fields). y.new_length) s.fields_are in
        let i = name_inside in
        let w : ℕ = name_room (new_length r) in
        let z = new-zeros r s.formed (renamed-by (kind r) (sym (kind_of_lem x r s.fields_are) ∙ k)) in
        rw (n, new-size r s.formed, take-take w 40 (drop 56 r) (omega arith))
        (field_filled 56 (new_length r) 40 w r (omega (arith, ready_record)) z (omega arith) (omega arith))

    pub name_done : {v : ℕ} {field b : List ℕ} → field ≡ part 56 40 r
        → v ≡ len - section_length buffer p + up8 (16 + x.new_length) → b ≡ renamed_at p len x.new_length field buffer
        → (v ≡ length new) × (b ≡ file_replaced new len buffer)
    unfolding renamed_at
    name_done g t e =
        let h : p + 16 ≤ length spliced_file = simp (length-append, length-take) (omega (arith, ready_read, s.inside)) in
        let j : spliced (p + 16) old_room len (name_padded name) buffer ≡ file_replaced spliced_file len buffer =
        splice_filled_front (p + 16) old_room len (name_padded name) buffer (omega (arith, section_least, section_inside)) s.inside in
        let m : length (lengths (length name)) ≡ 4 = simp (length-append, length-bytes_of) in (
          omega (arith, name-after, section_inside),
          e ∙ rw (g, field_padded, j, name_size_is)
              (over_put p (lengths (length name)) spliced_file len buffer (omega arith) ∙ ap (λ (l : List ℕ). file_replaced l len buffer) renamed-file),
        )

  -- the read left out
  module _ (k : x.kind ≡ Remove) where
    abbrev left : List ℕ
    left = front ++ back

    gone : change_in r ≡ remove
    gone = remove-asked x r s.fields_are k

    pub reads-least : 1 ≤ read_count buffer
    reads-least = omega (arith, number_is 4 20 (omega (arith, ready_header)), below)

    fewer : length (replaced x.position [] (parse file).reads) ≡ read_count buffer - 1
    fewer = simp (length-append, length-take, length-drop) (omega (arith, reads-counted file, number_is 4 20 (omega (arith, ready_header)), below))

    removed_file : put_at 20 (bytes_of 4 (read_count buffer - 1)) left ≡ new
    unfolding edited replacement
    removed_file =
        let g = read_gone file s.bytes s.accepted x.position below (none (ap is_clips gone)) in
        sym (rw gone (rw (fewer, ← s.place_is) at g))

    none_after : length new + length (layout_read read) ≡ len
    unfolding replacement layout_reads
    none_after =
        let n : length (layout_reads (replacement (change_in r) read)) ≡ 0 = rw gone in
        omega (arith, edited-length (asked x r) (parse file) counted, n, laid)

    -- the end of the read, as the code finds it
    module _ {F : ℕ} (f : F ≡ number 2 28 buffer) {n : ℕ} (m : n ≡ read_end F file p) where
      end_is : n ≡ p + length (layout_read read)
      end_is = m ∙ ap (λ (i : ℕ). read_end i file p) (f ∙ sym (number_is 2 28 (omega (arith, ready_header)))) ∙ read-size

      pub end_inside : (p ≤ n) × (p + (n - p) ≤ len)
      end_inside = (omega (arith, end_is), omega (arith, end_is, read-inside))

      pub none_done : {v : ℕ} {b : List ℕ} → v ≡ len - (n - p) → b ≡ removed_at p (n - p) len buffer → (v ≡ length new) × (b ≡ file_replaced new len buffer)
      unfolding removed_at
      none_done t e =
          let j : n - p ≡ length (layout_read read) = omega (arith, end_is) in
          let l : length left ≡ len - length (layout_read read) = simp (length-append, length-drop, front_length) (omega (arith, read-inside, size)) in
          let h = length-layout (edited (asked x r) (parse file)) in
          let g = length_header (edited (asked x r) (parse file)) in
          let i : 20 + length (bytes_of 4 (read_count buffer - 1)) ≤ length left = rw length-bytes_of (omega (arith, none_after)) in (
            omega (arith, none_after, j),
            e ∙ rw (j, splice_filled_front p (length (layout_read read)) len [] buffer read-inside s.inside)
                (over_put 20 (bytes_of 4 (read_count buffer - 1)) left len buffer i ∙ ap (λ (l : List ℕ). file_replaced l len buffer) removed_file),
          )
