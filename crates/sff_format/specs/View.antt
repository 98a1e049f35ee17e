-- What is said of a read in numbers: its place, where its contents lie, and its clips. Assumes nothing: these are
-- definitions.
use Rattle.std.specs.Prelude.{ℕ, ◌+◌, ◌*◌, ◌/◌, Bool, ◌&&◌, List, length, ltb, leb}
use Rattle.octets.specs.Parts.{whole_part}
use Rattle.octets.specs.Numbers.{words_at}
use Rattle.answers.specs.Answer.{Answer, when, ◌then◌}
use Rattle.sff_format.specs.declared.Span.{Span}
use Rattle.sff_format.specs.declared.ReadView.{ReadView}
use Rattle.sff_format.specs.Model.{Read}
use Rattle.sff_format.specs.ReadTest.{section_length, name_length, base_count, quality_left, quality_right, adapter_left, adapter_right}
use Rattle.sff_format.specs.Insert.{first_base, last_base, between}

-- the read at a place, of F flow values
unfoldable pub view_at : ℕ → List ℕ → ℕ → ReadView
view_at F file place =
    let data-start = place + section_length file place in
    let count = base_count file place in
    record {
      place = place;
      name = record { at = place + 16; size = name_length file place };
      values = record { at = data-start; size = 2 * F };
      increments = record { at = data-start + 2 * F; size = count };
      bases = record { at = data-start + 2 * F + count; size = count };
      qualities = record { at = data-start + 2 * F + count + count; size = count };
      quality_left = quality_left file place;
      quality_right = quality_right file place;
      adapter_left = adapter_left file place;
      adapter_right = adapter_right file place;
    }

-- a stretch of the file, or of another list: none of it where it does not lie in the list whole
abbrev pub bytes_in : List ℕ → Span → List ℕ
bytes_in list span = whole_part span.at span.size list

-- the read as it is handed out: each list from the bytes of its stretch, the values two bytes each
unfoldable pub view_read : List ℕ → ReadView → Read
view_read file view = record {
  name = bytes_in file view.name;
  quality_left = view.quality_left;
  quality_right = view.quality_right;
  adapter_left = view.adapter_left;
  adapter_right = view.adapter_right;
  values = words_at (length (bytes_in file view.values) / 2) 0 (bytes_in file view.values);
  increments = bytes_in file view.increments;
  bases = bytes_in file view.bases;
  qualities = bytes_in file view.qualities;
}

-- the first and the last base of its insert, the stretch between them, and the insert of a list with one entry for each
-- base
abbrev pub view_first : ReadView → ℕ
view_first view = first_base view.quality_left view.adapter_left

abbrev pub view_last : ReadView → ℕ
view_last view = last_base view.bases.size view.quality_right view.adapter_right

abbrev pub view_span : ReadView → Span
view_span view = between (view_first view) (view_last view)

unfoldable pub insert_in : ReadView → List ℕ → List ℕ
insert_in view xs = bytes_in xs (view_span view)

-- a stretch that does not lie in the file whole
abbrev pub outside : List ℕ → Span → Bool
outside file span = ltb (length file) (span.at + span.size)

-- an insert that is not empty and does not lie within the bases
abbrev pub insert_outside : ReadView → Bool
insert_outside view = leb (view_first view) (view_last view) && ltb view.bases.size (view_last view)

-- whether all that a view names can be handed out: 1, "section runs past the end", at "its start", for the first part
-- in file order of which this is not so; the insert, a part of the bases, comes last
unfoldable pub view_test : List ℕ → ReadView → Answer
view_test file view =
    when (outside file view.name) 1 view.name.at
    then when (outside file view.values) 1 view.values.at
    then when (outside file view.increments) 1 view.increments.at
    then when (outside file view.bases) 1 view.bases.at
    then when (outside file view.qualities) 1 view.qualities.at
    then when (insert_outside view) 1 view.bases.at
