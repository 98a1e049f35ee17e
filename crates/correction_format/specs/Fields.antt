-- A record's fields as the code holds them by value. Assumes nothing: these are definitions.
use Rattle.std.specs.Prelude.{ℕ, ◌≡◌, cond, List, eqb}
use Rattle.correction_format.specs.declared.Fields.{Fields}
use Rattle.correction_format.specs.declared.Kind.{Kind}
use Rattle.correction_format.specs.declared.Kind.TheVariants.{Clips, Rename, Remove}
use Rattle.correction_format.specs.Record.{kind, old_length, new_length, new_quality_left, new_quality_right, new_adapter_left, new_adapter_right}
use Rattle.correction_format.specs.Correction.{Correction, at_position}
use Rattle.correction_format.specs.RecordLayout.{parse_record}

-- the kind with a number: what is neither 1 nor 2 is a removal, as `change_in` has it
abbrev pub kind_by : ℕ → Kind
kind_by number = cond (eqb number 1) Clips (cond (eqb number 2) Rename Remove)

-- those of a record, for the read at a position
abbrev pub fields_at : ℕ → List ℕ → Fields
fields_at position «record» = record {
  kind = kind_by (kind «record»);
  position = position;
  old_length = old_length «record»;
  new_length = new_length «record»;
  quality_left = new_quality_left «record»;
  quality_right = new_quality_right «record»;
  adapter_left = new_adapter_left «record»;
  adapter_right = new_adapter_right «record»;
}

-- they are the fields of the record, but for the position
abbrev pub FieldsOf : Fields → List ℕ → Type 0
FieldsOf fields «record» = fields ≡ fields_at fields.position «record»

-- the correction that they ask for: the record's, at their position
abbrev pub asked : Fields → List ℕ → Correction
asked fields «record» = at_position fields.position (parse_record «record»)
