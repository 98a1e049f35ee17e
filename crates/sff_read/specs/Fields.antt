-- What the fields of the read at a place are read as. Assumes nothing: these are definitions.
use Rattle.std.specs.Prelude.{ℕ, ◌<◌, ◌≡◌, List}
use Rattle.sff_format.specs.ReadTest.{base_count, quality_left, quality_right, adapter_left, adapter_right}
use Rattle.sff_read.specs.declared.inner.ReadFields.{ReadFields}

-- these are the fields of the read at a place, each below its width's limit
pub record FieldsAt (file : List ℕ) (place : ℕ) (fields : ReadFields) : Type 0 where
  pub bases_are : fields.bases ≡ base_count file place
  pub quality_left_is : fields.quality_left.0 ≡ quality_left file place
  pub quality_right_is : fields.quality_right.0 ≡ quality_right file place
  pub adapter_left_is : fields.adapter_left.0 ≡ adapter_left file place
  pub adapter_right_is : fields.adapter_right.0 ≡ adapter_right file place
  pub bases_small : fields.bases < 4294967296
