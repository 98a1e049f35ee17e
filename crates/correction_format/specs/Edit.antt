-- "A correction gives its read the new clips or name, or leaves it out". Assumes nothing: these are definitions.
use Rattle.std.specs.Prelude.{ℕ, List, [], ◌∷◌}
use Rattle.sff_format.specs.Model.{Read, File, with_reads}
use Rattle.sff_format.specs.Places.{read_at, replaced}
use Rattle.correction_format.specs.Correction.{Change, clips, rename, remove, Correction}

-- the read with new clips, in file order
abbrev pub clipped : ℕ → ℕ → ℕ → ℕ → Read → Read
clipped quality_left quality_right adapter_left adapter_right read = record {
  name = read.name;
  quality_left = quality_left;
  quality_right = quality_right;
  adapter_left = adapter_left;
  adapter_right = adapter_right;
  values = read.values;
  increments = read.increments;
  bases = read.bases;
  qualities = read.qualities;
}

-- the read with a new name
abbrev pub renamed : List ℕ → Read → Read
renamed name read = record {
  name = name;
  quality_left = read.quality_left;
  quality_right = read.quality_right;
  adapter_left = read.adapter_left;
  adapter_right = read.adapter_right;
  values = read.values;
  increments = read.increments;
  bases = read.bases;
  qualities = read.qualities;
}

-- what comes in the place of the read: one read, or none
unfoldable pub replacement : Change → Read → List Read
replacement (clips quality_left quality_right adapter_left adapter_right) read =
    clipped quality_left quality_right adapter_left adapter_right read ∷ []
replacement (rename name) read = renamed name read ∷ []
replacement remove read = []

-- the read that the correction is about
abbrev pub target : Correction → File → Read
target correction content = read_at content correction.position

-- the file as the correction, carried out, leaves it: header, index and all other reads as they were
unfoldable pub edited : Correction → File → File
edited correction content =
    with_reads (replaced correction.position (replacement correction.change (target correction content)) content.reads)
    content
