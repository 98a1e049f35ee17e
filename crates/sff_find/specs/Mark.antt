-- A read whose place is known. Assumes nothing: these are definitions.
use Rattle.std.specs.Prelude.{ℕ, ◌<◌, ◌≡◌, List}
use Rattle.sff_format.specs.HeaderTest.{read_count}
use Rattle.sff_format.specs.Places.{read_place}
use Rattle.sff_find.specs.declared.inner.Mark.{Mark}

-- the mark's read, if the file has it, starts at the mark's place
pub record Marked (file : List ℕ) (mark : Mark) : Type 0 where
  pub known : mark.position < read_count file → mark.place ≡ read_place file mark.position
