-- The two calls promise the greatest of 1 and both left clips, as `first_base` has it.
use Rattle.sff_format.specs.Insert.{first_base}
use Rattle.sff_clips.proofs.first_base.Goals as goal

pub returns : goal.returns
unfolding first_base
returns c = rw (c.greatest-2.ensures, c.greatest.ensures)
