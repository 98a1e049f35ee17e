-- The calls promise the least of what both right clips leave, as `last_base` has it.
use Rattle.sff_format.specs.Insert.{last_base}
use Rattle.sff_clips.proofs.last_base.Goals as goal

pub returns : goal.returns
unfolding last_base
returns c = rw (c.least.ensures, c.right_end-quality.ensures, c.right_end-adapter.ensures)
