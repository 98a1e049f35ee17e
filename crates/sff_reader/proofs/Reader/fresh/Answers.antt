-- The call gives the place; the rest of a fresh state is the same for every file.
use Rattle.sff_format.specs.Step.{fresh}
use Rattle.sff_reader.proofs.Reader.fresh.Goals as goal

pub returns : goal.returns
unfolding fresh
returns c = rw c.fresh_place.ensures
