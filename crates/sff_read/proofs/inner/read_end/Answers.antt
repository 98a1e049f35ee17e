-- The two lengths stand where `read_end` reads them, and the code adds them up as it does.
use Rattle.sff_format.specs.ReadTest.{read_end}
use Rattle.sff_read.proofs.inner.read_end.Goals as goal

pub returns : goal.returns
unfolding read_end
returns c = cc
