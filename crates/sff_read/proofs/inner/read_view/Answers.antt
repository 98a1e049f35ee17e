-- The fields stand where `view_at` reads them, and the places are the same sums of them.
use Rattle.sff_format.specs.View.{view_at}
use Rattle.sff_read.proofs.inner.read_view.Goals as goal

pub returns : goal.returns
unfolding view_at
returns c = cc
