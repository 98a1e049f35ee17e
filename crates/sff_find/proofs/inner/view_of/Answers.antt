-- An accepted file has the header's 31 bytes.
use Rattle.sff_find.proofs.Chosen.{file_31}
use Rattle.sff_find.proofs.inner.view_of.Goals as goal

pub new-requires : goal.new-requires
new-requires c = search file_31
