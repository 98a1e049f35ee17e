-- The code joins the same conditions as the definition, and `is_declared` promises the one in the middle.
use mathlib.Core.Path.{refl}
use Rattle.sff_format.specs.FileTest.{index_due}
use Rattle.sff_file.proofs.inner.index_due.Goals as goal

pub returns : goal.returns
unfolding index_due
returns c = rw c.is_declared.ensures refl
