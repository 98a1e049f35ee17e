-- What `whole_part` promises of the insert's stretch of the list.
use mathlib.Core.Path.{◌∙◌}
use Rattle.sff_format.specs.View.{insert_in}
use Rattle.sff_view.proofs.inner.insert_in.Goals as goal

pub returns : goal.returns
unfolding insert_in
returns c = c.whole_part.ensures ∙ rw c.insert_span-part.ensures
