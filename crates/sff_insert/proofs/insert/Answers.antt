-- A position that is refused has no insert; one that is accepted has that of the read found there.
use mathlib.Core.Path.{sym, ◌∙◌}
use Rattle.sff_format.proofs.Positions.{insert_refused, insert-view}
use Rattle.sff_insert.proofs.insert.Goals as goal

pub returns-in_default : goal.returns-in_default
returns-in_default c = insert_refused _ _ _ _ (sym c.in_default.ensures.test)

pub returns : goal.returns
returns c = c.insert.ensures ∙ rw c.in-Ok.ensures.view (insert-view _ _ (sym c.in-Ok.ensures.test))
