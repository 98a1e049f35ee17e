-- A position that is refused has the ends of an insert without bases; one that is accepted has those of the read found
-- there.
use mathlib.Core.Path.{sym, ◌∙◌}
use Rattle.sff_format.proofs.Positions.{first_refused_lem, last_refused, first-view, last_view}
use Rattle.sff_insert.proofs.insert_ends.Goals as goal

pub returns-in_default : goal.returns-in_default
returns-in_default c =
    let refused = sym c.in_default.ensures.test in
    (first_refused_lem _ _ _ _ refused, last_refused _ _ _ _ refused)

pub returns : goal.returns
returns c =
    let accepted = sym c.in-Ok.ensures.test in
    let view = c.in-Ok.ensures.view in (
      c.first_base.ensures ∙ rw view (first-view _ _ accepted),
      c.last_base.ensures ∙ rw view (last_view _ _ accepted),
    )
