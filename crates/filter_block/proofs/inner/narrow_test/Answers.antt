-- The count says either that a unit is cut short, which the definition refuses, or how many units there are: their
-- bytes are then tested against the room.
use mathlib.Core.Path.{sym, ap, ◌∙◌}
use Rattle.filter_narrow.specs.Counted.{counted}
use Rattle.filter_block.proofs.Tests.{part_end, narrow-lacking, narrow_units}
use Rattle.filter_block.proofs.inner.narrow_test.Goals as goal

pub returns-in-None : goal.returns-in-None
returns-in-None c =
    let told = c.count_units.ensures ∙ ap (counted c.args.width) (part_end 1 c.args.block.now) in
    narrow-lacking _ _ _ (sym c.in-None.is ∙ told)

pub returns-in-Some : goal.returns-in-Some
returns-in-Some c =
    let told = c.count_units.ensures ∙ ap (counted c.args.width) (part_end 1 c.args.block.now) in
    c.units_room_test.ensures ∙ narrow_units _ _ _ _ (sym c.in-Some.is ∙ told)
