-- A position that is accepted is that of a read of an accepted file.
use mathlib.Core.Path.{sym}
use native.Mathlib.Omega.{arith}
use Rattle.sff_format.proofs.Positions.{position-file, position-below}
use Rattle.sff_insert.proofs.tested_view.Goals as goal

pub view_of-requires-clause-file_value : goal.view_of-requires-clause-file_value
view_of-requires-clause-file_value c = position-file _ _ (sym c.in_ok-position_test.ensures)

pub view_of-requires-clause-position_bound : goal.view_of-requires-clause-position_bound
view_of-requires-clause-position_bound c = omega (arith, position-below _ _ (sym c.in_ok-position_test.ensures))
