-- The test says which of the two forms the unit has, and each has its length: one byte, or the byte 128 and the whole
-- unit.
use mathlib.Core.Path.{sym}
use native.Mathlib.Omega.{arith}
use Rattle.filter_narrow.proofs.Units.{length_one, length_whole}
use Rattle.filter_narrow.proofs.inner.narrow_length.Goals as goal

pub returns-then-fits_one : goal.returns-then-fits_one
returns-then-fits_one g c =
    (sym (length_one g.U.Unit.WIDTH _ c.fits_one.ensures c.if-fits_one.true), omega arith)

pub returns-else-fits_one : goal.returns-else-fits_one
returns-else-fits_one g c =
    let n = length_whole g.U.Unit.WIDTH _ c.fits_one.ensures c.if-fits_one.false in
    (omega (arith, n, c.WIDTH.ensures), omega (arith, c.WIDTH.ensures))
