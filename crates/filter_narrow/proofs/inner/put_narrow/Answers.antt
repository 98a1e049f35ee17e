-- A unit that fits one byte is its low byte, and another is the byte 128 and then the whole unit: what the test gave
-- says which.
use Prim.Native.Nat.{ℕ, ◌+◌}
use mathlib.Core.Path.{sym, ap}
use native.Mathlib.Omega.{arith}
use lib.ListN.{length-set}
use Rattle.filter_narrow.proofs.Units.{length_one, length_whole, put_one, put_whole}
use Rattle.filter_narrow.proofs.inner.put_narrow.Goals as goal

pub bounds-out-at : goal.bounds-out-at
bounds-out-at g c = omega (arith, length_one g.U.Unit.WIDTH _ c.fits_one.ensures c.if-fits_one.true)

pub bounds-out-at-else-fits_one : goal.bounds-out-at-else-fits_one
bounds-out-at-else-fits_one g c = omega (arith, length_whole g.U.Unit.WIDTH _ c.fits_one.ensures c.if-fits_one.false)

pub put-requires : goal.put-requires
put-requires g c =
    let n = length_whole g.U.Unit.WIDTH _ c.fits_one.ensures c.if-fits_one.false in
    simp length-set (omega (arith, c.requires, n))

pub returns-then-fits_one : goal.returns-then-fits_one
returns-then-fits_one g c =
    let a = c.args in
    let e = c.fits_one.ensures in
    let is = c.if-fits_one.true in (
      ap (λ (n : ℕ). a.at + n) (sym (length_one g.U.Unit.WIDTH _ e is)),
      rw c.number.ensures.0 (put_one g.U.Unit.WIDTH _ e a.at a.out.now c.requires is),
    )

pub returns-else-fits_one : goal.returns-else-fits_one
returns-else-fits_one g c =
    let a = c.args in
    let e = c.fits_one.ensures in
    let is = c.if-fits_one.false in (
      omega (arith, length_whole g.U.Unit.WIDTH _ e is, c.WIDTH.ensures),
      put_whole g.U.Unit.WIDTH _ e a.at a.out.now c.requires is c.put.new.bytes c.put.ensures,
    )
