-- Data in whole units are the bytes of their units, and back. Assumes nothing.
use mathlib.Core.Path.{◌≡◌, sym, ap, ◌∙◌}
use mathlib.Core.Bool.{false}
use mathlib.Core.List.{List}
use Prim.Native.Nat.{ℕ, zero, ◌*◌, ◌/◌, ◌%◌, ◌<◌}
use native.Mathlib.Nat.{one-le-pow, div-add-mod, mul-div_right}
use native.Mathlib.Omega.{arith}
use borrow.Author.Tests.{eqb-true, not-false}
use lib.ListN.{length, take}
use lib.Seq.{take-length}
use Rattle.octets.specs.Numbers.{Below, Bytes, unit_bytes, units_at}
use Rattle.octets.proofs.Stands.{length_units, length-units_at, units_stand, stand_units, stands_self, units_small}
use Rattle.filter_format.specs.Units.{range, units_of, not_whole}

pub range_positive : (w : ℕ) → zero < range w
range_positive w = one-le-pow w 256 (omega arith)

pub whole_units : (w : ℕ) (s : List ℕ) → not_whole w s ≡ false → length s % w ≡ 0
whole_units w s e = eqb-true (length s % w) 0 (not-false _ e)

module _ (w : ℕ) (s : List ℕ) (whole : length s % w ≡ 0) where
  pub units_in : w * (length s / w) ≡ length s
  units_in = let k = div-add-mod (length s) w in omega arith

  pub below_units : Bytes s → Below (range w) (units_of w s)
  below_units y = units_small w s y (length s / w) 0 (let e = units_in in omega arith)

  pub bytes_of_units : Bytes s → unit_bytes w (units_of w s) ≡ s
  bytes_of_units y =
      let us = units_of w s in
      let e = units_in in
      let n : length (unit_bytes w us) ≡ length s = length_units w us ∙ ap (λ (k : ℕ). w * k) (length-units_at w (length s / w) 0 s) ∙ e in
      let stands = units_stand w s y (length s / w) 0 (omega arith) in
      sym stands ∙ ap (λ (k : ℕ). take k s) n ∙ take-length s

module _ (w : ℕ) (us : List ℕ) (positive : 0 < w) where
  count : length (unit_bytes w us) / w ≡ length us
  count = ap (λ (k : ℕ). k / w) (length_units w us) ∙ mul-div_right (length us) positive

  pub units_of_bytes : Below (range w) us → units_of w (unit_bytes w us) ≡ us
  units_of_bytes h =
      ap (λ (k : ℕ). units_at w k 0 (unit_bytes w us)) count ∙ stand_units w (unit_bytes w us) us 0 (omega arith) h (stands_self (unit_bytes w us))
