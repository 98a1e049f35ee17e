-- Levels of the delta filter on data in units of w bytes: one pass, the loop over the levels, and that doing and
-- undoing levels are inverse to each other. Assumes nothing.
use mathlib.Core.Path.{◌≡◌, refl, ap, ◌∙◌}
use mathlib.Core.List.{List}
use Prim.Native.Nat.{ℕ, zero, suc, ◌*◌, ◌/◌, ◌%◌, ◌<◌}
use lib.ListN.{length}
use Rattle.octets.specs.Numbers.{Bytes, unit_bytes}
use Rattle.octets.proofs.Stands.{length_units, length-units_at}
use Rattle.filter_format.specs.Units.{range, units_of}
use Rattle.filter_format.specs.Delta.{delta, undelta, deltas, undeltas, delta_bytes, undelta_bytes, OneLevelLess}
use Rattle.filter_format.proofs.Scans.{below-delta, below-undelta, undelta-delta, below-deltas, undeltas-deltas, deltas-undeltas, length-deltas, length-undeltas, below-undeltas}
use Rattle.filter_format.proofs.Wholes.{range_positive, units_in, below_units, bytes_of_units, units_of_bytes}

deltas-inside : (m k : ℕ) (xs : List ℕ) → deltas m k (delta m xs) ≡ deltas m (suc k) xs
unfolding deltas
deltas-inside m zero xs = refl
deltas-inside m (suc k) xs = ap (delta m) (deltas-inside m k xs)

module _ (w : ℕ) (positive : 0 < w) (s : List ℕ) where
  -- one level after another
  pub undelta_next : (level : ℕ) → undelta_bytes w level (undelta_bytes w 1 s) ≡ undelta_bytes w (suc level) s
  unfolding undelta_bytes undeltas
  undelta_next level =
      ap (λ (us : List ℕ). unit_bytes w (undeltas (range w) level us))
      (units_of_bytes w (undelta (range w) (units_of w s)) positive (below-undelta (range w) (range_positive w) (units_of w s)))

  pub delta_next : (level : ℕ) → delta_bytes w level (delta_bytes w 1 s) ≡ delta_bytes w (suc level) s
  unfolding delta_bytes deltas
  delta_next level =
      ap (λ (us : List ℕ). unit_bytes w (deltas (range w) level us)) (units_of_bytes w (delta (range w) (units_of w s)) positive (below-delta (range w) (range_positive w) (units_of w s)))
      ∙ ap (unit_bytes w) (deltas-inside (range w) level (units_of w s))

  -- what a pass does to the level
  pub one_level_less : OneLevelLess w s (undelta_bytes w 1 s)
  unfolding undelta_bytes undeltas deltas
  one_level_less level xs h e =
      let m = range w in
      let below = below-deltas m (range_positive w) level xs h in
      let units : units_of w s ≡ delta m (deltas m level xs) = ap (units_of w) e ∙ units_of_bytes w (delta m (deltas m level xs)) positive (below-delta m (range_positive w) (deltas m level xs)) in
      ap (λ (us : List ℕ). unit_bytes w (undelta m us)) units ∙ ap (unit_bytes w) (undelta-delta m (range_positive w) (deltas m level xs) below)

  module _ (whole : length s % w ≡ 0) where
    sized : (us : List ℕ) → length us ≡ length (units_of w s) → length (unit_bytes w us) ≡ length s
    sized us e = length_units w us ∙ ap (λ (k : ℕ). w * k) (e ∙ length-units_at w (length s / w) 0 s) ∙ units_in w s whole

    pub length-delta : (level : ℕ) → length (delta_bytes w level s) ≡ length s
    unfolding delta_bytes
    length-delta level = sized (deltas (range w) level (units_of w s)) (length-deltas (range w) level (units_of w s))

    pub length-undelta : (level : ℕ) → length (undelta_bytes w level s) ≡ length s
    unfolding undelta_bytes
    length-undelta level = sized (undeltas (range w) level (units_of w s)) (length-undeltas (range w) level (units_of w s))

    module _ (bytes : Bytes s) where
      -- no level is the data
      pub undelta_none : undelta_bytes w 0 s ≡ s
      unfolding undelta_bytes undeltas
      undelta_none = bytes_of_units w s whole bytes

      pub delta_none : delta_bytes w 0 s ≡ s
      unfolding delta_bytes deltas
      delta_none = bytes_of_units w s whole bytes

      -- undone after done, and done after undone
      pub undelta_delta_bytes : (level : ℕ) → undelta_bytes w level (delta_bytes w level s) ≡ s
      unfolding undelta_bytes delta_bytes
      undelta_delta_bytes level =
          let m = range w in
          let us = units_of w s in
          let small = below_units w s whole bytes in
          rw (units_of_bytes w (deltas m level us) positive (below-deltas m (range_positive w) level us small), undeltas-deltas m (range_positive w) level us small)
          (bytes_of_units w s whole bytes)

      pub delta_undelta_bytes : (level : ℕ) → delta_bytes w level (undelta_bytes w level s) ≡ s
      unfolding undelta_bytes delta_bytes
      delta_undelta_bytes level =
          let m = range w in
          let us = units_of w s in
          let small = below_units w s whole bytes in
          rw (units_of_bytes w (undeltas m level us) positive (below-undeltas m (range_positive w) level us small), deltas-undeltas m (range_positive w) level us small)
          (bytes_of_units w s whole bytes)
