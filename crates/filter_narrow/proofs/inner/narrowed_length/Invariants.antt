-- Each turn adds one unit's length: the sum and the length of the units to come are together the length of all. A unit
-- of two bytes or more takes at most one byte more, so that the sum stays within one and a half times the data.
use mathlib.Core.Path.{◌≡◌}
use Rattle.std.specs.Slice.Iter.{chunks_exact_rest, chunks_exact_size}
use Rattle.filter_narrow.proofs.Units.{Measuring}
use Rattle.filter_narrow.proofs.inner.narrowed_length.Given as goal

abbrev pub invariant-loop-unit : goal.invariant-loop-unit
invariant-loop-unit g l =
    let w = g.U.Unit.WIDTH in
    (chunks_exact_size l.unit-iterator ≡ w) × Measuring w l.size (chunks_exact_rest l.unit-iterator) l.source
