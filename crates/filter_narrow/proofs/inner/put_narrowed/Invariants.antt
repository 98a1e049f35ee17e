-- Each turn puts one unit more: what is put and the units to come, narrowed, are together all the units, narrowed.
use mathlib.Core.Path.{◌≡◌}
use Rattle.std.specs.Slice.Iter.{chunks_exact_rest, chunks_exact_size}
use Rattle.filter_narrow.proofs.Units.{Narrowing}
use Rattle.filter_narrow.proofs.inner.put_narrowed.Given as goal

abbrev pub invariant-loop-unit : goal.invariant-loop-unit
invariant-loop-unit g l =
    let w = g.U.Unit.WIDTH in
    (chunks_exact_size l.unit-iterator ≡ w) × Narrowing w l.at l.to (chunks_exact_rest l.unit-iterator) l.source l.initial.out l.out
