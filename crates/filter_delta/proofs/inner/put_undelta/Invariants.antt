-- Each pass makes one level: the levels left, of what stands, come to all the levels of the data.
use Rattle.filter_format.specs.Delta.{undelta_bytes}
use Rattle.filter_delta.proofs.Levels.{Levels}
use Rattle.filter_delta.proofs.inner.put_undelta.Given as goal

abbrev pub invariant-undo : goal.invariant-undo
invariant-undo g l = let w = g.U.Unit.WIDTH in Levels w (undelta_bytes w) l.level l.counter l.source l.data
