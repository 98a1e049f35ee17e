-- Each pass makes one level: the levels left, of what stands, come to all the levels of the data.
use Rattle.filter_format.specs.Delta.{delta_bytes}
use Rattle.filter_delta.proofs.Levels.{Levels}
use Rattle.filter_delta.proofs.inner.put_delta.Given as goal

abbrev pub invariant-make : goal.invariant-make
invariant-make g l = let w = g.U.Unit.WIDTH in Levels w (delta_bytes w) l.level l.counter l.source l.data
