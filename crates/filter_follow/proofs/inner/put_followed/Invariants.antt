-- The first byte is put as it is. Each turn puts one byte more, by the source's byte before it, and the invariant says that
-- the first j + 1 bytes of the definition are put and the last byte of `seen` is remembered.
use Rattle.std.proofs.Common.{◌+◌, ◌<◌}
use Rattle.filter_format.specs.Follow.{followed}
use Rattle.filter_follow.proofs.Turns.{Turn}
use Rattle.filter_follow.proofs.inner.put_followed.Given as goal

abbrev pub invariant-loop-j : goal.invariant-loop-j
invariant-loop-j l = (l.previous < 256) × Turn l.at l.follow l.source l.source (followed l.follow l.source) l.initial.out l.out l.previous (l.j + 1)
