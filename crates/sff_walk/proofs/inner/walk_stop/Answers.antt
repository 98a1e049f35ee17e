use Rattle.sff_walk.proofs.Walk.{walking}
use Rattle.sff_walk.proofs.inner.walk_stop.Goals as goal

pub loop-base-preserved : goal.loop-base-preserved
loop-base-preserved c = search walking

pub returns-then-k-bases : goal.returns-then-k-bases
returns-then-k-bases c = search walking

pub returns-then-not-within : goal.returns-then-not-within
returns-then-not-within c = search walking
