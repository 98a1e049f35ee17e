use Rattle.octets.proofs.Worded.{worded_start, worded_more}
use Rattle.buffers.proofs.inner.put_words.Goals as goal

pub loop-j-init : goal.loop-j-init
loop-j-init c = worded_start _ _ _ c.requires

pub loop-j-preserved : goal.loop-j-preserved
loop-j-preserved c =
    worded_more c.loop-j.invariant c.loop-j-test.true c.from.result c.from.ensures c.put16.ensures
