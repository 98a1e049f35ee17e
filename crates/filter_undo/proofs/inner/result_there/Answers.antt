-- The data are copied to the front of `there`, with zeros behind them, and `here` is zeroed.
use Rattle.filter_undo.proofs.Buffers.{holds-part, placed}
use Rattle.filter_undo.proofs.inner.result_there.Goals as goal

pub returns-clause-there_after : goal.returns-clause-there_after
returns-clause-there_after c =
    let held = holds-part c.args.here.now c.requires.0 c.requires.1 c.copy.ensures in
    (placed held c.args.here.now c.clear_behind.ensures c.clear_behind-2.ensures).1.0
