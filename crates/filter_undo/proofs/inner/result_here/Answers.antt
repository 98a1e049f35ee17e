-- The data move to the front of `here`, with zeros behind them, and `there` is zeroed.
use native.Mathlib.Omega.{arith}
use Rattle.filter_undo.proofs.Buffers.{holds-part, placed}
use Rattle.filter_undo.proofs.inner.result_here.Goals as goal

pub returns-clause-here_after : goal.returns-clause-here_after
returns-clause-here_after c =
    let held = holds-part c.args.here.now c.requires (omega arith) c.move_down.ensures in
    (placed held c.args.there.now c.clear_behind.ensures c.clear_behind-2.ensures).1.0
