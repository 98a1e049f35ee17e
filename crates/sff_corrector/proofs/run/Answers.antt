use native.Mathlib.Omega.{arith}
use native.Mathlib.Nat.{add-sub_cancel_left}
use mathlib.Core.Path.{refl}
use Rattle.sff_corrector.proofs.Turns.{list_more, list_stop, list_done}
use Rattle.sff_corrector.proofs.run.Goals as goal

pub loop-count-preserved : goal.loop-count-preserved
loop-count-preserved c =
    let e = c.in-Ok.ensures in
    let value = rw add-sub_cancel_left at e.result_value in
    let buffer = rw add-sub_cancel_left at e.buffer_after in
    list_more c.loop-count.invariant c.loop-count-test.true _ value buffer refl e.accepted_after

pub returns-in-Err : goal.returns-in-Err
returns-in-Err c =
    let e = c.in-Err.ensures in
    let value = rw add-sub_cancel_left at e.result_value in
    let buffer = rw add-sub_cancel_left at e.buffer_after in
    let d = list_stop c.loop-count.invariant c.loop-count-test.true _ value buffer refl in
    record { value = d.0; buffer_after = d.1 }

pub returns : goal.returns
returns c =
    let d = list_done c.loop-count.invariant (omega arith) in
    record { value = d.0; buffer_after = d.1 }
