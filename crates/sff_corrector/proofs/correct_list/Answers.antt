-- A list of a length that no records have, and one without records, end at once. Else the first record decides: where
-- it is refused the list ends there, and where it is carried out the others go on from what it left.
use mathlib.Core.Path.{sym, refl}
use native.Mathlib.Omega.{arith}
use lib.Seq.{length-take-le}
use Rattle.sff_corrector.proofs.Turns.{list_20_told, list_none_told, first-stop, first_run}
use Rattle.sff_corrector.proofs.correct_list.Goals as goal

pub returns-then-list-ne0 : goal.returns-then-list-ne0
returns-then-list-ne0 c =
    let d = list_20_told _ _ _ c.if-list-ne0.true in
    record { value = d.0; buffer_after = d.1 }

pub returns-then-n-eq0 : goal.returns-then-n-eq0
returns-then-n-eq0 c =
    let d = list_none_told _ _ _ c.if-list-ne0.false c.if-n-eq0.true in
    record { value = d.0; buffer_after = d.1 }

pub slice_bounds-carry_first-end : goal.slice_bounds-carry_first-end
slice_bounds-carry_first-end c =
    let z = c.if-n-eq0.false in
    sym (length-take-le 96 c.args.list.now (omega arith))

pub returns-in-Ok : goal.returns-in-Ok
returns-in-Ok c =
    let e = c.in-Ok.ensures in
    let r = c.run.ensures in
    let whole = c.if-list-ne0.false in
    let some = c.if-n-eq0.false in
    let d = first_run _ _ _ whole some _ e.result_value e.buffer_after {w = c.in-Ok.first} refl r.value r.buffer_after in
    record { value = d.0; buffer_after = d.1 }

pub returns-in-Err : goal.returns-in-Err
returns-in-Err c =
    let e = c.in-Err.ensures in
    let d = first-stop _ _ _ c.if-list-ne0.false c.if-n-eq0.false _ e.result_value e.buffer_after refl in
    record { value = d.0; buffer_after = d.1 }
