-- Each turn tries the next record on what the one before it left. The invariant says that what is to come from here is
-- what was to come from the second record on; a refusal or the list's end is then what the whole gives.
use Rattle.sff_corrector.proofs.Turns.{ListInvariant}
use Rattle.sff_corrector.proofs.run.Given as goal

abbrev pub invariant-loop-count : goal.invariant-loop-count
invariant-loop-count l =
    ListInvariant l.n l.initial.buffer l.fn.first.length l.list l.buffer l.count l.left
