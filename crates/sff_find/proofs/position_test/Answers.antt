-- A file that is refused gives its refusal; the position of an accepted one is compared with the number of reads.
use mathlib.Core.Path.{sym}
use Rattle.answers.proofs.Chains.{handed_back, returned}
use Rattle.sff_format.specs.Position.{position_test}
use Rattle.sff_format.proofs.Positions.{position_none, position-there}
use Rattle.sff_find.proofs.Chosen.{file_31}
use Rattle.sff_find.proofs.position_test.Goals as goal

pub returns-in_err-file_test : goal.returns-in_err-file_test
unfolding position_test
returns-in_err-file_test c = search (handed_back, returned, c.in_err-file_test.ensures)

pub new-requires : goal.new-requires
new-requires c = file_31 _ (sym c.in_ok-file_test.ensures)

pub returns-then-position-reads : goal.returns-then-position-reads
returns-then-position-reads c =
    position_none _ _ (sym c.in_ok-file_test.ensures) (rw (← c.new.ensures, ← c.reads.ensures.0) c.if-position-reads.true)

pub returns : goal.returns
returns c =
    position-there _ _ (sym c.in_ok-file_test.ensures) (rw (← c.new.ensures, ← c.reads.ensures.0) c.if-position-reads.false)
