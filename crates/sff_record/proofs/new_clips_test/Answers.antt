-- Kind 1 may have any clips; in the others their eight bytes are zero.
use borrow.Author.Tests.{eq-eqb, ne_eqb}
use Rattle.correction_format.specs.Record.{new_clips_test}
use Rattle.sff_record.proofs.Reasons.{used, unused}
use Rattle.sff_record.proofs.new_clips_test.Goals as goal

pub returns-then-record-eq1 : goal.returns-then-record-eq1
unfolding new_clips_test
returns-then-record-eq1 c = search (used, eq-eqb)

pub returns : goal.returns
unfolding new_clips_test
returns c = search (unused, ne_eqb)
