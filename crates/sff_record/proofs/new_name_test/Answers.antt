-- In kind 2 the name is tested, by the length that was read; in the others its length and its field are zero.
use borrow.Author.Tests.{eq-eqb}
use Rattle.answers.proofs.Chains.{refusal, onward}
use Rattle.correction_format.specs.Record.{new_name_test}
use Rattle.sff_record.proofs.Reasons.{used, unused, name-tested}
use Rattle.sff_record.proofs.new_name_test.Goals as goal

pub returns-then-record-eq2 : goal.returns-then-record-eq2
unfolding new_name_test
returns-then-record-eq2 c = search (used, name-tested, eq-eqb)

pub returns-in_err-unused_test : goal.returns-in_err-unused_test
unfolding new_name_test
returns-in_err-unused_test c = search (unused, refusal, c.in_err-unused_test.ensures)

pub returns : goal.returns
unfolding new_name_test
returns c = search (unused, onward, c.in_ok-unused_test.ensures)
