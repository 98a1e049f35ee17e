-- The code makes the tests of `data_test` in their order: a `return` or a `?` stands where one refuses, the end where all
-- have accepted. `data_tested` says them of the padded length that `up8` gave and of the flow characters as they stand in
-- the file.
use Rattle.answers.proofs.Chains.{refusal, onward}
use Rattle.sff_read.proofs.ReadLaws.{data_tested}
use Rattle.sff_read.proofs.inner.data_test.Goals as goal

pub returns-then-file-end : goal.returns-then-file-end
returns-then-file-end c = search (refusal, data_tested)

pub returns-in_err-bases_test_at : goal.returns-in_err-bases_test_at
returns-in_err-bases_test_at c = search (refusal, data_tested, c.in_err-bases_test_at.ensures)

pub returns-then-padding-end : goal.returns-then-padding-end
returns-then-padding-end c = search (refusal, data_tested, c.in_ok-bases_test_at.ensures)

pub returns : goal.returns
returns c = search (onward, data_tested, c.in_ok-bases_test_at.ensures)
