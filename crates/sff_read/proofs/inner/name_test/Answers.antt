-- The code makes the tests of `name_test` in their order: a `return` stands where one refuses, the end where all have
-- accepted. The calls gave the padded length and the places that the scans came to.
use Rattle.answers.proofs.Chains.{refusal, onward}
use Rattle.sff_format.specs.ReadTest.{name_test}
use Rattle.sff_read.proofs.inner.name_test.Goals as goal

pub returns-then-section-up8 : goal.returns-then-section-up8
unfolding name_test
returns-then-section-up8 c = search refusal

pub returns-then-file-end : goal.returns-then-file-end
unfolding name_test
returns-then-file-end c = search refusal

pub returns-then-name-name_end : goal.returns-then-name-name_end
unfolding name_test
returns-then-name-name_end c = search refusal

pub returns-then-padding-end : goal.returns-then-padding-end
unfolding name_test
returns-then-padding-end c = search refusal

pub returns : goal.returns
unfolding name_test
returns c = search onward
