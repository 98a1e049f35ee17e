-- The tests are made in the definition's order: each return stands where the tests before it have passed.
use Rattle.answers.proofs.Chains.{refusal, onward}
use Rattle.filter_format.specs.Block.{contents_test}
use Rattle.filter_block.specs.Tests.{data_test}
use Rattle.filter_block.proofs.inner.contents_test.Goals as goal

pub returns-then-block-header_length : goal.returns-then-block-header_length
unfolding contents_test
returns-then-block-header_length c = search refusal

pub returns-then-bad_header : goal.returns-then-bad_header
unfolding contents_test
returns-then-bad_header c = search refusal

pub returns : goal.returns
unfolding contents_test data_test
returns c = search onward
