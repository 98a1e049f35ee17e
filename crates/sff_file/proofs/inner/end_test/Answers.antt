-- The code makes the tests of `end_test` in their order: a `return` stands where one refuses, the end where all have
-- accepted.
use Rattle.answers.proofs.Chains.{refusal, onward}
use Rattle.sff_format.specs.FileTest.{end_test}
use Rattle.sff_file.proofs.inner.end_test.Goals as goal

pub returns-then-has_index-at : goal.returns-then-has_index-at
unfolding end_test
returns-then-has_index-at c = search refusal

pub returns-then-at-bytes : goal.returns-then-at-bytes
unfolding end_test
returns-then-at-bytes c = let inside = rw c.bytes.ensures at c.if-at-bytes.true in search refusal

pub returns : goal.returns
unfolding end_test
returns c = let past = rw c.bytes.ensures at c.if-at-bytes.false in search onward
