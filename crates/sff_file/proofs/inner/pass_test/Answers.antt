-- The code compares the file's length with the index's end, as `pass_test` does.
use Rattle.answers.proofs.Chains.{refusal, onward}
use Rattle.sff_format.specs.FileTest.{pass_test}
use Rattle.sff_file.proofs.inner.pass_test.Goals as goal

pub returns-then-bytes-place : goal.returns-then-bytes-place
unfolding pass_test
returns-then-bytes-place c = rw (← c.index_size.ensures.value, ← c.bytes.ensures) (search refusal)

pub returns : goal.returns
unfolding pass_test
returns c = rw (← c.index_size.ensures.value, ← c.bytes.ensures) (search onward)
