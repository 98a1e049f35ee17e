-- The scan is of the bytes from `at` to `at` + n, which are the n that the definition asks for.
use Rattle.answers.proofs.Chains.{refusal, onward}
use Rattle.correction_format.specs.Record.{unused_test}
use Rattle.sff_record.proofs.Reasons.{part-tested}
use Rattle.sff_record.proofs.unused_test.Goals as goal

pub returns-then-fails : goal.returns-then-fails
unfolding unused_test
returns-then-fails c = search (refusal, part-tested)

pub returns : goal.returns
unfolding unused_test
returns c = search (onward, part-tested)
