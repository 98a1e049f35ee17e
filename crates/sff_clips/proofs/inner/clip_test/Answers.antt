-- The code makes the tests of `clip_test` in their order: a `return` stands where one refuses, the end where all have
-- accepted. The calls gave the limits that the clips are compared with.
use Rattle.answers.proofs.Chains.{refusal, onward}
use Rattle.sff_format.specs.ReadTest.{clip_test}
use Rattle.sff_clips.proofs.inner.clip_test.Goals as goal

pub returns-then-quality_left-left : goal.returns-then-quality_left-left
unfolding clip_test
returns-then-quality_left-left c = search refusal

pub returns-then-quality_right-right : goal.returns-then-quality_right-right
unfolding clip_test
returns-then-quality_right-right c = search refusal

pub returns-then-adapter_left-left : goal.returns-then-adapter_left-left
unfolding clip_test
returns-then-adapter_left-left c = search refusal

pub returns-then-adapter_right-right : goal.returns-then-adapter_right-right
unfolding clip_test
returns-then-adapter_right-right c = search refusal depth 9

pub returns : goal.returns
unfolding clip_test
returns c = search onward depth 9
