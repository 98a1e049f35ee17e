-- The tests are made in the definition's order, each where those before it have passed; a precision that passed is 1
-- or 2, so that the division is by no 0.
use Rattle.answers.proofs.Chains.{refusal, onward}
use Rattle.filter_format.specs.Samples.{samples_test}
use Rattle.scf_samples.proofs.samples_test.Goals as goal

pub returns-then-not-precision : goal.returns-then-not-precision
unfolding samples_test
returns-then-not-precision c = search refusal

pub returns-then-source-precision-ne0 : goal.returns-then-source-precision-ne0
unfolding samples_test
returns-then-source-precision-ne0 c = search refusal

pub returns-then-room-source : goal.returns-then-room-source
unfolding samples_test
returns-then-room-source c = search refusal

pub returns : goal.returns
unfolding samples_test
returns c = search onward
