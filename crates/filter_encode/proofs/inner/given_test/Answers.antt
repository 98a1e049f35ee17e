-- The tests are made in the definition's order: each return stands where the tests before it have passed.
use Rattle.answers.proofs.Chains.{refusal, onward}
use Rattle.filter_encode.specs.Judged.{given_test}
use Rattle.filter_encode.proofs.inner.given_test.Goals as goal

pub returns-then-not-is_filter : goal.returns-then-not-is_filter
unfolding given_test
returns-then-not-is_filter c = search refusal

pub returns-then-bad_given : goal.returns-then-bad_given
unfolding given_test
returns-then-bad_given c = search refusal

pub returns-then-bad_units : goal.returns-then-bad_units
unfolding given_test
returns-then-bad_units c = search refusal

pub returns : goal.returns
unfolding given_test
returns c = search onward
