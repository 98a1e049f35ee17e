-- The tests stand in the definition's order: at each `return` those before it have passed and this one decides. The
-- zeros behind a name of n bytes are 40 - n.
use Rattle.answers.proofs.Chains.{refusal, onward}
use Rattle.correction_format.specs.Record.{name_field_test}
use Rattle.sff_record.proofs.Reasons.{part-tested, zeros-after}
use Rattle.sff_record.proofs.name_field_test.Goals as goal

pub returns : goal.returns
unfolding name_field_test
returns c = search (onward, part-tested, zeros-after)

pub returns-then-n-lt1 : goal.returns-then-n-lt1
unfolding name_field_test
returns-then-n-lt1 c = search refusal

pub returns-then-n-gt40 : goal.returns-then-n-gt40
unfolding name_field_test
returns-then-n-gt40 c = search refusal

pub returns-then-fails : goal.returns-then-fails
unfolding name_field_test
returns-then-fails c = search (refusal, part-tested)
