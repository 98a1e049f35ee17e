-- The tests stand in the definition's order: at each `return` those before it have passed and this one decides. The
-- old name's length is the byte that was read.
use Rattle.answers.proofs.Chains.{refusal, onward}
use Rattle.correction_format.specs.Record.{record_test}
use Rattle.sff_record.proofs.Reasons.{name_refuses, name_accepts}
use Rattle.sff_record.proofs.record_test.Goals as goal

pub returns : goal.returns
unfolding record_test
returns c =
    search (onward, name_accepts, c.in_ok-unused_test.ensures, c.in_ok-name_field_test.ensures, c.in_ok-new_clips_test.ensures) depth 9

pub returns-then-record-ne96 : goal.returns-then-record-ne96
unfolding record_test
returns-then-record-ne96 c = search refusal

pub returns-then-record-lt1 : goal.returns-then-record-lt1
unfolding record_test
returns-then-record-lt1 c = search refusal

pub returns-then-record-gt3 : goal.returns-then-record-gt3
unfolding record_test
returns-then-record-gt3 c = search refusal

pub returns-in_err-unused_test : goal.returns-in_err-unused_test
unfolding record_test
returns-in_err-unused_test c = search (refusal, c.in_err-unused_test.ensures) depth 9

pub returns-in_err-name_field_test : goal.returns-in_err-name_field_test
unfolding record_test
returns-in_err-name_field_test c =
    search (refusal, name_refuses, c.in_ok-unused_test.ensures, c.in_err-name_field_test.ensures) depth 9

pub returns-in_err-new_clips_test : goal.returns-in_err-new_clips_test
unfolding record_test
returns-in_err-new_clips_test c =
    search (refusal, name_accepts, c.in_ok-unused_test.ensures, c.in_ok-name_field_test.ensures, c.in_err-new_clips_test.ensures) depth 9
