-- What is given is tested first, so that the data can be measured; then what is left to refuse is a block, header and
-- data, above the room.
use mathlib.Core.Path.{refl, sym, subst}
use Rattle.filter_format.specs.Block.{HasUnitWidth}
use Rattle.filter_format.proofs.Blocks.{has_unit_width}
use Rattle.filter_encode.proofs.Judging.{judged_given, judged_units, judged_26, judged_ok}
use Rattle.filter_encode.proofs.inner.judge.Goals as goal

pub given_test-requires : goal.given_test-requires
given_test-requires c = subst HasUnitWidth (sym c.filter_of-filter.ensures) (has_unit_width c.args.format)

pub returns-in_err-given_test : goal.returns-in_err-given_test
returns-in_err-given_test c =
    let a = c.args in
    judged_given a.room a.format a.level a.follow.now a.source.now c.filter_of-filter.ensures c.in_err-given_test.ensures
    _ _ c.from_residual.ensures refl

pub data_length-size-requires : goal.data_length-size-requires
data_length-size-requires c =
    let a = c.args in
    judged_units a.room a.format a.level a.follow.now a.source.now c.filter_of-filter.ensures c.in_ok-given_test.ensures refl

pub returns-then-room-made : goal.returns-then-room-made
returns-then-room-made c =
    let a = c.args in
    judged_26 a.room a.format a.level a.follow.now a.source.now c.filter_of-filter.ensures c.in_ok-given_test.ensures refl
    c.header_length.ensures.0 c.data_length-size.ensures.0 c.if-room-made.true

pub returns : goal.returns
returns c =
    let a = c.args in
    judged_ok a.room a.format a.level a.follow.now a.source.now c.filter_of-filter.ensures c.in_ok-given_test.ensures refl
    c.header_length.ensures.0 c.data_length-size.ensures.0 c.if-room-made.false
