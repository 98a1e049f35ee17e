-- The filter is one of its cases: for each, the test that is called makes the definition's tests of that case.
use native.Mathlib.Omega.{arith}
use Rattle.filter_format.specs.Block.{header_length}
use Rattle.filter_block.proofs.Headers.{told}
use Rattle.filter_block.proofs.Tests.{raw_data, follow_data, other_data}
use Rattle.filter_block.proofs.inner.data_test.Goals as goal

pub overflow_sub-block : goal.overflow_sub-block
unfolding header_length
overflow_sub-block c = omega (arith, (told _ _ c.args.block.now c.in-Raw.is c.requires).1)

pub narrow_test-requires : goal.narrow_test-requires
unfolding header_length
narrow_test-requires c = let k = told _ _ c.args.block.now c.in-Narrow.is c.requires in (k.0.0.0, k.1)

pub overflow_sub-block-in-Follow : goal.overflow_sub-block-in-Follow
unfolding header_length
overflow_sub-block-in-Follow c = omega (arith, (told _ _ c.args.block.now c.in-Follow.is c.requires).1)

pub returns-in-Raw : goal.returns-in-Raw
returns-in-Raw c = rw (c.in-Raw.is, c.room_test.ensures) (raw_data _ _)

pub returns-in-Follow : goal.returns-in-Follow
returns-in-Follow c = rw (c.in-Follow.is, c.room_test-in-Follow.ensures) (follow_data _ _)

pub returns-in-Other : goal.returns-in-Other
returns-in-Other c = rw c.in-Other.is (other_data _ _)
