-- All but the format byte is widened to the front, in units of the width that the arm is for, which is the definition;
-- the tests left no unit that is cut short, and room for the result.
use native.Mathlib.Omega.{arith}
use Rattle.filter_format.specs.Block.{header_length}
use Rattle.filter_block.proofs.Opening.{narrow_given, narrow_put}
use Rattle.filter_block.proofs.inner.undo_narrow.Goals as goal

pub slice_bounds-data-count : goal.slice_bounds-data-count
unfolding header_length
slice_bounds-data-count c = c.requires.1

pub slice_bounds-data-start : goal.slice_bounds-data-start
unfolding header_length
slice_bounds-data-start c = omega (arith, c.requires.1)

pub put_widened-requires : goal.put_widened-requires
put_widened-requires c = narrow_given c.args.block.now c.args.out.now c.args.width c.requires 2 c.in-2.is

pub put_widened-requires-in_default : goal.put_widened-requires-in_default
put_widened-requires-in_default c = narrow_given c.args.block.now c.args.out.now c.args.width c.requires 4 (omega (arith, c.requires.0.0, c.requires.0.1))

pub returns-in-2 : goal.returns-in-2
returns-in-2 c =
    let k = c.put_widened.ensures in
    narrow_put c.args.block.now c.args.out.now c.args.width c.requires 2 c.in-2.is k.0 k.1

pub returns-in_default : goal.returns-in_default
returns-in_default c =
    let k = c.put_widened-in_default.ensures in
    narrow_put c.args.block.now c.args.out.now c.args.width c.requires 4 (omega (arith, c.requires.0.0, c.requires.0.1)) k.0 k.1
