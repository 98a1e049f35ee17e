-- Bytes 1 to 256 are the follow bytes and the rest the data, as the definition takes them; undone, the data
-- are as long as they were.
use native.Mathlib.Omega.{arith}
use Rattle.filter_block.proofs.Opening.{follow_given, follow_put}
use Rattle.filter_block.proofs.inner.undo_follow.Goals as goal

pub slice_bounds-put_unfollowed-count : goal.slice_bounds-put_unfollowed-count
slice_bounds-put_unfollowed-count c = omega (arith, (follow_given c.args.block.now c.args.out.now c.requires).0)

pub slice_bounds-put_unfollowed-start : goal.slice_bounds-put_unfollowed-start
slice_bounds-put_unfollowed-start c = omega (arith, (follow_given c.args.block.now c.args.out.now c.requires).0)

pub slice_bounds-put_unfollowed-end-2 : goal.slice_bounds-put_unfollowed-end-2
slice_bounds-put_unfollowed-end-2 c = omega (arith, (follow_given c.args.block.now c.args.out.now c.requires).0)

pub put_unfollowed-requires : goal.put_unfollowed-requires
put_unfollowed-requires c =
    let given = follow_given c.args.block.now c.args.out.now c.requires in
    (given.1, given.2)

pub overflow_sub-result : goal.overflow_sub-result
overflow_sub-result c = (follow_given c.args.block.now c.args.out.now c.requires).0

pub returns : goal.returns
returns c = follow_put c.args.block.now c.args.out.now c.requires c.put_unfollowed.new.out c.put_unfollowed.ensures
