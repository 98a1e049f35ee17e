-- All but the format byte is copied to the front: that is the data, and the block was tested to have room for them.
use native.Mathlib.Omega.{arith}
use Rattle.filter_block.proofs.Opening.{raw_fits, raw_put}
use Rattle.filter_block.proofs.inner.undo_raw.Goals as goal

pub overflow_sub-n : goal.overflow_sub-n
overflow_sub-n c = (raw_fits c.args.block.now c.args.out.now c.requires).0

pub copy-requires : goal.copy-requires
copy-requires c = omega (arith, raw_fits c.args.block.now c.args.out.now c.requires)

pub returns : goal.returns
returns c = raw_put c.args.block.now c.args.out.now c.requires c.copy.new.buffer c.copy.ensures
