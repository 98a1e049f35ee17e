-- The level's byte, then zeros up to the data: together the header behind the format byte, which the buffer holds.
use native.Mathlib.Omega.{arith}
use lib.ListN.{length-set}
use Rattle.filter_block.proofs.Headers.{level_in, delta-start}
use Rattle.filter_encode.proofs.Putting.{level_put}
use Rattle.filter_encode.proofs.inner.put_level.Goals as goal

pub bounds-out-1 : goal.bounds-out-1
bounds-out-1 c = level_in c.args.width c.args.out.now c.requires.1

pub fill-requires : goal.fill-requires
fill-requires c =
    let h = c.header_length-start.ensures.0 in
    (delta-start c.args.width _ h, simp length-set (omega (arith, h, c.requires.1)))

pub returns : goal.returns
returns c =
    let h = c.header_length-start.ensures.0 in
    level_put c.args.level c.args.width _ c.args.out.now c.requires.0 h (delta-start c.args.width _ h)
    (omega (arith, h, c.requires.1)) c.fill.ensures
