-- The bytes behind the header are the data, and the level is the header's: the passes undone over them, in units of
-- the width that the arm is for, are the definition's.
use native.Mathlib.Omega.{arith}
use Rattle.filter_block.proofs.Headers.{level_in}
use Rattle.filter_block.proofs.Opening.{delta_given, delta_put}
use Rattle.filter_block.proofs.inner.undo_delta.Goals as goal

pub bounds-block-1 : goal.bounds-block-1
bounds-block-1 c = level_in c.args.width c.args.block.now c.requires.1

pub put_undelta-requires : goal.put_undelta-requires
put_undelta-requires c =
    delta_given c.args.block.now c.args.out.now c.args.width _ c.requires c.header_length.ensures.0 1 c.in-1.is

pub put_undelta-requires-in-2 : goal.put_undelta-requires-in-2
put_undelta-requires-in-2 c =
    delta_given c.args.block.now c.args.out.now c.args.width _ c.requires c.header_length.ensures.0 2 c.in-2.is

pub put_undelta-requires-in_default : goal.put_undelta-requires-in_default
put_undelta-requires-in_default c =
    delta_given c.args.block.now c.args.out.now c.args.width _ c.requires c.header_length.ensures.0 4 (omega (arith, c.requires.0))

pub returns-in-1 : goal.returns-in-1
returns-in-1 c =
    let h = c.header_length.ensures.0 in
    delta_put c.args.block.now c.args.out.now c.args.width _ c.requires h 1 c.in-1.is
    _ c.put_undelta.new.out c.from-level.ensures c.put_undelta.ensures

pub returns-in-2 : goal.returns-in-2
returns-in-2 c =
    let h = c.header_length.ensures.0 in
    delta_put c.args.block.now c.args.out.now c.args.width _ c.requires h 2 c.in-2.is
    _ c.put_undelta-in-2.new.out c.from-level.ensures c.put_undelta-in-2.ensures

pub returns-in_default : goal.returns-in_default
returns-in_default c =
    let h = c.header_length.ensures.0 in
    let k = c.put_undelta-in_default in
    delta_put c.args.block.now c.args.out.now c.args.width _ c.requires h 4 (omega (arith, c.requires.0))
    _ k.new.out c.from-level.ensures k.ensures
