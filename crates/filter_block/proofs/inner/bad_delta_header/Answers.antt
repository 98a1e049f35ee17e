-- The level is tested, then the bytes behind it up to the data, as the definition does; the header is in the block, so
-- that the level's byte is there.
use Rattle.std.proofs.Common.{sym, ap, ◌∙◌}
use native.Mathlib.Omega.{arith}
use Rattle.filter_format.specs.Block.{bad_level, bad_header}
use Rattle.filter_block.proofs.Headers.{delta-start, level_in}
use Rattle.filter_block.proofs.inner.bad_delta_header.Goals as goal

pub bounds-block-1 : goal.bounds-block-1
bounds-block-1 c = level_in c.args.width c.args.block.now c.requires

pub first_not-requires : goal.first_not-requires
first_not-requires c =
    let h = c.header_length-start.ensures.0 in
    (delta-start c.args.width _ h, omega (arith, h, c.requires))

pub returns-then-bad_level : goal.returns-then-bad_level
unfolding bad_header
returns-then-bad_level c =
    let bad = ap bad_level (sym c.from.ensures) ∙ sym c.bad_level.ensures ∙ c.if-bad_level.true in
    rw (c.if-bad_level.true, bad)

pub returns-else-bad_level : goal.returns-else-bad_level
unfolding bad_header
returns-else-bad_level c =
    let bad = ap bad_level (sym c.from.ensures) ∙ sym c.bad_level.ensures ∙ c.if-bad_level.false in
    rw (bad, c.first_not.ensures.0, c.header_length-start.ensures.0)
