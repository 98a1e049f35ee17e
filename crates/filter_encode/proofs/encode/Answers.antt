-- The judgement is the answer. Where it refuses, nothing is written; where it accepts, it gives what the writing asks,
-- and the block is put at the front.
use mathlib.Core.Path.{refl}
use Rattle.filter_encode.proofs.Judging.{left_alone, judged, left-made}
use Rattle.filter_encode.proofs.encode.Goals as goal

pub returns-in_err-made-clause-out_after : goal.returns-in_err-made-clause-out_after
returns-in_err-made-clause-out_after c = let a = c.args in left_alone a.out.now a.format a.level a.follow.now a.source.now _ c.in_err-made.ensures refl

pub put_block-requires : goal.put_block-requires
put_block-requires c = let a = c.args in judged a.out.now a.format a.level a.follow.now a.source.now _ c.in_ok-made.ensures refl

pub returns-clause-out_after : goal.returns-clause-out_after
returns-clause-out_after c = let a = c.args in left-made a.out.now a.format a.level a.follow.now a.source.now _ c.in_ok-made.ensures refl c.put_block.ensures
