-- What is put at a turn stands in front of what is left, and where none is left all of them are put.
use Rattle.sff_sections.proofs.Pieces.{put_one, put_more, put_done}
use Rattle.sff_sections.proofs.inner.put_fields.Goals as goal

pub put_number-requires : goal.put_number-requires
put_number-requires c = put_one _ _ c.loop-width.invariant c.loop-width-test.true

pub loop-width-preserved : goal.loop-width-preserved
loop-width-preserved c = put_more _ _ c.loop-width.invariant c.loop-width-test.true c.put_number.ensures

pub returns : goal.returns
returns c = put_done _ _ c.loop-width.invariant c.loop-width-test.false
