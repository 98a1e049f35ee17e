-- The index's test is asked where one is due, and nothing elsewhere.
use Rattle.sff_format.specs.FileTest.{index_test}
use Rattle.sff_file.proofs.Sections.{due}
use Rattle.sff_file.proofs.inner.index_test.Goals as goal

pub returns-then-index_here : goal.returns-then-index_here
unfolding index_test
returns-then-index_here c = rw (due c.index_here.ensures c.if-index_here.true) c.pass_test.ensures

pub returns : goal.returns
unfolding index_test
returns c = rw (due c.index_here.ensures c.if-index_here.false)
