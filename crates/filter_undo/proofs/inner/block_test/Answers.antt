-- The tests stand in the definition's order, on the filter that the caller gives, which is the block's: at each
-- `return` none of those before it holds.
use Rattle.answers.proofs.Chains.{refusal, onward}
use Rattle.filter_undo.proofs.Chain.{judging}
use Rattle.filter_undo.proofs.inner.block_test.Goals as goal

pub returns-then-block-eq0 : goal.returns-then-block-eq0
returns-then-block-eq0 c = search (refusal, judging)

pub returns-then-raw-filters : goal.returns-then-raw-filters
returns-then-raw-filters c = search (refusal, judging)

pub returns-then-filters-left : goal.returns-then-filters-left
returns-then-filters-left c = search (refusal, judging)

pub contents_test-requires : goal.contents_test-requires
contents_test-requires c = search judging

pub returns : goal.returns
returns c = search (onward, judging)
