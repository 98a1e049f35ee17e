-- The filter is one of its cases: what its tests left is what that case's function asks, and what that function puts is
-- the definition's.
use Rattle.filter_block.proofs.Opening.{put_other}
use Rattle.filter_block.proofs.inner.undo_filter.Goals as goal

pub returns-in-Other : goal.returns-in-Other
returns-in-Other c = put_other _ _ _ c.in-Other.is
