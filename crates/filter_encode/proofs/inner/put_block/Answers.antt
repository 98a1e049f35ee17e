-- The format byte, the rest of the header, the data: each is put behind the one before it, so that the three are the
-- block; what was judged holds after each of them, since the buffer keeps its length.
use Rattle.filter_encode.proofs.Putting.{some_room, block_put}
use Rattle.filter_encode.proofs.inner.put_block.Goals as goal

pub bounds-out-0 : goal.bounds-out-0
bounds-out-0 c =
    let a = c.args in
    some_room a.format a.level a.follow.now a.source.now a.out.now c.requires

pub returns : goal.returns
returns c =
    let a = c.args in
    block_put a.format a.level a.follow.now a.source.now a.out.now c.requires
    c.filter_of-filter.ensures c.put_rest.ensures c.put_data.ensures
