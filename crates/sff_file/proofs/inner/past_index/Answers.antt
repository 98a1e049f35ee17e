-- An index that is due is passed; where none is, the read starts at the boundary.
use Rattle.sff_format.proofs.Boundaries.{no_past, no_pass, past, pass}
use Rattle.sff_file.proofs.Sections.{due}
use Rattle.sff_file.proofs.inner.past_index.Goals as goal

pub returns-then-not-index_here : goal.returns-then-not-index_here
returns-then-not-index_here c =
    let h = due c.index_here.ensures c.if-not-index_here.true in
    rw (no_past _ _ _ h, no_pass _ _ _ h)

pub returns : goal.returns
returns c =
    let h = due c.index_here.ensures c.if-not-index_here.false in
    rw (past _ _ _ h, pass _ _ _ h, ← c.index_size.ensures.value)
