-- The walk goes on by one read at each turn; where it stands at the position, the read that begins there is the one.
use mathlib.Core.Path.{◌≡◌, ap, ◌∙◌}
use native.Mathlib.Omega.{arith}
use Rattle.sff_format.specs.Places.{read_place}
use Rattle.sff_format.proofs.Walks.{walk_place, walk_begins, walk_next}
use Rattle.sff_find.proofs.inner.seek.Goals as goal

pub next_boundary-at-requires : goal.next_boundary-at-requires
next_boundary-at-requires c =
    walk_begins c.loop-passed.invariant c.past_index-start.ensures (omega arith)

pub loop-passed-preserved : goal.loop-passed-preserved
loop-passed-preserved c =
    let walk = c.loop-passed.invariant in
    walk_next walk c.past_index-start.ensures (omega arith) c.next_boundary-at.ensures

pub returns : goal.returns
returns c =
    let loop = c.loop-passed in
    let arrived : loop._passed ≡ c.args.position = omega arith in
    let here = c.past_index.ensures in
    (walk_place loop.invariant here ∙ ap (read_place _) arrived, walk_begins loop.invariant here (omega arith))
