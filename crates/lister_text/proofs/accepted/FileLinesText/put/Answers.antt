use Rattle.std.proofs.Common.{arith}
use Rattle.octets.proofs.AllBytes.{bytes_of_lem}
use Rattle.text.proofs.Coming.{coming_start, coming_room, coming_put, coming_done}
use Rattle.lister_text.specs.Listing.{view_line}
use Rattle.lister_text.proofs.Turns.{listing_start, listing-done, listing_next, listing-more}
use Rattle.lister_text.proofs.accepted.FileLinesText.put.Goals as goal

-- first the promise: a wrong line may fit as well
pub loop-position-preserved : goal.loop-position-preserved
loop-position-preserved c =
    let n = c.next_read-here.ensures in
    let reads = c.reads-position-end.ensures.0 in
    let put = rw c.read_line.ensures at c.put-in-loop-position.ensures in
    listing-more c.loop-position.invariant (omega (arith, reads)) n.view_value _ n.after_value
    (λ rest k. coming_put (view_line _ _ c.next_read-here.result.view) rest k put)

pub loop-position-init : goal.loop-position-init
loop-position-init c =
    let header = coming_start _ c.requires c.header_line.ensures in
    listing_start _ _ (bytes_of_lem _ c.args.self.now.bytes) c.args.self.now.accepted c.first_boundary-boundary.ensures
    (coming_put _ _ header c.put.ensures)

-- a read is left
pub next_read-here-requires-clause-position_bound : goal.next_read-here-requires-clause-position_bound
next_read-here-requires-clause-position_bound c =
    omega (arith, c.reads-position-end.ensures.0)

pub put-requires-in-loop-position : goal.put-requires-in-loop-position
put-requires-in-loop-position c =
    let reads = c.reads-position-end.ensures.0 in
    let coming = listing_next c.loop-position.invariant (omega (arith, reads)) c.next_read-here.ensures.view_value in
    rw c.read_line.ensures (coming_room _ _ coming)

pub returns : goal.returns
returns c =
    let reads = c.reads-position-end.ensures.0 in
    coming_done (listing-done c.loop-position.invariant (omega (arith, reads)))
