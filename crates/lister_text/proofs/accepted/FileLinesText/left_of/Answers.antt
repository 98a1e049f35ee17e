use Rattle.std.proofs.Common.{arith}
use Rattle.octets.proofs.AllBytes.{bytes_of_lem}
use Rattle.text.proofs.Coming.{room_left_start, room_left_more, room_left_none, room_left_done}
use Rattle.lister_text.specs.Listing.{view_line}
use Rattle.lister_text.proofs.Turns.{listing_start, listing-done, listing_next, listing-more}
use Rattle.lister_text.proofs.accepted.FileLinesText.left_of.Goals as goal

pub loop-position-init : goal.loop-position-init
loop-position-init c =
    let header = room_left_start c.args.room _ c.header_line.ensures in
    listing_start _ _ (bytes_of_lem _ c.args.self.now.bytes) c.args.self.now.accepted c.first_boundary-boundary.ensures
    (room_left_more _ _ header c.in_ok-behind_header.ensures.0 c.in_ok-behind_header.ensures.1)

-- a read is left
pub next_read-here-requires-clause-position_bound : goal.next_read-here-requires-clause-position_bound
next_read-here-requires-clause-position_bound c =
    omega (arith, c.reads-position-end.ensures.0)

pub returns-in_err-left : goal.returns-in_err-left
returns-in_err-left c =
    let reads = c.reads-position-end.ensures.0 in
    let coming = listing_next c.loop-position.invariant (omega (arith, reads)) c.next_read-here.ensures.view_value in
    let none = rw c.read_line.ensures at c.in_err-left.ensures in
    rw c.from_residual-in_err-left.ensures
    (λ h. omega (arith, h, room_left_none (view_line _ _ c.next_read-here.result.view) _ coming (omega (arith, none))))

pub loop-position-preserved : goal.loop-position-preserved
loop-position-preserved c =
    let n = c.next_read-here.ensures in
    let reads = c.reads-position-end.ensures.0 in
    let left = rw c.read_line.ensures at c.in_ok-left.ensures in
    listing-more c.loop-position.invariant (omega (arith, reads)) n.view_value _ n.after_value
    (λ rest k. room_left_more (view_line _ _ c.next_read-here.result.view) rest k left.0 left.1)

pub returns : goal.returns
returns c =
    let reads = c.reads-position-end.ensures.0 in
    room_left_done (listing-done c.loop-position.invariant (omega (arith, reads)))
