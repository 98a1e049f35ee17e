-- The step's tests accepted a read at the boundary past any index: so it begins there, one read was left, and the view,
-- the boundary after it and the counts are what the step says.
use Rattle.std.proofs.Common.{arith}
use Rattle.octets.proofs.AllBytes.{bytes_of_lem}
use Rattle.sff_format.proofs.HeaderLaws.{fits_31}
use Rattle.sff_format.proofs.Steps.{header_accepted, place_inside, one_left}
use Rattle.sff_reader.proofs.Reading.{reads_small, found_is, found_begins}
use Rattle.sff_reader.proofs.read_found.Goals as goal

pub new-headed-requires : goal.new-headed-requires
new-headed-requires c = fits_31 _ (header_accepted _ _ c.requires)

pub past_index-start-requires : goal.past_index-start-requires
past_index-start-requires c = rw (c.boundary.ensures, c.new-headed.ensures) (place_inside _ _ c.requires)

pub next_boundary-after-requires : goal.next_boundary-after-requires
next_boundary-after-requires c =
    rw c.new-headed.ensures
    (found_begins _ _ c.requires (rw (c.boundary.ensures, c.new-headed.ensures) at c.past_index-start.ensures))

pub overflow_add-next : goal.overflow_add-next
overflow_add-next c =
    let bytes = bytes_of_lem c.args.file.now (λ i. (c.type_inv.file i).fits) in
    let small = reads_small _ bytes (fits_31 _ (header_accepted _ _ c.requires)) in
    omega (arith, one_left _ _ c.requires, small)

pub view_at-requires : goal.view_at-requires
view_at-requires c =
    rw c.new-headed.ensures
    (found_begins _ _ c.requires (rw (c.boundary.ensures, c.new-headed.ensures) at c.past_index-start.ensures))

pub returns : goal.returns
returns c =
    found_is _ _ c.requires
    (rw (c.boundary.ensures, c.new-headed.ensures) at c.past_index-start.ensures)
    (rw c.new-headed.ensures at c.next_boundary-after.ensures)
    (rw c.new-headed.ensures at c.view_at.ensures)
