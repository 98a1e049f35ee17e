-- The read at the place is the one at the record's position, and its name is compared with the record's old name.
use Rattle.sff_reasons.proofs.Told.{found, found_name, name_told}
use Rattle.sff_reasons.proofs.inner.Judged.other_name.Goals as goal

pub has_name-requires : goal.has_name-requires
has_name-requires c = found_name (found c.args.self.now) c.args.self.now.place_is

pub returns : goal.returns
returns c room =
    let j = c.args.self.now in
    name_told (found j) j.place_is room (rw c.old_name.ensures at c.has_name.ensures)
