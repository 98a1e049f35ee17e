-- Where the header is refused the place is 0; where it is accepted its length stands in the fields.
use mathlib.Core.Path.{sym}
use Rattle.sff_format.proofs.HeaderLaws.{fits_31}
use Rattle.sff_reader.proofs.Reading.{fresh_refused, fresh-accepted}
use Rattle.sff_reader.proofs.fresh_place.Goals as goal

pub returns-in_default : goal.returns-in_default
returns-in_default c = fresh_refused _ c.in_default.ensures

pub new-requires : goal.new-requires
new-requires c = fits_31 _ (sym c.in-Ok.ensures)

pub returns : goal.returns
returns c = fresh-accepted _ c.in-Ok.ensures (rw c.new.ensures at c.length.ensures.0)
