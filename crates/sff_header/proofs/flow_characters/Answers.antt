-- Where the header is accepted its characters lie in the file whole; where it is refused there are none.
use mathlib.Core.Path.{sym, ◌∙◌}
use Rattle.sff_format.proofs.HeaderLaws.{fits_31}
use Rattle.sff_header.proofs.Characters.{no_flow_characters, flow_characters_part}
use Rattle.sff_header.proofs.flow_characters.Goals as goal

pub returns-in_default : goal.returns-in_default
returns-in_default c = no_flow_characters _ c.in_default.ensures

pub new-requires : goal.new-requires
new-requires c = fits_31 _ (sym c.in-Ok.ensures)

pub returns : goal.returns
returns c = c.flow_characters.ensures ∙ rw c.new.ensures (flow_characters_part _ c.in-Ok.ensures)
