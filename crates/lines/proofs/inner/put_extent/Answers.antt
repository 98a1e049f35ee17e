-- Three numbers' fields, each put behind the one before it, are the extent.
use Rattle.lines.specs.Lines.{extent}
use Rattle.text.proofs.Writing.{pieces}
use Rattle.lines.proofs.inner.put_extent.Goals as goal

pub put_number_field-requires : goal.put_number_field-requires
unfolding extent
put_number_field-requires c = search pieces

pub put_number_field-requires-2 : goal.put_number_field-requires-2
unfolding extent
put_number_field-requires-2 c = search pieces

pub put_number_field-requires-3 : goal.put_number_field-requires-3
unfolding extent
put_number_field-requires-3 c = search pieces

pub returns : goal.returns
unfolding extent
returns c = search pieces
