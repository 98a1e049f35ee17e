-- The label is put, and the number's field behind it: two pieces, which are the labelled number.
use Rattle.lines.specs.Lines.{labelled_number}
use Rattle.text.proofs.Writing.{pieces}
use Rattle.lines.proofs.inner.put_labelled_number.Goals as goal

pub put_bytes-requires : goal.put_bytes-requires
unfolding labelled_number
put_bytes-requires c = search pieces

pub put_number_field-requires : goal.put_number_field-requires
unfolding labelled_number
put_number_field-requires c = search pieces

pub returns : goal.returns
unfolding labelled_number
returns c = search pieces
