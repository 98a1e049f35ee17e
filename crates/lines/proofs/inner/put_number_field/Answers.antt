-- The digits are put, and the byte that ends them behind them: two pieces, which are the field.
use Rattle.lines.specs.Lines.{number_field}
use Rattle.text.proofs.Writing.{pieces}
use Rattle.lines.proofs.inner.put_number_field.Goals as goal

pub put_number-requires : goal.put_number-requires
unfolding number_field
put_number-requires c = search pieces

pub put_byte-requires : goal.put_byte-requires
unfolding number_field
put_byte-requires c = search pieces

pub returns : goal.returns
unfolding number_field
returns c = search pieces
