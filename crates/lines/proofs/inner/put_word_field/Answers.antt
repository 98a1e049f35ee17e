-- The word or the dash is put, and the byte that ends it behind it: two pieces, which are the field.
use Rattle.lines.specs.Lines.{word_field}
use Rattle.text.proofs.Writing.{pieces}
use Rattle.lines.proofs.inner.put_word_field.Goals as goal

pub put_or_dash-requires : goal.put_or_dash-requires
unfolding word_field
put_or_dash-requires c = search pieces

pub put_byte-requires : goal.put_byte-requires
unfolding word_field
put_byte-requires c = search pieces

pub returns : goal.returns
unfolding word_field
returns c = search pieces
