-- Position, name, extent and insert, each put behind the one before it, are a read's line.
use Rattle.lines.specs.Lines.{read_line}
use Rattle.text.proofs.Writing.{pieces}
use Rattle.lines.proofs.inner.ReadLineText.put.Goals as goal

-- first the promise: a wrong line may fit as well
pub returns : goal.returns
unfolding read_line
returns c = search pieces

pub put_number_field-requires : goal.put_number_field-requires
unfolding read_line
put_number_field-requires c = search pieces

pub put_word_field-requires : goal.put_word_field-requires
unfolding read_line
put_word_field-requires c = search pieces

pub put_extent-requires : goal.put_extent-requires
unfolding read_line
put_extent-requires c = search pieces

pub put_word_field-requires-2 : goal.put_word_field-requires-2
unfolding read_line
put_word_field-requires-2 c = search pieces
