-- The labelled flows, key and reads, each put behind the one before it, are a header's line.
use Rattle.lines.specs.Lines.{header_line}
use Rattle.text.proofs.Writing.{pieces}
use Rattle.lines.proofs.inner.HeaderLineText.put.Goals as goal

-- first the promise: a wrong line may fit as well
pub returns : goal.returns
unfolding header_line
returns c = search pieces

pub put_labelled_number-requires : goal.put_labelled_number-requires
unfolding header_line
put_labelled_number-requires c = search pieces

pub put_labelled_word-requires : goal.put_labelled_word-requires
unfolding header_line
put_labelled_word-requires c = search pieces

pub put_labelled_number-requires-2 : goal.put_labelled_number-requires-2
unfolding header_line
put_labelled_number-requires-2 c = search pieces
