-- The four labelled numbers, each put behind the one before it, are an answer's line.
use Rattle.lines.specs.Lines.{answer_line}
use Rattle.text.proofs.Writing.{pieces}
use Rattle.lines.proofs.inner.AnswerLineText.put.Goals as goal

-- first the promise: a wrong line may fit as well
pub returns : goal.returns
unfolding answer_line
returns c = search pieces

pub put_labelled_number-requires : goal.put_labelled_number-requires
unfolding answer_line
put_labelled_number-requires c = search pieces

pub put_labelled_number-requires-2 : goal.put_labelled_number-requires-2
unfolding answer_line
put_labelled_number-requires-2 c = search pieces

pub put_labelled_number-requires-3 : goal.put_labelled_number-requires-3
unfolding answer_line
put_labelled_number-requires-3 c = search pieces

pub put_labelled_number-requires-4 : goal.put_labelled_number-requires-4
unfolding answer_line
put_labelled_number-requires-4 c = search pieces
