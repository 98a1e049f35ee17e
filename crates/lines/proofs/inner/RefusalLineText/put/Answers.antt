-- The labelled number, and the labelled place behind it, are a refusal's line.
use Rattle.lines.specs.Lines.{refusal_line}
use Rattle.text.proofs.Writing.{pieces}
use Rattle.lines.proofs.inner.RefusalLineText.put.Goals as goal

-- first the promise: a wrong line may fit as well
pub returns : goal.returns
unfolding refusal_line
returns c = search pieces

pub put_labelled_number-requires : goal.put_labelled_number-requires
unfolding refusal_line
put_labelled_number-requires c = search pieces

pub put_labelled_number-requires-2 : goal.put_labelled_number-requires-2
unfolding refusal_line
put_labelled_number-requires-2 c = search pieces
