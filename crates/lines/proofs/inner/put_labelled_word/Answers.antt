-- The label is put, and the word's field behind it: two pieces, which are the labelled word.
use Rattle.lines.specs.Lines.{labelled_word}
use Rattle.text.proofs.Writing.{pieces}
use Rattle.lines.proofs.inner.put_labelled_word.Goals as goal

pub put_bytes-requires : goal.put_bytes-requires
unfolding labelled_word
put_bytes-requires c = search pieces

pub put_word_field-requires : goal.put_word_field-requires
unfolding labelled_word
put_word_field-requires c = search pieces

pub returns : goal.returns
unfolding labelled_word
returns c = search pieces
