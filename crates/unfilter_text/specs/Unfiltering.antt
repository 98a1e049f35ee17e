-- What `unfilter` prints of a block: its data, or else as the lister prints it. Assumes nothing: these are definitions.
use Rattle.std.specs.Prelude.{ℕ, List, length}
use Rattle.filter_format.specs.Undo.{Result, room_of, undo}
use Rattle.text.specs.Writing.{Fitted, fitted}
use Rattle.lines.specs.Lines.{answered, unless_long}

-- the data, or the refusal, of a call: "A refusal is one line and nothing else"
abbrev pub text_of : Result → List ℕ
text_of result = answered result.answer result.bytes

-- "longer input than 65,536 bytes prints `too long`"
unfoldable pub unfilter_text : ℕ → List ℕ → List ℕ
unfilter_text room block = unless_long block (text_of (undo room block))

-- the same by way of two buffers, if the first holds it
abbrev pub printed_by : List ℕ → List ℕ → List ℕ → Fitted
printed_by first second block = fitted (length first) (unfilter_text (room_of first second) block)
