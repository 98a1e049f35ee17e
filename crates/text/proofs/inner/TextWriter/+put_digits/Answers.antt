-- Behind the digits of the tenth there is room for the last digit, and with it they are all of them.
use Rattle.std.proofs.Common.{[], ◌∷◌, ◌+◌, ◌%◌}
use Rattle.text.proofs.Writing.{room_then, puts_then}
use Rattle.text.proofs.Decimal.{more_digits}
use Rattle.text.proofs.inner.TextWriter.+put_digits.Goals as goal

pub put_byte-requires-2 : goal.put_byte-requires-2
put_byte-requires-2 t c =
    let room = rw (more_digits _ _ c.if-most-eq0.false c.if-n-lt10.false) at c.requires in
    rw c.digit_byte-2.ensures (room_then _ ((48 + c.args.n % 10) ∷ []) room c.put_digits.ensures)

pub returns : goal.returns
returns t c =
    let room = rw (more_digits _ _ c.if-most-eq0.false c.if-n-lt10.false) at c.requires in
    let last = rw c.digit_byte-2.ensures at c.put_byte-2.ensures in
    rw (more_digits _ _ c.if-most-eq0.false c.if-n-lt10.false) (puts_then _ _ room c.put_digits.ensures last)
