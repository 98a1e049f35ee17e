-- `most` falls from call to call.
use Rattle.text.proofs.inner.TextWriter.+put_digits.Given as goal

abbrev pub decreases-put_digits : goal.decreases-put_digits
decreases-put_digits l = l.most
