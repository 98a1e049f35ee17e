-- No digit where `most` is 0, one for a number below 10; else one digit more than those of the tenth, which are at most
-- `most - 1`, so that the sum does not wrap. `most` falls from call to call.
use Rattle.text.proofs.inner.+count_digits.Given as goal

abbrev pub decreases-count_digits : goal.decreases-count_digits
decreases-count_digits l = l.most
