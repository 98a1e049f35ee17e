-- The summary's numbers are the totals of the values over 100, and their sum over 100 times how many there are.
use Rattle.sff_signal.proofs.Made.{made}
use Rattle.sff_signal.proofs.inner.values_summary.Goals as goal

pub returns : goal.returns
returns c = search made
