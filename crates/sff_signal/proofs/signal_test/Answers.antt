-- The position's own refusal ends the chain; behind it the file is accepted, and its header says whether reads have
-- flows.
use mathlib.Core.Path.{sym, ◌∙◌}
use Rattle.answers.proofs.Chains.{handed_back, returned}
use Rattle.sff_format.specs.Position.{signal_test}
use Rattle.sff_format.proofs.HeaderLaws.{fits_31}
use Rattle.sff_format.proofs.FileLaid.{head_ok}
use Rattle.sff_format.proofs.Positions.{position-file, signal_none, signal-there}
use Rattle.sff_signal.proofs.signal_test.Goals as goal

pub returns-in_err-position_test : goal.returns-in_err-position_test
unfolding signal_test
returns-in_err-position_test c = search (handed_back, returned, c.in_err-position_test.ensures)

pub new-requires : goal.new-requires
new-requires c = fits_31 _ (head_ok _ (position-file _ _ (sym c.in_ok-position_test.ensures)))

pub returns-then-flows-eq0 : goal.returns-then-flows-eq0
returns-then-flows-eq0 c =
    let flows = rw c.new.ensures at c.flows.ensures.0 in
    signal_none _ _ (sym c.in_ok-position_test.ensures) (sym flows ∙ c.if-flows-eq0.true)

pub returns : goal.returns
returns c =
    let flows = rw c.new.ensures at c.flows.ensures.0 in
    signal-there _ _ (sym c.in_ok-position_test.ensures) (λ z. c.if-flows-eq0.false (flows ∙ z))
