-- The code joins the same four conditions as the definition, in the same order.
use Rattle.answers.proofs.Chains.{refusal, onward}
use Rattle.sff_format.specs.Writing.{bad_counts}
use Rattle.sff_sections.proofs.NewRead.counts_test.Goals as goal

pub returns-then-self-flows : goal.returns-then-self-flows
unfolding bad_counts
returns-then-self-flows c = search refusal

pub returns : goal.returns
unfolding bad_counts
returns c = search onward
