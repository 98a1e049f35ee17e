-- The tests stand in the definition's order: at each `return` those before it have passed and this one decides.
use Rattle.answers.proofs.Chains.{refusal, onward}
use Rattle.sff_format.specs.Writing.{new_test}
use Rattle.sff_writer.proofs.Reasons.{either_told, new_over, new-within}
use Rattle.sff_writer.proofs.new_test.Goals as goal

pub returns-then-header-gt-MOST_CHARACTERS : goal.returns-then-header-gt-MOST_CHARACTERS
unfolding new_test
returns-then-header-gt-MOST_CHARACTERS c = search refusal

pub returns-then-fails : goal.returns-then-fails
unfolding new_test
returns-then-fails c = search (refusal, either_told)

pub returns-then-room-size : goal.returns-then-room-size
unfolding new_test
returns-then-room-size c = search (refusal, either_told, new_over)

pub returns : goal.returns
unfolding new_test
returns c = search (onward, either_told, new-within)
