-- The units are more than the room holds exactly where their bytes are more than the room: then 26, else accepted.
use Rattle.answers.proofs.Chains.{refusal, onward}
use Rattle.filter_block.proofs.Tests.{units_over, units_fit}
use Rattle.filter_block.proofs.inner.units_room_test.Goals as goal

pub returns-then-room-width : goal.returns-then-room-width
returns-then-room-width c = search (refusal, units_over)

pub returns : goal.returns
returns c = search (onward, units_fit)
