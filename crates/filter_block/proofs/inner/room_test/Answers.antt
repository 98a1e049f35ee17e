-- A size above the room is refused, any other accepted, as the definition's one test says.
use Rattle.answers.proofs.Chains.{refusal, onward}
use Rattle.filter_block.proofs.inner.room_test.Goals as goal

pub returns-then-room-n : goal.returns-then-room-n
returns-then-room-n c = search refusal

pub returns : goal.returns
returns c = search onward
