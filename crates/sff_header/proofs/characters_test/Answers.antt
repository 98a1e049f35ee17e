-- The code makes the tests of `characters_test` in their order: a `return` stands where one refuses, the end where all
-- have accepted. The calls gave the numbers that it compares.
use Rattle.answers.proofs.Chains.{refusal, onward}
use Rattle.sff_format.specs.HeaderTest.{characters_test}
use Rattle.sff_header.proofs.characters_test.Goals as goal

pub returns-then-other-padding : goal.returns-then-other-padding
unfolding characters_test
returns-then-other-padding c = rw (← c.characters_end-padding.ensures.0, ← c.bytes-bytes.ensures) (search refusal)

pub returns-then-other-end : goal.returns-then-other-end
unfolding characters_test
returns-then-other-end c =
    rw (← c.characters_end-padding.ensures.0, ← c.length-end.ensures.0, ← c.bytes-bytes.ensures) (search refusal)

pub returns-then-bad_index : goal.returns-then-bad_index
unfolding characters_test
returns-then-bad_index c =
    rw (← c.characters_end-padding.ensures.0, ← c.length-end.ensures.0, ← c.index_offset.ensures, ← c.index_length.ensures.0, ← c.bytes-bytes.ensures)
    (search refusal)

pub returns : goal.returns
unfolding characters_test
returns c =
    rw (← c.characters_end-padding.ensures.0, ← c.length-end.ensures.0, ← c.index_offset.ensures, ← c.index_length.ensures.0, ← c.bytes-bytes.ensures)
    (search onward)
