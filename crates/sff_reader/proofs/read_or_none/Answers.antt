-- With a read left it is tested; with none the end is, and where that is accepted the answer is 33.
use Rattle.answers.proofs.Chains.{handed_on, handed_back, returned}
use Rattle.sff_file.proofs.Sections.{characters_fit}
use Rattle.sff_reader.proofs.Reading.{read_left, none_left}
use Rattle.sff_reader.proofs.read_or_none.Goals as goal

pub read_test-requires : goal.read_test-requires
read_test-requires c =
    rw c.bytes.ensures (
      c.requires.place_in_bounds,
      c.flows.ensures.1,
      rw c.flows.ensures.0 (characters_fit _ c.requires.file_value),
    )

pub returns-then-reads : goal.returns-then-reads
returns-then-reads c =
    read_left _ _ _ _ c.reads.ensures.0 c.if-reads.true
    (rw (c.flows.ensures.0, c.bytes.ensures) at c.read_test.ensures)

pub returns-in_err-end_test : goal.returns-in_err-end_test
returns-in_err-end_test c =
    none_left _ _ _ _ c.reads.ensures.0 c.if-reads.false
    (search (handed_back, returned, c.in_err-end_test.ensures))

pub returns : goal.returns
returns c =
    none_left _ _ _ _ c.reads.ensures.0 c.if-reads.false
    (search (handed_on, c.in_ok-end_test.ensures))
