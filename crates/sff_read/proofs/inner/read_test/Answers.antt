-- The code makes the tests of `read_test` in their order: a `return` or a `?` stands where one refuses, and the end gives
-- the last one's answer. `read-tested` says them of the lengths and the fields as they were read. A name that is accepted
-- lies in the file whole, so the data section starts in it.
use Rattle.answers.proofs.Chains.{refusal, onward}
use Rattle.sff_format.specs.ReadTest.{read_test}
use Rattle.sff_read.proofs.ReadLaws.{name_fits, read-tested}
use Rattle.std.proofs.Common.{rules}
use Rattle.sff_read.proofs.inner.read_test.Goals as goal

pub returns-then-file-place : goal.returns-then-file-place
unfolding read_test
returns-then-file-place c = search refusal

pub returns-in_err-name_test : goal.returns-in_err-name_test
unfolding read_test
returns-in_err-name_test c =
    rw (← c.get16-section.ensures.0, ← c.get16.ensures.0) (search (refusal, c.in_err-name_test.ensures))

pub returns-in_err-clip_test : goal.returns-in_err-clip_test
returns-in_err-clip_test c = search (refusal, read-tested, c.in_ok-name_test.ensures, c.in_err-clip_test.ensures)

pub data_test-requires : goal.data_test-requires
data_test-requires c = search (name_fits, rules, c.in_ok-name_test.ensures)

pub returns : goal.returns
returns c = search (onward, read-tested, c.in_ok-name_test.ensures, c.in_ok-clip_test.ensures)
