-- The tests stand in the definition's order: at each `return` those before it have passed and this one decides. An
-- accepted file has the bytes of the header's fields.
use mathlib.Core.Path.{sym}
use Rattle.answers.proofs.Chains.{refusal, onward}
use Rattle.sff_format.specs.Writing.{open_test}
use Rattle.sff_format.proofs.HeaderLaws.{fits_31}
use Rattle.sff_format.proofs.FileLaid.{head_ok}
use Rattle.sff_writer.proofs.open_test.Goals as goal

pub returns-in_err-file_test : goal.returns-in_err-file_test
unfolding open_test
returns-in_err-file_test c = search (refusal, c.in_err-file_test.ensures)

pub new-headed-requires : goal.new-headed-requires
new-headed-requires c = fits_31 _ (head_ok _ (sym c.in_ok-file_test.ensures))

pub returns-then-has_index : goal.returns-then-has_index
unfolding open_test
returns-then-has_index c =
    let index = rw c.new-headed.ensures at c.has_index.ensures in
    search (refusal, index, c.in_ok-file_test.ensures)

pub returns-then-reads-eq-MOST_READS : goal.returns-then-reads-eq-MOST_READS
unfolding open_test
returns-then-reads-eq-MOST_READS c =
    let index = rw c.new-headed.ensures at c.has_index.ensures in
    let reads = rw c.new-headed.ensures at c.reads.ensures.0 in
    search (refusal, index, reads, c.in_ok-file_test.ensures)

pub returns : goal.returns
unfolding open_test
returns c =
    let index = rw c.new-headed.ensures at c.has_index.ensures in
    let reads = rw c.new-headed.ensures at c.reads.ensures.0 in
    let fewer = rw reads at c.if-reads-eq-MOST_READS.false in
    search (onward, index, fewer, c.in_ok-file_test.ensures)
