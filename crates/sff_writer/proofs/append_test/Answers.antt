-- The tests stand in the definition's order: at each `return` those before it have passed and this one decides. A file
-- that takes reads has its header's bytes, and the counts of a read that is not refused are bounded.
use Rattle.octets.proofs.AllBytes.{bytes_of_lem, bytes_take}
use Rattle.answers.proofs.Chains.{refusal, onward}
use Rattle.sff_format.specs.Writing.{append_test}
use Rattle.std.proofs.Common.{rules}
use Rattle.sff_writer.proofs.Reasons.{open_header, open_few, given_bounds, append-tested, read_over, read-within}
use Rattle.sff_writer.proofs.append_test.Goals as goal

pub returns-then-file_length-buffer : goal.returns-then-file_length-buffer
unfolding append_test
returns-then-file_length-buffer c = search refusal

pub returns-in_err-open_test : goal.returns-in_err-open_test
unfolding append_test
returns-in_err-open_test c = search (refusal, c.in_err-open_test.ensures)

pub new-requires : goal.new-requires
new-requires c = search (open_header, c.in_ok-open_test.ensures)

pub given_test-requires : goal.given_test-requires
given_test-requires c =
    let characters = rw c.new.ensures at c.flow_characters.ensures in
    open_few _ c.in_ok-open_test.ensures characters (bytes_take _ _ (bytes_of_lem _ (search rules)))

pub returns-in_err-given_test : goal.returns-in_err-given_test
returns-in_err-given_test c =
    let characters = rw c.new.ensures at c.flow_characters.ensures in
    append-tested _ _ _ c.in_ok-open_test.ensures characters
    (search (refusal, c.in_ok-open_test.ensures, c.in_err-given_test.ensures))

pub size-requires : goal.size-requires
size-requires c =
    let characters = rw c.new.ensures at c.flow_characters.ensures in
    given_bounds _ _ c.in_ok-given_test.ensures
    (open_few _ c.in_ok-open_test.ensures characters (bytes_take _ _ (bytes_of_lem _ (search rules))))

pub returns-then-buffer-file_length : goal.returns-then-buffer-file_length
returns-then-buffer-file_length c =
    let characters = rw c.new.ensures at c.flow_characters.ensures in
    append-tested _ _ _ c.in_ok-open_test.ensures characters
    (search (refusal, read_over, c.in_ok-open_test.ensures, c.in_ok-given_test.ensures) depth 9)

pub returns : goal.returns
returns c =
    let characters = rw c.new.ensures at c.flow_characters.ensures in
    append-tested _ _ _ c.in_ok-open_test.ensures characters
    (search (onward, read-within, c.in_ok-open_test.ensures, c.in_ok-given_test.ensures) depth 9)
