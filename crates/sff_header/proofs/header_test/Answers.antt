-- The code makes the tests of `header_test` in their order: a `?` or a `return` stands where one refuses, and the end
-- gives the last one's answer. The header that was read is the file's.
use mathlib.Core.Path.{sym, ◌∙◌}
use Rattle.answers.proofs.Answers.{second-ok, same_ok}
use Rattle.answers.proofs.Chains.{refusal, onward}
use Rattle.sff_format.specs.HeaderTest.{fixed_test, header_test}
use Rattle.sff_header.proofs.header_test.Goals as goal

pub returns-then-file-lt31 : goal.returns-then-file-lt31
unfolding header_test
returns-then-file-lt31 c = search refusal

pub returns-in_err-fixed_test : goal.returns-in_err-fixed_test
unfolding header_test
returns-in_err-fixed_test c =
    let file = c.new-headed.ensures in
    search (refusal, rw file at c.in_err-fixed_test.ensures)

pub returns-then-file-length : goal.returns-then-file-length
unfolding header_test
returns-then-file-length c =
    let file = c.new-headed.ensures in
    search (refusal, rw file at c.in_ok-fixed_test.ensures, rw file at c.length.ensures.0)

pub returns : goal.returns
unfolding header_test
returns c =
    let file = c.new-headed.ensures in
    search (onward, rw file at c.in_ok-fixed_test.ensures, rw file at c.length.ensures.0, rw file at c.characters_test.ensures)

pub characters_test-requires : goal.characters_test-requires
unfolding fixed_test
characters_test-requires c = record {
  length_value = same_ok _ _ _ _ (second-ok _ _ (second-ok _ _ (second-ok _ _ (sym c.in_ok-fixed_test.ensures))));
  length_in_bounds = rw (← c.length.ensures.0, c.new-headed.ensures) c.if-file-length.false;
}
