-- The code makes the tests of `view_test` in their order: a `?` stands where one refuses, and the end gives the last
-- one's answer.
use Rattle.answers.proofs.Chains.{refusal, onward}
use Rattle.sff_format.specs.View.{view_test}
use Rattle.sff_view.proofs.view_test.Goals as goal

pub returns-in_err-part_test : goal.returns-in_err-part_test
unfolding view_test
returns-in_err-part_test c = search (refusal, c.in_err-part_test.ensures)

pub returns-in_err-part_test-2 : goal.returns-in_err-part_test-2
unfolding view_test
returns-in_err-part_test-2 c = search (refusal, c.in_ok-part_test.ensures, c.in_err-part_test-2.ensures)

pub returns-in_err-part_test-3 : goal.returns-in_err-part_test-3
unfolding view_test
returns-in_err-part_test-3 c =
    search (refusal, c.in_ok-part_test.ensures, c.in_ok-part_test-2.ensures, c.in_err-part_test-3.ensures)

pub returns-in_err-part_test-4 : goal.returns-in_err-part_test-4
unfolding view_test
returns-in_err-part_test-4 c =
    search
    (refusal, c.in_ok-part_test.ensures, c.in_ok-part_test-2.ensures, c.in_ok-part_test-3.ensures, c.in_err-part_test-4.ensures)
    depth 9 fits 20000

pub returns-in_err-part_test-5 : goal.returns-in_err-part_test-5
unfolding view_test
returns-in_err-part_test-5 c =
    search
    (refusal, c.in_ok-part_test.ensures, c.in_ok-part_test-2.ensures, c.in_ok-part_test-3.ensures, c.in_ok-part_test-4.ensures, c.in_err-part_test-5.ensures)
    depth 11 fits 20000

pub returns : goal.returns
unfolding view_test
returns c =
    search
    (onward, c.in_ok-part_test.ensures, c.in_ok-part_test-2.ensures, c.in_ok-part_test-3.ensures, c.in_ok-part_test-4.ensures, c.in_ok-part_test-5.ensures)
    depth 11 fits 20000
