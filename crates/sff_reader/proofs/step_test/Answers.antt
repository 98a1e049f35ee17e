-- The code makes the tests of `step_test` in their order: a `?` or a `return` stands where one refuses, and the end gives
-- the last one's answer, which is asked at the boundary past any index.
use mathlib.Core.Path.{sym}
use Rattle.answers.proofs.Chains.{refusal, onward}
use Rattle.sff_format.specs.Step.{step_test}
use Rattle.sff_format.proofs.HeaderLaws.{fits_31}
use Rattle.sff_format.proofs.Steps.{past_fits}
use Rattle.sff_reader.proofs.step_test.Goals as goal

pub returns-in_err-header_test : goal.returns-in_err-header_test
unfolding step_test
returns-in_err-header_test c = search (refusal, c.in_err-header_test.ensures)

pub returns-then-file-at : goal.returns-then-file-at
unfolding step_test
returns-then-file-at c =
    let beyond = rw c.boundary-at.ensures at c.if-file-at.true in
    rw c.boundary-at.ensures (search (refusal, c.in_ok-header_test.ensures, beyond))

pub new-headed-requires : goal.new-headed-requires
new-headed-requires c = fits_31 _ (sym c.in_ok-header_test.ensures)

pub returns-in_err-index_test : goal.returns-in_err-index_test
unfolding step_test
returns-in_err-index_test c =
    let inside = rw c.boundary-at.ensures at c.if-file-at.false in
    let refused = rw (c.boundary-at.ensures, c.new-headed.ensures) at c.in_err-index_test.ensures in
    search (refusal, c.in_ok-header_test.ensures, inside, refused)

pub read_or_none-requires-clause-place_in_bounds : goal.read_or_none-requires-clause-place_in_bounds
read_or_none-requires-clause-place_in_bounds c =
    let inside = rw (← c.new-headed.ensures) at c.if-file-at.false in
    rw c.past_index.ensures (past_fits _ _ _ inside (sym c.in_ok-index_test.ensures))

pub returns : goal.returns
unfolding step_test
returns c =
    let inside = rw c.boundary-at.ensures at c.if-file-at.false in
    let passed = rw (c.boundary-at.ensures, c.new-headed.ensures) at c.in_ok-index_test.ensures in
    let rest = rw (c.past_index.ensures, c.boundary-at.ensures, c.new-headed.ensures) at c.read_or_none.ensures in
    search (onward, c.in_ok-header_test.ensures, inside, passed, rest)
