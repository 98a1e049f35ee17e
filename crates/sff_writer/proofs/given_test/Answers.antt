-- The tests stand in the definition's order: at each `return` those before it have passed and this one decides. Good
-- counts bound the bases, as the tests of the clips and of the bases ask.
use mathlib.Core.Path.{sym}
use native.Mathlib.Omega.{arith}
use Rattle.answers.proofs.Answers.{when-ok}
use Rattle.answers.proofs.Chains.{refusal, onward}
use Rattle.sff_format.specs.Writing.{given_test}
use Rattle.sff_format.proofs.Given.{counts_ok}
use Rattle.sff_writer.proofs.Reasons.{zero_place_told}
use Rattle.sff_writer.proofs.given_test.Goals as goal

pub returns-in_err-counts_test : goal.returns-in_err-counts_test
unfolding given_test
returns-in_err-counts_test c = search (refusal, c.in_err-counts_test.ensures)

pub returns-then-read-gt-LONGEST_NAME : goal.returns-then-read-gt-LONGEST_NAME
unfolding given_test
returns-then-read-gt-LONGEST_NAME c = search (refusal, c.in_ok-counts_test.ensures)

pub returns-then-fails : goal.returns-then-fails
unfolding given_test
returns-then-fails c = search (refusal, c.in_ok-counts_test.ensures)

pub clips_test-requires : goal.clips_test-requires
clips_test-requires c =
    omega (arith, counts_ok _ _ _ _ _ (when-ok _ _ _ (sym c.in_ok-counts_test.ensures)))

pub returns-in_err-clips_test : goal.returns-in_err-clips_test
unfolding given_test
returns-in_err-clips_test c = search (refusal, c.in_ok-counts_test.ensures, c.in_err-clips_test.ensures)

pub bases_test-requires : goal.bases_test-requires
bases_test-requires c =
    let good = counts_ok _ _ _ _ _ (when-ok _ _ _ (sym c.in_ok-counts_test.ensures)) in
    (c.requires, good.1, good.3)

pub returns : goal.returns
unfolding given_test
returns c = search (onward, zero_place_told, c.in_ok-counts_test.ensures, c.in_ok-clips_test.ensures) depth 9
