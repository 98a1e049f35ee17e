-- The three parts handed to `bases_test` are the characters, increments and bases of the definition. Its answer stands
-- where it accepts; a refusal's place counts from the first increment, so that one's place is added, as `shifted` does.
use mathlib.Core.Path.{refl}
use Rattle.answers.specs.Answer.{shifted}
use Rattle.sff_read.proofs.ReadLaws.{matched_shifted, matched_in}
use Rattle.std.proofs.Common.{arith}
use Rattle.sff_read.proofs.inner.bases_test_at.Goals as goal

-- a refusal's place lies in the file
pub overflow_add-result : goal.overflow_add-result
overflow_add-result c =
    let a = c.args in
    let h = matched_in a.file.now a.flows a.at a.bases c.in-Err.ensures refl c.requires.0 in
    omega (arith, h)

pub returns-in-Ok : goal.returns-in-Ok
unfolding shifted
returns-in-Ok c = matched_shifted c.args.file.now c.args.flows c.args.at c.args.bases c.in-Ok.ensures

pub returns-in-Err : goal.returns-in-Err
unfolding shifted
returns-in-Err c = matched_shifted c.args.file.now c.args.flows c.args.at c.args.bases c.in-Err.ensures
