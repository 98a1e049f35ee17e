-- Where the tests refuse, nothing is written; where they accept, the samples are whole and have room, and level 2's
-- sums of them are put in units of the precision's width, as many bytes as the source has.
use Rattle.std.proofs.Common.{ℕ, refl}
use Rattle.filter_format.specs.Delta.{undelta_bytes}
use Rattle.filter_format.specs.Samples.{undo_samples}
use Rattle.filter_format.proofs.Levels.{length-undelta}
use Rattle.filter_format.proofs.Results.{refused_out}
use Rattle.filter_format.proofs.Calls.{handed_back}
use Rattle.scf_samples.proofs.Either.{is_two, judged, written_answer, written_out}
use Rattle.scf_samples.proofs.undo_samples.Goals as goal

pub returns-in_err-samples_test-clause-value : goal.returns-in_err-samples_test-clause-value
unfolding undo_samples
returns-in_err-samples_test-clause-value c = handed_back _ _ c.from_residual.ensures c.in_err-samples_test.ensures _

pub returns-in_err-samples_test-clause-out_after : goal.returns-in_err-samples_test-clause-out_after
unfolding undo_samples
returns-in_err-samples_test-clause-out_after c = refused_out c.in_err-samples_test.ensures _ refl _

pub put_undelta-requires : goal.put_undelta-requires
put_undelta-requires c = judged _ _ _ c.in_ok-samples_test.ensures c.if-precision-eq1.true

pub put_undelta-requires-else-precision-eq1 : goal.put_undelta-requires-else-precision-eq1
put_undelta-requires-else-precision-eq1 c =
    let k = c.in_ok-samples_test.ensures in
    judged _ _ _ k (is_two _ _ _ k c.if-precision-eq1.false)

pub returns-then-precision-eq1-clause-value : goal.returns-then-precision-eq1-clause-value
unfolding undo_samples
returns-then-precision-eq1-clause-value c =
    written_answer _ _ _ c.in_ok-samples_test.ensures c.if-precision-eq1.true (λ (w : ℕ). undelta_bytes w 2)
    (λ positive whole. length-undelta _ positive _ whole 2)

pub returns-then-precision-eq1-clause-out_after : goal.returns-then-precision-eq1-clause-out_after
unfolding undo_samples
returns-then-precision-eq1-clause-out_after c =
    written_out _ _ _ c.in_ok-samples_test.ensures c.if-precision-eq1.true (λ (w : ℕ). undelta_bytes w 2) _ c.put_undelta.ensures

pub returns-else-precision-eq1-clause-value : goal.returns-else-precision-eq1-clause-value
unfolding undo_samples
returns-else-precision-eq1-clause-value c =
    let k = c.in_ok-samples_test.ensures in
    written_answer _ _ _ k (is_two _ _ _ k c.if-precision-eq1.false) (λ (w : ℕ). undelta_bytes w 2)
    (λ positive whole. length-undelta _ positive _ whole 2)

pub returns-else-precision-eq1-clause-out_after : goal.returns-else-precision-eq1-clause-out_after
unfolding undo_samples
returns-else-precision-eq1-clause-out_after c =
    let k = c.in_ok-samples_test.ensures in
    written_out _ _ _ k (is_two _ _ _ k c.if-precision-eq1.false) (λ (w : ℕ). undelta_bytes w 2) _ c.put_undelta-else-precision-eq1.ensures
