-- 14, 20 and the file's refusal end the chain of tests; behind them the file is accepted, and the walk starts at its
-- header.
use native.Mathlib.Omega.{arith}
use Rattle.answers.specs.declared.Cause.TheVariants.{FileLength}
use Rattle.sff_corrector.proofs.Turns.{stopped, stopped_back, stop_14, stop_20, stop-file}
use Rattle.sff_corrector.proofs.carry_first.Goals as goal

pub returns-then-len-buffer : goal.returns-then-len-buffer
returns-then-len-buffer c =
    let r = stopped _ _ _ (FileLength, 0) (stop_14 _ _ _ c.if-len-buffer.true) in
    record { result_value = r.0; buffer_after = r.1.0; accepted_after = r.1.1 }

pub returns-in_err-record_test : goal.returns-in_err-record_test
returns-in_err-record_test c =
    let t = stop_20 _ _ _ (omega arith) c.in_err-record_test.ensures in
    let r = stopped_back _ _ _ _ _ c.from_residual.ensures t in
    record { result_value = r.0; buffer_after = r.1.0; accepted_after = r.1.1 }

pub returns-in_err-file_test : goal.returns-in_err-file_test
returns-in_err-file_test c =
    let t = stop-file _ _ _ (omega arith) c.in_ok-record_test.ensures c.in_err-file_test.ensures in
    let r = stopped_back _ _ _ _ _ c.from_residual-in_err-file_test.ensures t in
    record { result_value = r.0; buffer_after = r.1.0; accepted_after = r.1.1 }
