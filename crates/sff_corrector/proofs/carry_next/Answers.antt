-- 20 is the one refusal before the rest, since the file before it is accepted.
use Rattle.sff_corrector.proofs.Turns.{stopped_back, stop_20}
use Rattle.sff_corrector.proofs.carry_next.Goals as goal

pub returns-in_err-record_test : goal.returns-in_err-record_test
returns-in_err-record_test c =
    let t = stop_20 _ _ _ c.requires.inside c.in_err-record_test.ensures in
    let r = stopped_back _ _ _ _ _ c.from_residual.ensures t in
    record { result_value = r.0; buffer_after = r.1.0; accepted_after = r.1.1 }
