-- The reasons are asked in their order on the file as it stands, and the record is carried out where none holds: then
-- the file is as it would be written afresh, and its read starts where it did.
use mathlib.Core.Path.{◌≡◌, sym, ap}
use Rattle.octets.specs.Numbers.{Bytes}
use Rattle.octets.proofs.AllBytes.{bytes_of_lem}
use Rattle.std.proofs.Common.{rules}
use Rattle.answers.specs.declared.Cause.TheVariants.{Position}
use Rattle.answers.specs.Answer.{Accepted}
use Rattle.correction_format.specs.declared.Fields.{Fields}
use Rattle.correction_format.specs.Correct.{correct_test}
use Rattle.correction_format.proofs.Asked.{asked_of_record}
use Rattle.sff_reasons.proofs.Told.{below-count}
use Rattle.sff_corrector.proofs.Turns.{stopped, stopped_back, stop_21, reasons_are, done, ready}
use Rattle.sff_corrector.proofs.carry_out.Goals as goal

pub returns-then-position_above : goal.returns-then-position_above
returns-then-position_above c =
    let d = c.requires in
    let o = c.new-correction.ensures.fields in
    let above = rw c.new-correction.ensures.bytes at c.position_above.ensures in
    let r = stopped _ _ _ (Position, 0) (stop_21 _ _ _ d.accepted_front d.record_value _ o above c.if-position_above.true) in
    record { result_value = r.0; buffer_after = r.1.0; accepted_after = r.1.1 }

pub find_from-place-requires-clause-position_bound : goal.find_from-place-requires-clause-position_bound
find_from-place-requires-clause-position_bound c =
    let t = c.new-correction.result in
    below-count _ t.bytes.now t.fields 0 (sym (c.if-position_above.ensures 0))

pub reason-requires-clause-position_bound : goal.reason-requires-clause-position_bound
reason-requires-clause-position_bound c =
    let t = c.new-correction.result in
    below-count _ t.bytes.now t.fields 0 (sym (c.if-position_above.ensures 0))

pub returns-in_err-reason : goal.returns-in_err-reason
returns-in_err-reason c =
    let d = c.requires in
    let judged = reasons_are _ _ _ d.accepted_front d.record_value _ c.new-correction.ensures.fields (rw c.new-correction.ensures.bytes at c.in_err-reason.ensures) in
    let r = stopped_back _ _ _ _ _ c.from_residual.ensures judged in
    record { result_value = r.0; buffer_after = r.1.0; accepted_after = r.1.1 }

pub returns : goal.returns
returns c =
    let a = c.args in
    let d = c.requires in
    let r = a.bytes.now in
    let o = c.new-correction.ensures.fields in
    let none : Accepted ≡ correct_test a.buffer.now a.len r =
    reasons_are _ _ _ d.accepted_front d.record_value _ o (rw c.new-correction.ensures.bytes at c.in_ok-reason.ensures) in
    let p = c.apply-length.ensures in
    let n = rw (c.new-correction.ensures.bytes, asked_of_record _ _ o) at p.value in
    let b = rw (c.new-correction.ensures.bytes, asked_of_record _ _ o) at p.buffer_after in
    let t = done a.buffer.now a.len r none n b in
    let y : Bytes a.buffer.now = search (bytes_of_lem, rules) in
    let z : Bytes r = search (bytes_of_lem, rules) in
    let i = ap (λ (x : Fields). x.position) o in
    record {
      result_value = t.0;
      buffer_after = t.1;
      accepted_after = ready a.buffer.now a.len r none y z n b i c.find_from-place.ensures;
    }
