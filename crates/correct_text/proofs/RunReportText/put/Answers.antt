-- A refused run's text is the answer's line and behind it the refusal's.
use Rattle.std.proofs.Common.{ap}
use Rattle.answers.specs.Answer.{answer_of}
use Rattle.correction_format.specs.ListRun.{list_outcome_of}
use Rattle.text.proofs.Writing.{room_then, puts_then}
use Rattle.correct_text.proofs.Reports.{reported_refused}
use Rattle.correct_text.proofs.RunReportText.put.Goals as goal

-- first the promise: a wrong line may fit as well
pub returns-in-Err : goal.returns-in-Err
returns-in-Err c =
    let is = reported_refused (list_outcome_of c.args.self.now.0) (ap answer_of c.in-Err.is) in
    let answer = rw c.answer_line.ensures at c.put.ensures in
    let refusal = rw c.from.ensures at c.put-in-Err.ensures in
    rw is (puts_then _ _ (rw is at c.requires) answer refusal)

pub put-requires-in-Err : goal.put-requires-in-Err
put-requires-in-Err c =
    let is = reported_refused (list_outcome_of c.args.self.now.0) (ap answer_of c.in-Err.is) in
    let answer = rw c.answer_line.ensures at c.put.ensures in
    rw c.from.ensures (room_then _ _ (rw is at c.requires) answer)
