-- What is printed of a list run, as the code puts it, and that 256 bytes are room for any of it. Assumes nothing.
use Prim.Native.Nat.{ℕ, ◌≤◌}
use mathlib.Core.Path.{◌≡◌}
use mathlib.Core.List.{◌++◌, append-nil}
use native.Mathlib.Omega.{arith}
use lib.ListN.{length, length-append}
use Rattle.answers.specs.Answer.{Answer, Accepted, Refused, number_of, place_of}
use Rattle.correction_format.specs.ListRun.{ListOutcome}
use Rattle.lines.specs.Lines.{refusal_line}
use Rattle.lines.proofs.Lengths.{refusal_line_short, answer_line_short}
use Rattle.correct_text.specs.Report.{answered, refusal, reported}

refusal_short : (a : Answer) → length (refusal a) ≤ 64
unfolding refusal
refusal_short Accepted = omega arith
refusal_short (Refused n p) = refusal_line_short n p

-- 256 bytes are room for what is printed of any list run
pub report_short : (o : ListOutcome) → length (reported o) ≤ 256
unfolding reported
report_short o =
    let a = answer_line_short o.count (number_of o.answer) (place_of o.answer) o.length in
    let r = refusal_short o.answer in
    rw length-append (omega (arith, a, r))

module _ (o : ListOutcome) where
  pub reported-accepted : o.answer ≡ Accepted → reported o ≡ answered o
  unfolding reported refusal
  reported-accepted e = rw (e, append-nil)

  pub reported_refused : {n p : ℕ} → o.answer ≡ Refused n p → reported o ≡ answered o ++ refusal_line n p
  unfolding reported refusal
  reported_refused e = rw e

-- what measures a report needs
pub ruleset reports = (reported-accepted, reported_refused, length-append)
