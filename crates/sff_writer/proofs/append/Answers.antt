-- An append that is not refused has room for the count and the read; the bytes and the length are what the calls gave.
use mathlib.Core.Path.{◌∙◌}
use native.Mathlib.Omega.{arith}
use Rattle.octets.proofs.AllBytes.{bytes_of_lem}
use Rattle.std.proofs.Common.{rules}
use Rattle.sff_format.proofs.Handed.{went_on, came_back, outcome_returned}
use Rattle.sff_writer.proofs.Reasons.{append_refused, append-fits, append-outcome, append-buffer}
use Rattle.sff_writer.proofs.append.Goals as goal

pub returns-in_err-map_err : goal.returns-in_err-map_err
returns-in_err-map_err c =
    let n = c.args.file_length in
    let t = came_back c.append_test.result c.map_err.result _ (λ e. record { refusal = e; length = n }) c.map_err.ensures.cases (λ e x h. search rules) c.in_err-map_err.was in
    let left = append_refused _ _ _ (rw t.1 at c.append_test.ensures) in
    (outcome_returned _ _ _ _ t.2 c.from_residual.ensures ∙ left.0, left.1)

pub get32-reads-requires : goal.get32-reads-requires
get32-reads-requires c =
    let e = rw (went_on c.append_test.result c.map_err.result _ c.map_err.ensures.cases c.in_ok-map_err.was) at c.append_test.ensures in
    let f = append-fits _ _ _ e (bytes_of_lem _ (search rules)) in
    omega arith

pub put-requires : goal.put-requires
put-requires c =
    let e = rw (went_on c.append_test.result c.map_err.result _ c.map_err.ensures.cases c.in_ok-map_err.was) at c.append_test.ensures in
    let f = append-fits _ _ _ e (bytes_of_lem _ (search rules)) in
    record { in_bounds = f.whole; name_len_bound = f.name; increments_len = f.increments; qualities_len = f.qualities }

pub put32-requires : goal.put32-requires
put32-requires c =
    let e = rw (went_on c.append_test.result c.map_err.result _ c.map_err.ensures.cases c.in_ok-map_err.was) at c.append_test.ensures in
    let f = append-fits _ _ _ e (bytes_of_lem _ (search rules)) in
    omega arith

pub size-requires : goal.size-requires
size-requires c =
    let e = rw (went_on c.append_test.result c.map_err.result _ c.map_err.ensures.cases c.in_ok-map_err.was) at c.append_test.ensures in
    let f = append-fits _ _ _ e (bytes_of_lem _ (search rules)) in
    (omega arith, f.values, f.bases)

pub overflow_add-result : goal.overflow_add-result
overflow_add-result c =
    let e = rw (went_on c.append_test.result c.map_err.result _ c.map_err.ensures.cases c.in_ok-map_err.was) at c.append_test.ensures in
    let f = append-fits _ _ _ e (bytes_of_lem _ (search rules)) in
    omega arith

pub returns : goal.returns
returns c =
    let e = rw (went_on c.append_test.result c.map_err.result _ c.map_err.ensures.cases c.in_ok-map_err.was) at c.append_test.ensures in (
      append-outcome _ _ _ e c.size.ensures,
      append-buffer _ _ _ e c.get32-reads.ensures.0 c.put.ensures c.put32.ensures,
    )
