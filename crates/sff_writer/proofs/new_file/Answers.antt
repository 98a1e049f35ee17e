-- A new file that is refused leaves the buffer; one that is not fits into it, and its bytes and its length are what the
-- two calls gave.
use mathlib.Core.Path.{◌∙◌}
use Rattle.std.proofs.Common.{rules}
use Rattle.sff_format.proofs.Handed.{went_on, came_back, outcome_returned}
use Rattle.sff_writer.proofs.Reasons.{new_refused, new-small, new_room, new-outcome, new-buffer}
use Rattle.sff_writer.proofs.new_file.Goals as goal

pub returns-in_err-map_err-clause-value : goal.returns-in_err-map_err-clause-value
returns-in_err-map_err-clause-value c =
    let t = came_back c.new_test.result c.map_err.result _ (λ e. record { refusal = e; length = 0 }) c.map_err.ensures.cases (λ e x h. search rules) c.in_err-map_err.was in
    outcome_returned _ _ _ _ t.2 c.from_residual.ensures ∙ (new_refused _ _ _ (rw t.1 at c.new_test.ensures)).0

pub returns-in_err-map_err-clause-buffer_after : goal.returns-in_err-map_err-clause-buffer_after
returns-in_err-map_err-clause-buffer_after c =
    let t = came_back c.new_test.result c.map_err.result _ (λ e. record { refusal = e; length = 0 }) c.map_err.ensures.cases (λ e x h. search rules) c.in_err-map_err.was in
    (new_refused _ _ _ (rw t.1 at c.new_test.ensures)).1

pub put-requires-clause-key_len_bound : goal.put-requires-clause-key_len_bound
put-requires-clause-key_len_bound c =
    new-small _ _ _ (rw (went_on c.new_test.result c.map_err.result _ c.map_err.ensures.cases c.in_ok-map_err.was) at c.new_test.ensures)

pub put-requires-clause-in_bounds : goal.put-requires-clause-in_bounds
put-requires-clause-in_bounds c =
    new_room _ _ _ (rw (went_on c.new_test.result c.map_err.result _ c.map_err.ensures.cases c.in_ok-map_err.was) at c.new_test.ensures)

pub size-requires : goal.size-requires
size-requires c = new-small _ _ _ (rw (went_on c.new_test.result c.map_err.result _ c.map_err.ensures.cases c.in_ok-map_err.was) at c.new_test.ensures)

pub returns-clause-value : goal.returns-clause-value
returns-clause-value c =
    let e = rw (went_on c.new_test.result c.map_err.result _ c.map_err.ensures.cases c.in_ok-map_err.was) at c.new_test.ensures in
    new-outcome _ _ _ e c.size.ensures

pub returns-clause-buffer_after : goal.returns-clause-buffer_after
returns-clause-buffer_after c =
    let e = rw (went_on c.new_test.result c.map_err.result _ c.map_err.ensures.cases c.in_ok-map_err.was) at c.new_test.ensures in
    new-buffer _ _ _ e c.put.ensures
