-- A step whose tests refuse gives the refusal and this reader back; one whose tests accept is what `read_found` gives.
use mathlib.Core.Path.{sym, ◌∙◌}
use Rattle.std.proofs.Common.{rules}
use Rattle.sff_format.proofs.Handed.{went_on, came_back}
use Rattle.sff_reader.proofs.Reading.{handed_over, stopped_is}
use Rattle.sff_reader.proofs.Reader.step.Goals as goal

pub returns-in_err-map_err : goal.returns-in_err-map_err
returns-in_err-map_err c =
    let reader = c.args.self in
    let t = came_back c.step_test.result c.map_err.result _ (λ e. record { refusal = e; unmoved = reader }) c.map_err.ensures.cases (λ e x h. search rules) c.in_err-map_err.was in
    handed_over _ _ _ _ t.2 c.from_residual.ensures ∙ stopped_is _ _ (rw t.1 at c.step_test.ensures)

pub read_found-requires : goal.read_found-requires
read_found-requires c =
    sym (rw (went_on c.step_test.result c.map_err.result _ c.map_err.ensures.cases c.in_ok-map_err.was) at c.step_test.ensures)
