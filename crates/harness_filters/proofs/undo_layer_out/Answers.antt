-- The number of the answer and the count are those of what the call gave, and its buffers are handed on.
use mathlib.Core.Path.{◌∙◌}
use Rattle.harness_filters.proofs.Told.{told}
use Rattle.harness_filters.proofs.undo_layer_out.Goals as goal

pub returns : goal.returns
returns c =
    let k = c.undo_layer-filtered in
    let t = told k.result k.ensures.value in
    (c.number_of.ensures ∙ t.0, c.unwrap_or.ensures ∙ t.1, k.ensures.first_after, k.ensures.second_after)
