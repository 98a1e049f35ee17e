-- The text is put at the front if it fits, and then zeros behind it.
use Rattle.std.proofs.Common.{ap, length, ◌∙◌}
use Rattle.text.specs.Writing.{Written}
use Rattle.text.proofs.Fitted.{fitted_short}
use Rattle.unfilter_text.proofs.Texts.{cleared, put_length}
use Rattle.unfilter_text.proofs.write_cleared.Goals as goal

pub returns-clause-first_after : goal.returns-clause-first_after
returns-clause-first_after g c =
    let w = c.write_text-written.ensures in
    cleared _ _ (fitted_short (length c.args.first.now) (g.T.Text.text c.args.text.now)) w.out_after
    (c.unwrap_or.ensures ∙ put_length c.write_text-written.result ∙ ap (λ (r : Written). r.length) w.value) c.clear_behind.ensures
