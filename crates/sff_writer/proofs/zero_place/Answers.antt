-- `map_err` keeps what is accepted, and gives a refusal the place 0.
use Rattle.std.proofs.Common.{rules}
use Rattle.sff_writer.proofs.Reasons.{zero_placed}
use Rattle.sff_writer.proofs.zero_place.Goals as goal

pub returns : goal.returns
returns c = zero_placed c.args.tested c.map_err.result _ c.map_err.ensures.cases (λ e r h. search rules)
