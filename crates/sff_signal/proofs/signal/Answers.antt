-- Refused, three zeros stand for the summary. Accepted, the read is there and has flows, so that its values lie in the
-- file, and their summary is the read's.
use mathlib.Core.Path.{sym, ◌∙◌}
use native.Mathlib.Omega.{arith}
use Rattle.octets.proofs.AllBytes.{bytes_of_lem}
use Rattle.sff_format.proofs.Positions.{position-file, position-below, signal-position}
use Rattle.sff_signal.proofs.Chosen.{signal_refused, signal-values, signal-made}
use Rattle.sff_signal.proofs.signal.Goals as goal

pub returns-in_default : goal.returns-in_default
returns-in_default c = signal_refused _ _ _ _ (sym c.in_default.ensures)

pub view_of-requires-clause-file_value : goal.view_of-requires-clause-file_value
view_of-requires-clause-file_value c =
    position-file _ _ (signal-position _ _ (sym c.in-Ok.ensures))

pub view_of-requires-clause-position_bound : goal.view_of-requires-clause-position_bound
view_of-requires-clause-position_bound c =
    omega (arith, position-below _ _ (signal-position _ _ (sym c.in-Ok.ensures)))

pub values_summary-requires : goal.values_summary-requires
values_summary-requires c =
    let bytes = bytes_of_lem c.args.file.now (λ i. (c.type_inv.file i).fits) in
    signal-values _ _ (sym c.in-Ok.ensures) bytes _ c.view_of.ensures

pub returns : goal.returns
returns c =
    let bytes = bytes_of_lem c.args.file.now (λ i. (c.type_inv.file i).fits) in
    c.values_summary.ensures
    ∙ signal-made _ _ (sym c.in-Ok.ensures) bytes _ c.view_of.ensures
