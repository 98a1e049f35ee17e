-- Narrowed data are measured, in units of the width that the arm is for.
use mathlib.Core.Path.{◌≡◌, ◌∙◌, ap}
use native.Mathlib.Omega.{arith}
use Rattle.filter_format.specs.declared.Filter.TheVariants.{Narrow}
use Rattle.filter_encode.proofs.Cases.{narrow-width, narrow_whole}
use Rattle.filter_encode.proofs.inner.data_length.Goals as goal

pub narrowed_length-requires : goal.narrowed_length-requires
narrowed_length-requires c =
    let w : c.in-Narrow-eq2.field-0 ≡ 2 = omega arith in
    narrow_whole c.args.source.now (c.in-Narrow-eq2.is ∙ ap Narrow w) c.requires

pub narrowed_length-requires-in-Narrow : goal.narrowed_length-requires-in-Narrow
narrowed_length-requires-in-Narrow c =
    let k = narrow-width c.in-Narrow.is c.requires.0 in
    let w : c.in-Narrow.field-0 ≡ 4 = omega (arith, c.in-Narrow.field-0-test) in
    narrow_whole c.args.source.now (c.in-Narrow.is ∙ ap Narrow w) c.requires
