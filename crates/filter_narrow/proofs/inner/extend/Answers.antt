-- The byte with its sign at 32 bits is the unit's definition at 4 bytes, and its low bytes are that at each width.
use Rattle.std.proofs.Common.{◌≡◌, ◌∙◌, arith}
use Rattle.std.proofs.lemmas.Int.{ints}
use Rattle.std.proofs.lemmas.Bool.Decides.{nat_tests}
use Rattle.filter_format.specs.Narrow.{extended}
use Rattle.filter_format.proofs.Narrowing.{extended_seen}
use Rattle.filter_narrow.proofs.inner.extend.Goals as goal

pub returns : goal.returns
unfolding extended
returns g c =
    let is : c.cast_unsigned.result ≡ extended 4 c.args.byte = grind (arith, ints, nat_tests) in
    (rw is at c.low.ensures) ∙ extended_seen g.U.Unit.WIDTH c.args.byte g.met.U.Unit.is_width c.ranges.byte.fits
