-- The byte 129 is -127, from which on a unit fits one byte.
use Rattle.std.proofs.Common.{◌≡◌, ◌^◌, ◌<◌, ◌≤◌, ◌∙◌, lit<, arith}
use Rattle.std.proofs.Math.Nat.{pow-le-pow_right}
use borrow.Author.Tests.{lt-leb}
use Rattle.filter_format.specs.Narrow.{extended, least_narrowed}
use Rattle.filter_narrow.proofs.inner.fits_one.Goals as goal

pub returns-else-n-le127 : goal.returns-else-n-le127
unfolding extended
returns-else-n-le127 g c =
    let u = g.U.Unit.value c.args.unit in
    let wide : 256 ^ 1 ≤ 256 ^ g.U.Unit.WIDTH = pow-le-pow_right (lit< tt) g.met.U.Unit.is_width.0 in
    let least : c.number.result ≡ least_narrowed g.U.Unit.WIDTH = c.number.ensures.0 ∙ c.extend.ensures ∙ omega (arith, wide) in
    let n = c.number-n.ensures.0 in
    let more : 127 < u = omega arith in
    rw (least, n, lt-leb u 127 more)
