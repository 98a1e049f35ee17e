-- The two parts hold n bytes each, and the library's equality is `same`.
use Prim.Native.Nat.{◌+◌, ◌-◌}
use mathlib.Core.Path.{◌≡◌, sym, ◌∙◌}
use native.Mathlib.Omega.{arith}
use Rattle.octets.proofs.Same.{same_pointwise}
use Rattle.octets.proofs.inner.same_part.Goals as goal

pub returns : goal.returns
returns c =
    let a = c.args in
    let m : a.at + a.n - a.at ≡ a.n = omega arith in
    let n : a.from + a.n - a.from ≡ a.n = omega arith in
    rw (m, n) at c.eq.ensures ∙ sym (same_pointwise _ _)
