-- The tests leave out the bytes that do not all lie in the slice, of which the definition makes the empty list; of the
-- others the part is the definition's.
use Prim.Native.Nat.{◌+◌, ◌-◌}
use mathlib.Core.Path.{◌≡◌, sym}
use native.Mathlib.Omega.{arith}
use Rattle.octets.proofs.Lists.{whole_in, whole_out}
use Rattle.octets.proofs.whole_part.Goals as goal

pub returns-then-at-bytes : goal.returns-then-at-bytes
returns-then-at-bytes c = sym (whole_out _ _ _ (omega arith))

pub returns-then-n-bytes : goal.returns-then-n-bytes
returns-then-n-bytes c = sym (whole_out _ _ _ (omega arith))

pub returns : goal.returns
returns c =
    let a = c.args in
    let e : a.at + a.n - a.at ≡ a.n = omega arith in
    rw e (sym (whole_in a.at a.n a.bytes.now (omega arith)))
