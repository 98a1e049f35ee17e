-- `resize` has put the tail and the zeros behind the place, `copy` fills the place: the two runs, one behind the other,
-- are what the definition puts at `at`.
use Prim.Native.Nat.{ℕ, ◌+◌, ◌-◌}
use mathlib.Core.Path.{◌≡◌, ◌∙◌}
use mathlib.Core.List.{List, ◌++◌}
use native.Mathlib.Omega.{arith}
use lib.ListN.{length, replicate}
use Rattle.octets.specs.Parts.{part, spliced}
use Rattle.octets.proofs.Lists.{length_part, put_before}
use Rattle.splice.proofs.inner.splice.Goals as goal

pub returns : goal.returns
unfolding spliced
returns c =
    let a = c.args in
    let tail : List ℕ = part (a.at + a.n) (a.end - (a.at + a.n)) a.buffer.now in
    let put : List ℕ = part a.from a.size a.source.now in
    let len : length put ≡ a.size = length_part a.from a.size a.source.now (omega arith) in
    rw len
    (rw c.resize.ensures at c.copy.ensures
    ∙ put_before a.at a.size put (tail ++ replicate (a.n - a.size) 0) a.buffer.now len (omega arith))
