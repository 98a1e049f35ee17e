-- Of equal sizes the tail stays. For a greater one it moves up and nothing is freed. For a smaller one it moves down,
-- and the zeros behind it reach to the old end: the tail and then the zeros are what is put.
use Prim.Native.Nat.{ℕ, ◌+◌, ◌-◌}
use mathlib.Core.Path.{◌≡◌, sym, ◌∙◌}
use mathlib.Core.List.{List, append-nil}
use native.Mathlib.Omega.{arith}
use lib.ListN.{length, replicate}
use Rattle.octets.specs.Parts.{part}
use Rattle.octets.proofs.Lists.{length_part, put_same, put_next}
use Rattle.splice.proofs.inner.resize.Goals as goal

pub returns-then-n-size : goal.returns-then-n-size
returns-then-n-size c =
    let a = c.args in
    let e : a.size ≡ a.n = omega arith in
    let z : a.n - a.n ≡ 0 = omega arith in
    rw (e, z, append-nil) (sym (put_same (a.at + a.n) (a.end - (a.at + a.n)) a.buffer.now (omega arith)))

pub returns : goal.returns
returns c =
    let a = c.args in
    let count : ℕ = a.end - (a.at + a.n) in
    let tail : List ℕ = part (a.at + a.n) count a.buffer.now in
    let z : a.end - (a.at + a.size + count) ≡ a.n - a.size = omega arith in
    let len : length tail ≡ count = length_part (a.at + a.n) count a.buffer.now (omega arith) in
    rw (← z)
    (rw c.move_down.ensures at c.fill.ensures
    ∙ put_next (a.at + a.size) count tail (replicate (a.end - (a.at + a.size + count)) 0) a.buffer.now len (omega arith))
