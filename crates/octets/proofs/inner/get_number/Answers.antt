use Prim.Native.Nat.{◌+◌, ◌-◌}
use mathlib.Core.Path.{◌≡◌, refl}
use native.Mathlib.Omega.{arith}
use lib.Seq.{take_all}
use Rattle.octets.specs.Parts.{part}
use Rattle.octets.specs.Numbers.{number, big_endian_from}
use Rattle.octets.proofs.AllBytes.{bytes_of_lem}
use Rattle.octets.proofs.Digits.{read_more}
use Rattle.octets.proofs.Stands.{number_small}
use Rattle.octets.proofs.inner.get_number.Goals as goal

pub loop-x-init : goal.loop-x-init
unfolding big_endian_from
loop-x-init g c = refl

pub overflow_add-number : goal.overflow_add-number
overflow_add-number g c =
    let a = c.args in
    let b = bytes_of_lem a.bytes.now (λ i. omega (arith, c.type_inv.bytes i)) in
    let more = read_more a.at g.row.N _ _ _ a.bytes.now b c.requires.0 c.requires.1 (omega arith) c.loop-x-test.true c.loop-x.invariant c.from.ensures in
    omega (arith, more.0)

pub overflow_mul-number : goal.overflow_mul-number
overflow_mul-number g c =
    let a = c.args in
    let b = bytes_of_lem a.bytes.now (λ i. omega (arith, c.type_inv.bytes i)) in
    let more = read_more a.at g.row.N _ _ _ a.bytes.now b c.requires.0 c.requires.1 (omega arith) c.loop-x-test.true c.loop-x.invariant refl in
    omega (arith, more.0)

pub loop-x-preserved : goal.loop-x-preserved
loop-x-preserved g c =
    let a = c.args in
    let b = bytes_of_lem a.bytes.now (λ i. omega (arith, c.type_inv.bytes i)) in
    (read_more a.at g.row.N _ _ _ a.bytes.now b c.requires.0 c.requires.1 (omega arith) c.loop-x-test.true c.loop-x.invariant c.from.ensures).1

pub returns : goal.returns
unfolding number
returns g c =
    let a = c.args in
    let n : a.at + g.row.N - a.at ≡ g.row.N = omega arith in
    let b = bytes_of_lem a.bytes.now (λ i. omega (arith, c.type_inv.bytes i)) in
    let all = take_all c.loop-x.x-index (part a.at g.row.N a.bytes.now) (rw n at c.loop-x-test.false) in
    let e : c.loop-x.number ≡ number g.row.N a.at a.bytes.now = rw all at c.loop-x.invariant in
    (e, rw e (number_small g.row.N a.at a.bytes.now b c.requires.1))
