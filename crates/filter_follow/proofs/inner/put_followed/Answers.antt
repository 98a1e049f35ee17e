use Rattle.std.proofs.Common.{ℕ, ◌+◌, get_or, set, ap, arith}
use Rattle.filter_format.specs.Follow.{predicted}
use Rattle.filter_follow.proofs.Turns.{made-followed, none, start, more, done, first_byte, byte_after}
use Rattle.filter_follow.proofs.inner.put_followed.Goals as goal

pub returns-in_default : goal.returns-in_default
returns-in_default c =
    none c.args.at c.args.out.now (made-followed c.args.follow.now c.args.source.now) (omega arith) c.in_default.ensures.cases

pub loop-j-init : goal.loop-j-init
loop-j-init c =
    let s = c.in-Some.ensures.cases in
    let e = first_byte s.0 in
    rw e ((c.type_inv.source 0).fits, start c.args.at c.args.out.now (made-followed c.args.follow.now c.args.source.now) (omega arith) (omega (arith, s.1)))

pub loop-j-preserved : goal.loop-j-preserved
loop-j-preserved c =
    let s = c.in-Some.ensures.cases in
    let x = byte_after s.0 c.loop-j.j in
    let made = ap (λ (p : ℕ). predicted c.args.follow.now p (get_or c.in-Some.rest.now c.loop-j.j 0)) c.from.ensures in
    (rw x (c.type_inv.source (c.loop-j.j + 1)).fits, more c.loop-j.invariant.1 (omega (arith, s.1)) x made (λ e. x) (omega arith))

pub returns : goal.returns
returns c =
    let s = c.in-Some.ensures.cases in
    done c.loop-j.invariant.1 c.args.out.now (ap (set c.args.out.now c.args.at) (first_byte s.0)) (omega (arith, s.1)) (omega (arith, s.1))
