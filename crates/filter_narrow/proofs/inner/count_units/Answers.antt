use Rattle.std.proofs.Common.{◌<◌, ◌-◌, length, drop, ◌∙◌, arith, take_all, length-drop}
use Rattle.filter_narrow.proofs.Walk.{short_turn, long_turn, counting_more, counting_lacking, counting_done}
use Rattle.filter_narrow.proofs.inner.count_units.Goals as goal
use Rattle.filter_narrow.proofs.inner.count_units.Goals.{then-byte+in_ok-rest, else-byte}

pub returns-in_err-rest : goal.returns-in_err-rest
returns-in_err-rest c =
    let s = c.in-Some in
    let k = c.in_err-rest.ensures.lookup.0 in
    let short : length s.tail.now < c.args.width = omega arith in
    c.from_residual.ensures ∙ counting_lacking c.loop-byte.invariant s.byte.now s.tail.now s.ensures.cases.0 c.if-byte.true short

pub loop-byte-preserved : goal.loop-byte-preserved
loop-byte-preserved c =
    let s = c.in-Some in
    elim c.if-byte.branch [
      | then-byte+in_ok-rest w ↦
          let k = w.in_ok-rest.ensures.lookup.0 in
          let all = take_all (length s.tail.now - c.args.width) (drop c.args.width s.tail.now) (omega (arith, length-drop c.args.width s.tail.now)) in
          rw (w.rest-is, k.2, all)
          (counting_more c.loop-byte.invariant (long_turn c.args.width s.byte.now s.tail.now _ s.ensures.cases.0 w.if-byte.true k.0))
      | else-byte w ↦ rw w.rest-is (counting_more c.loop-byte.invariant (short_turn c.args.width s.byte.now s.tail.now _ s.ensures.cases.0 w.if-byte.false))
    ]

pub returns : goal.returns
returns c = counting_done c.loop-byte.invariant c.in_default.ensures.cases
