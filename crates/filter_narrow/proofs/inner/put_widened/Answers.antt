use Rattle.std.proofs.Common.{◌-◌, length, drop, arith, take_all, length-drop}
use Rattle.octets.proofs.AllBytes.{bytes_of_lem}
use Rattle.filter_narrow.proofs.Walk.{widening_start, widening_done, long_inside, long_fits, long_more, short_fits, short_more}
use Rattle.filter_narrow.proofs.inner.put_widened.Goals as goal
use Rattle.filter_narrow.proofs.inner.put_widened.Goals.{then-byte, else-byte}

pub loop-byte-init : goal.loop-byte-init
loop-byte-init g c =
    let bytes = bytes_of_lem c.args.source.now (λ i. (c.type_inv.source i).fits) in
    widening_start g.U.Unit.WIDTH c.args.source.now c.args.out.now bytes c.requires.0 c.requires.1

pub get-requires : goal.get-requires
get-requires g c =
    let s = c.in-Some in
    let k = long_inside c.loop-byte.invariant s.byte.now s.tail.now s.ensures.cases.0 c.if-byte.true in omega (arith, k)

pub slice_bounds-unit-count : goal.slice_bounds-unit-count
slice_bounds-unit-count g c =
    let s = c.in-Some in
    let k = long_inside c.loop-byte.invariant s.byte.now s.tail.now s.ensures.cases.0 c.if-byte.true in omega (arith, k, c.WIDTH.ensures)

pub slice_bounds-unit-start : goal.slice_bounds-unit-start
slice_bounds-unit-start g c =
    let s = c.in-Some in
    let k = long_inside c.loop-byte.invariant s.byte.now s.tail.now s.ensures.cases.0 c.if-byte.true in omega (arith, k, c.WIDTH.ensures)

pub put-requires : goal.put-requires
put-requires g c =
    let s = c.in-Some in
    elim c.if-byte.branch [
      | then-byte w ↦ long_fits c.loop-byte.invariant s.byte.now s.tail.now s.ensures.cases.0 w.if-byte.true
      | else-byte w ↦ short_fits c.loop-byte.invariant s.byte.now s.tail.now s.ensures.cases.0 w.if-byte.false
    ]

pub loop-byte-preserved : goal.loop-byte-preserved
loop-byte-preserved g c =
    let s = c.in-Some in
    let u = c.WIDTH-to.ensures in
    elim c.if-byte.branch [
      | then-byte w ↦
          let e = w.unit-is in
          let put = rw e at c.put.ensures in
          let all = take_all (length s.tail.now - g.U.Unit.WIDTH) (drop g.U.Unit.WIDTH s.tail.now) (omega (arith, length-drop g.U.Unit.WIDTH s.tail.now)) in
          rw (u, e, w.WIDTH.ensures, all) (long_more c.loop-byte.invariant s.byte.now s.tail.now s.ensures.cases.0 w.if-byte.true w.get.ensures put)
      | else-byte w ↦
          let e = w.unit-is in
          let put = rw e at c.put.ensures in
          rw (u, e) (short_more c.loop-byte.invariant s.byte.now s.tail.now s.ensures.cases.0 w.if-byte.false w.extend.ensures put)
    ]

pub returns : goal.returns
returns g c = widening_done c.loop-byte.invariant c.in_default.ensures.cases
