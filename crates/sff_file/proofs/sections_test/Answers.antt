-- Each step by the invariant: an index or a read that is refused, a read that is accepted, the end.
use Prim.Native.Nat.{suc, ◌+◌, ◌-◌}
use mathlib.Core.Path.{◌≡◌}
use Rattle.std.proofs.Common.{arith}
use Rattle.answers.proofs.Chains.{returned}
use Rattle.sff_file.proofs.Sections.{boundaries, sections_first, past_inside, sections_characters, read_begins, stop_read, sections_read}
use Rattle.sff_file.proofs.sections_test.Goals as goal

pub returns-in_err-index_test : goal.returns-in_err-index_test
returns-in_err-index_test c = search (boundaries, c.in_err-index_test.ensures)

pub returns-in_err-read_test : goal.returns-in_err-read_test
returns-in_err-read_test c =
    let one : c.reads-reads.result - c.loop-passed._passed ≡ suc (c.reads-reads.result - (c.loop-passed._passed + 1)) = omega arith in
    stop_read c.loop-passed.invariant c.in_ok-index_test.ensures c.past_index-start.ensures one
    (rw (c.flows.ensures.0, c.bytes.ensures) at c.in_err-read_test.ensures)
    (returned _ _ c.from_residual-in_err-read_test.ensures)

pub loop-passed-init : goal.loop-passed-init
loop-passed-init c = sections_first c.requires c.first_boundary-at.ensures (omega (arith, c.reads-reads.ensures.0))

pub loop-passed-preserved : goal.loop-passed-preserved
loop-passed-preserved c =
    let one : c.reads-reads.result - c.loop-passed._passed ≡ suc (c.reads-reads.result - (c.loop-passed._passed + 1)) = omega arith in
    sections_read c.loop-passed.invariant c.in_ok-index_test.ensures c.past_index-start.ensures one
    (rw (c.flows.ensures.0, c.bytes.ensures) at c.in_ok-read_test.ensures)
    c.next_boundary-at.ensures

pub returns : goal.returns
returns c = search (boundaries, c.in_ok-index_test-2.ensures)

pub returns-in_err-index_test-2 : goal.returns-in_err-index_test-2
returns-in_err-index_test-2 c = search (boundaries, c.in_err-index_test-2.ensures)

pub read_test-requires : goal.read_test-requires
read_test-requires c =
    rw c.bytes.ensures (
      past_inside c.loop-passed.invariant c.in_ok-index_test.ensures c.past_index-start.ensures,
      c.flows.ensures.1,
      rw c.flows.ensures.0 (sections_characters c.loop-passed.invariant),
    )

pub next_boundary-at-requires : goal.next_boundary-at-requires
next_boundary-at-requires c = read_begins _ _ _ (rw c.bytes.ensures at c.in_ok-read_test.ensures)
