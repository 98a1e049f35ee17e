use native.Mathlib.Omega.{arith}
use Prim.Native.Nat.{◌≤◌, ◌<◌}
use Rattle.sff_format.specs.HeaderTest.{read_count}
use Rattle.sff_format.proofs.HeaderLaws.{fits_31}
use Rattle.sff_format.proofs.FileLaid.{head_ok}
use Rattle.sff_format.proofs.Walks.{walk_begins, walk_name}
use Rattle.sff_reasons.proofs.Sought.{sought_start, sought_none, sought_found, sought_more}
use Rattle.sff_reasons.proofs.inner.name_among.Goals as goal

pub new-headed-requires : goal.new-headed-requires
new-headed-requires c = fits_31 _ (head_ok _ c.requires)

pub loop-behind-init : goal.loop-behind-init
loop-behind-init c = sought_start _ _ _ c.requires (rw c.new-headed.ensures at c.first_boundary-at.ensures)

-- a read stands past any index
pub has_name-requires : goal.has_name-requires
has_name-requires c =
    let n = rw c.new-headed.ensures at c.reads-behind-end.ensures.0 in
    let h : c.loop-behind.behind < read_count c.args.file.now = omega (arith, n, c.loop-behind-test.true) in
    walk_name c.loop-behind.invariant.walk (rw c.new-headed.ensures at c.past_index-start.ensures) h

pub returns-then-borne : goal.returns-then-borne
returns-then-borne c =
    let n = rw c.new-headed.ensures at c.reads-behind-end.ensures.0 in
    let h : c.loop-behind.behind < read_count c.args.file.now = omega (arith, n, c.loop-behind-test.true) in
    let start = rw c.new-headed.ensures at c.past_index-start.ensures in
    sought_found c.loop-behind.invariant start h c.has_name.ensures c.if-borne.true

pub next_boundary-at-requires : goal.next_boundary-at-requires
next_boundary-at-requires c =
    let n = rw c.new-headed.ensures at c.reads-behind-end.ensures.0 in
    let h : c.loop-behind.behind < read_count c.args.file.now = omega (arith, n, c.loop-behind-test.true) in
    rw c.new-headed.ensures (walk_begins c.loop-behind.invariant.walk (rw c.new-headed.ensures at c.past_index-start.ensures) h)

pub loop-behind-preserved : goal.loop-behind-preserved
loop-behind-preserved c =
    let n = rw c.new-headed.ensures at c.reads-behind-end.ensures.0 in
    let h : c.loop-behind.behind < read_count c.args.file.now = omega (arith, n, c.loop-behind-test.true) in
    let start = rw c.new-headed.ensures at c.past_index-start.ensures in
    let next = rw c.new-headed.ensures at c.next_boundary-at.ensures in
    sought_more c.loop-behind.invariant start h c.has_name.ensures c.if-borne.false next

pub returns : goal.returns
returns c =
    let n = rw c.new-headed.ensures at c.reads-behind-end.ensures.0 in
    let h : read_count c.args.file.now ≤ c.loop-behind.behind = omega (arith, n, c.loop-behind-test.false) in
    sought_none c.loop-behind.invariant h
