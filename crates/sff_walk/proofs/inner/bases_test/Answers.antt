use Rattle.std.proofs.Common.{sym, ◌∙◌, arith}
use Rattle.sff_walk.proofs.Walk.{Stopped, flow_in, matched_more}
use Rattle.sff_walk.proofs.Walk.{stopped_end, stopped_walk, stopped_base}
use Rattle.sff_walk.proofs.Walk.{answer_end, answer_here, walked_past, answer_walk, answer_base}
use Rattle.sff_walk.proofs.inner.bases_test.Goals as goal
use Rattle.sff_walk.proofs.inner.bases_test.Goals.{then-k-count, else-k-count+then-not-within}
use Rattle.sff_walk.proofs.inner.bases_test.Goals.{else-k-count+else-not-within+then-not-base_matches}
use Rattle.sff_walk.proofs.inner.bases_test.Goals.{Else-stop-count}

-- the walk does not break at this base, so the base has a flow
pub base_matches-requires : goal.base_matches-requires
base_matches-requires c =
    let f = flow_in _ _ (sym c.within.ensures ∙ c.if-not-within.false) in omega (arith, f)

pub loop-k-preserved : goal.loop-k-preserved
loop-k-preserved c =
    matched_more
    c.loop-k.invariant
    c.if-k-count.false
    c.after-flow.ensures
    c.within.ensures
    c.if-not-within.false
    c.base_matches.ensures
    c.if-not-base_matches.false
    c.next-base.ensures

-- where the three breaks meet, and the place is not the end
stopped : (c : Else-stop-count) →
    Stopped
    c.args.characters.now
    c.args.increments.now
    c.args.bases.now
    c.loop-k.base.0
    c.loop-k.flow.0
    c.if-k-count.flow.0
    c.if-k-count.stop
stopped c =
    let m = c.loop-k.invariant in
    elim c.if-k-count.branch [
      | then-k-count w ↦ stopped_end m w.if-k-count.true w.stop-is
      | else-k-count+then-not-within w ↦
          rw w.flow-is
          (stopped_walk m w.if-k-count.false w.after-flow.ensures w.within.ensures w.if-not-within.true w.stop-is)
      | else-k-count+else-not-within+then-not-base_matches w ↦
          let within = w.if-not-within.false in
          let wrong = w.if-not-base_matches.true in
          rw w.flow-is
          (
          stopped_base
          m
          w.if-k-count.false
          w.after-flow.ensures
          w.within.ensures
          within
          w.base_matches.ensures
          wrong
          w.stop-is
          )
    ]

pub returns-then-stop-count : goal.returns-then-stop-count
returns-then-stop-count c =
    let m = c.loop-k.invariant in
    elim c.if-k-count.branch [
      | then-k-count w ↦ answer_end (stopped_end m {x = 0} w.if-k-count.true w.stop-is) c.if-stop-count.true
      | else-k-count+then-not-within w ↦ absurd (omega (arith, m.walked.low))
      | else-k-count+else-not-within+then-not-base_matches w ↦ absurd (omega (arith, m.walked.low))
    ]

pub returns-then-not-within-2 : goal.returns-then-not-within-2
returns-then-not-within-2 c =
    let s = stopped (goal.at.returns-then-not-within-2 c).Else-stop-count in
    answer_here s c.if-stop-count.false c.within-2.ensures c.if-not-within-2.true

-- from here on the walk does not break at the place
pub walk_stop-walk-requires : goal.walk_stop-walk-requires
walk_stop-walk-requires c =
    let s = stopped (goal.at.walk_stop-walk-requires c).Else-stop-count in
    let past = walked_past s c.if-stop-count.false c.within-2.ensures c.if-not-within-2.false c.next.ensures in
    omega (arith, past)

pub returns-then-walk-count : goal.returns-then-walk-count
returns-then-walk-count c =
    let s = stopped (goal.at.returns-then-walk-count c).Else-stop-count in
    let past = walked_past s c.if-stop-count.false c.within-2.ensures c.if-not-within-2.false c.next.ensures in
    answer_walk s c.if-stop-count.false past c.walk_stop-walk.ensures c.if-walk-count.true

pub returns : goal.returns
returns c =
    let s = stopped (goal.at.returns c).Else-stop-count in
    let past = walked_past s c.if-stop-count.false c.within-2.ensures c.if-not-within-2.false c.next.ensures in
    answer_base s c.if-stop-count.false past c.walk_stop-walk.ensures c.if-walk-count.false
