-- The tests decide first: a refusal zeroes both buffers. A layer that passes is undone into the first buffer, with
-- zeros behind it, and the second is zeroed.
use mathlib.Core.Path.{refl}
use Rattle.filter_undo.proofs.Buffers.{holds_all, held_inside}
use Rattle.filter_undo.proofs.Choice.{told_alone, alone_refused, alone_undoable, alone_placed}
use Rattle.filter_undo.proofs.undo_layer.Goals as goal

pub returns-in-Err-clause-value : goal.returns-in-Err-clause-value
returns-in-Err-clause-value c =
    let told = told_alone c.min-room.ensures c.filter_at-filter.ensures c.in-Err.ensures in
    let left = c.refuse.ensures in
    (alone_refused told refl (left.value, (left.first_after, left.second_after))).0

pub returns-in-Err-clause-first_after : goal.returns-in-Err-clause-first_after
returns-in-Err-clause-first_after c =
    let told = told_alone c.min-room.ensures c.filter_at-filter.ensures c.in-Err.ensures in
    let left = c.refuse.ensures in
    (alone_refused told refl (left.value, (left.first_after, left.second_after))).1.0

pub undo_filter-made-requires : goal.undo_filter-made-requires
undo_filter-made-requires c =
    let told = told_alone c.min-room.ensures c.filter_at-filter.ensures c.in_default.ensures in
    alone_undoable told refl

pub clear_behind-requires : goal.clear_behind-requires
clear_behind-requires c =
    let told = told_alone c.min-room.ensures c.filter_at-filter.ensures c.in_default.ensures in
    let held = holds_all (alone_undoable told refl).3 c.undo_filter-made.ensures in
    held_inside held

pub returns-clause-value : goal.returns-clause-value
returns-clause-value c =
    let told = told_alone c.min-room.ensures c.filter_at-filter.ensures c.in_default.ensures in
    let held = holds_all (alone_undoable told refl).3 c.undo_filter-made.ensures in
    (alone_placed told refl held c.clear_behind.ensures c.clear_behind-2.ensures).0

pub returns-clause-first_after : goal.returns-clause-first_after
returns-clause-first_after c =
    let told = told_alone c.min-room.ensures c.filter_at-filter.ensures c.in_default.ensures in
    let held = holds_all (alone_undoable told refl).3 c.undo_filter-made.ensures in
    (alone_placed told refl held c.clear_behind.ensures c.clear_behind-2.ensures).1.0
