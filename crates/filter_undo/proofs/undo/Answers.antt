-- The tests decide first: a refusal zeroes both buffers. A block that passes is undone into the first buffer, and there
-- stand the data, with zeros behind them, or the rest of the chain, which `choose` undoes from there with seven filters
-- left.
use mathlib.Core.Path.{refl, sym, ◌∙◌}
use mathlib.Core.Bool.{true}
use Rattle.filter_undo.proofs.Buffers.{holds_all, held_inside}
use Rattle.filter_undo.proofs.Choice.{told_of, told_accepted, undoable_here}
use Rattle.filter_undo.proofs.Choice.{chosen_refused, chosen_raw, chosen_layer, handed}
use Rattle.filter_undo.proofs.undo.Goals as goal

pub returns-in-Err-clause-value : goal.returns-in-Err-clause-value
returns-in-Err-clause-value c =
    let told = told_of c.min-room.ensures c.filter_at-filter.ensures c.in-Err.ensures in
    let left = c.refuse.ensures in
    (chosen_refused told true refl (left.value, (left.first_after, left.second_after))).0

pub returns-in-Err-clause-first_after : goal.returns-in-Err-clause-first_after
returns-in-Err-clause-first_after c =
    let told = told_of c.min-room.ensures c.filter_at-filter.ensures c.in-Err.ensures in
    let left = c.refuse.ensures in
    (chosen_refused told true refl (left.value, (left.first_after, left.second_after))).1.0

pub undo_filter-made-requires : goal.undo_filter-made-requires
undo_filter-made-requires c =
    let told = told_of c.min-room.ensures c.filter_at-filter.ensures c.in_default.ensures in
    undoable_here (told_accepted told refl)

pub clear_behind-requires : goal.clear_behind-requires
clear_behind-requires c =
    let told = told_of c.min-room.ensures c.filter_at-filter.ensures c.in_default.ensures in
    let passed = told_accepted told refl in
    let held = holds_all (undoable_here passed).3 c.undo_filter-made.ensures in
    held_inside held

pub returns-then-is_raw-clause-value : goal.returns-then-is_raw-clause-value
returns-then-is_raw-clause-value c =
    let told = told_of c.min-room.ensures c.filter_at-filter.ensures c.in_default.ensures in
    let passed = told_accepted told refl in
    let held = holds_all (undoable_here passed).3 c.undo_filter-made.ensures in
    let raw = sym c.is_raw.ensures ∙ c.if-is_raw.true in
    (chosen_raw passed raw held c.clear_behind.ensures c.clear_behind-then-is_raw.ensures).0

pub returns-then-is_raw-clause-first_after : goal.returns-then-is_raw-clause-first_after
returns-then-is_raw-clause-first_after c =
    let told = told_of c.min-room.ensures c.filter_at-filter.ensures c.in_default.ensures in
    let passed = told_accepted told refl in
    let held = holds_all (undoable_here passed).3 c.undo_filter-made.ensures in
    let raw = sym c.is_raw.ensures ∙ c.if-is_raw.true in
    (chosen_raw passed raw held c.clear_behind.ensures c.clear_behind-then-is_raw.ensures).1.0

pub choose-requires : goal.choose-requires
choose-requires c =
    let told = told_of c.min-room.ensures c.filter_at-filter.ensures c.in_default.ensures in
    let passed = told_accepted told refl in
    let held = holds_all (undoable_here passed).3 c.undo_filter-made.ensures in
    held_inside held

pub returns-clause-value : goal.returns-clause-value
returns-clause-value c =
    let told = told_of c.min-room.ensures c.filter_at-filter.ensures c.in_default.ensures in
    let passed = told_accepted told refl in
    let held = holds_all (undoable_here passed).3 c.undo_filter-made.ensures in
    let not-raw = sym c.is_raw.ensures ∙ c.if-is_raw.false in
    (chosen_layer passed not-raw true (handed held 7 true c.args.second.now c.choose.ensures)).0

pub returns-clause-first_after : goal.returns-clause-first_after
returns-clause-first_after c =
    let told = told_of c.min-room.ensures c.filter_at-filter.ensures c.in_default.ensures in
    let passed = told_accepted told refl in
    let held = holds_all (undoable_here passed).3 c.undo_filter-made.ensures in
    let not-raw = sym c.is_raw.ensures ∙ c.if-is_raw.false in
    (chosen_layer passed not-raw true (handed held 7 true c.args.second.now c.choose.ensures)).1.0
