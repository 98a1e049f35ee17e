-- Each of the two by what its calls ensured, see Invariants.antt.
use mathlib.Core.Path.{refl, sym, ◌∙◌}
use native.Mathlib.Omega.{arith}
use Rattle.filter_undo.proofs.Buffers.{holds_all}
use Rattle.filter_undo.proofs.Choice.{told_of, told_accepted, data_of, some_left, undoable_there, raw_given}
use Rattle.filter_undo.proofs.Choice.{chosen_refused, chosen_layer, chosen_here, chosen_there, result_copied}
use Rattle.filter_undo.proofs.inner.+choose_layer.Goals as goal

pub choose-returns-in-Err : goal.choose-returns-in-Err
choose-returns-in-Err t c =
    let told = told_of c.min-room.ensures c.filter_at-filter.ensures c.in-Err.ensures in
    let left = c.refuse.ensures in
    chosen_refused told c.args.is_first refl (left.value, (left.first_after, left.second_after))

pub choose-layer-requires : goal.choose-layer-requires
choose-layer-requires t c =
    let told = told_of c.min-room.ensures c.filter_at-filter.ensures c.in_default.ensures in
    let passed = told_accepted told refl in
    let not-raw = sym c.is_raw.ensures ∙ c.if-not-is_raw.true in
    (omega arith, (some_left passed not-raw, c.requires, undoable_there passed))

pub choose-returns-then-not-is_raw : goal.choose-returns-then-not-is_raw
choose-returns-then-not-is_raw t c =
    let told = told_of c.min-room.ensures c.filter_at-filter.ensures c.in_default.ensures in
    let passed = told_accepted told refl in
    let not-raw = sym c.is_raw.ensures ∙ c.if-not-is_raw.true in
    chosen_layer passed not-raw c.args.is_first c.layer.ensures

pub choose-overflow_sub-len : goal.choose-overflow_sub-len
choose-overflow_sub-len t c =
    let told = told_of c.min-room.ensures c.filter_at-filter.ensures c.in_default.ensures in
    let passed = told_accepted told refl in
    let here = data_of c.requires passed (sym c.is_raw.ensures ∙ c.if-not-is_raw.false) in
    (raw_given here).0

pub choose-result_here-requires : goal.choose-result_here-requires
choose-result_here-requires t c =
    let told = told_of c.min-room.ensures c.filter_at-filter.ensures c.in_default.ensures in
    let passed = told_accepted told refl in
    let here = data_of c.requires passed (sym c.is_raw.ensures ∙ c.if-not-is_raw.false) in
    (raw_given here).1

pub choose-overflow_sub-len-else-is_first : goal.choose-overflow_sub-len-else-is_first
choose-overflow_sub-len-else-is_first t c =
    let told = told_of c.min-room.ensures c.filter_at-filter.ensures c.in_default.ensures in
    let passed = told_accepted told refl in
    let here = data_of c.requires passed (sym c.is_raw.ensures ∙ c.if-not-is_raw.false) in
    (raw_given here).0

pub choose-result_there-requires : goal.choose-result_there-requires
choose-result_there-requires t c =
    let told = told_of c.min-room.ensures c.filter_at-filter.ensures c.in_default.ensures in
    let passed = told_accepted told refl in
    let here = data_of c.requires passed (sym c.is_raw.ensures ∙ c.if-not-is_raw.false) in
    let given = raw_given here in (given.1, given.2)

pub choose-returns-then-is_first : goal.choose-returns-then-is_first
choose-returns-then-is_first t c =
    let told = told_of c.min-room.ensures c.filter_at-filter.ensures c.in_default.ensures in
    let passed = told_accepted told refl in
    let here = data_of c.requires passed (sym c.is_raw.ensures ∙ c.if-not-is_raw.false) in
    let left = c.result_here.ensures in
    chosen_here here c.if-is_first.true (left.value, (left.here_after, left.there_after))

pub choose-returns-else-is_first : goal.choose-returns-else-is_first
choose-returns-else-is_first t c =
    let told = told_of c.min-room.ensures c.filter_at-filter.ensures c.in_default.ensures in
    let passed = told_accepted told refl in
    let here = data_of c.requires passed (sym c.is_raw.ensures ∙ c.if-not-is_raw.false) in
    let left = c.result_there.ensures in
    chosen_there here c.if-is_first.false (left.value, (left.there_after, left.here_after))

pub layer-returns : goal.layer-returns
layer-returns t c =
    let held = holds_all c.requires.2.3 c.undo_filter-made.ensures in
    result_copied held _ c.args.is_first c.args.here.now c.choose.ensures
