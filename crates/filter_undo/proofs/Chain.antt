-- The tests of a block by what the code was told, and what undoing comes to by them. Assumes nothing.
use Prim.Native.Nat.{ℕ, zero, suc, ◌-◌, ◌<◌, ◌≤◌}
use mathlib.Core.Path.{◌≡◌, refl, sym, subst}
use mathlib.Core.Bool.{Bool, true, false, not, ◌&&◌}
use mathlib.Core.List.{List}
use native.Mathlib.Omega.{arith}
use borrow.Author.Rules.{rules}
use lib.Dec.{eqb}
use lib.ListN.{length, take, get_or}
use Rattle.octets.specs.Parts.{part}
use Rattle.octets.proofs.Lists.{drop-take}
use Rattle.answers.specs.Answer.{Answer, Accepted, Refused, when, ◌then◌, accepted_or}
use Rattle.answers.proofs.Answers.{first-ok, second-ok, when-ok}
use Rattle.filter_format.specs.declared.Filter.{Filter}
use Rattle.filter_format.specs.declared.Filter.TheVariants.{Raw, Delta, Narrow, Follow, Other}
use Rattle.filter_format.specs.Block.{HasUnitWidth, filter_at, is_raw, is_filter, header_length, decoded, undone, contents_test}
use Rattle.filter_format.specs.Undo.{making, refusing, block_test, layer_test, undo_from}
use Rattle.filter_format.proofs.Blocks.{has_unit_width, header_fits, data_right, undone-fits}
use Rattle.filter_block.specs.Tests.{Undoable}

-- what is known of the filter of a block
pub unit_width_at : (f : Filter) (b : List ℕ) → f ≡ filter_at b → HasUnitWidth f
unit_width_at f b e = subst HasUnitWidth (sym e) (has_unit_width (get_or b 0 0))

-- the tests of a block and of a layer by the filter f that the code was given
module _ (room : ℕ) (b : List ℕ) {f : Filter} (is : f ≡ filter_at b) where
  pub layer_tested : {x : Answer} → x ≡ (when (eqb (length b) 0) 40 0 then when (not (is_filter f)) 41 0 then contents_test f room b) → x ≡ layer_test room b
  unfolding layer_test
  layer_tested e = rw (← is) e

  pub block_tested : (left : ℕ) {x : Answer}
      → x ≡ (when (eqb (length b) 0) 40 0 then when (not (is_raw f) && not (is_filter f)) 41 0
      then when (is_filter f && eqb left 0) 44 0 then contents_test f room b)
      → x ≡ block_test left room b
  unfolding block_test
  block_tested left e = rw (← is) e

-- neither of two conditions, by what calls gave
pub neither_told : (s t : Bool) {u v w : Bool} → u ≡ s → v ≡ t → (not u && not v) ≡ w → (not s && not t) ≡ w
neither_told s t e f h = rw (← e, ← f) h

pub ruleset judging = (unit_width_at, layer_tested, block_tested, neither_told, rules)

-- a block that passed its tests can be opened
undoable : (room n : ℕ) (b : List ℕ) → contents_test (filter_at b) room b ≡ Accepted → room ≤ n → Undoable (filter_at b) b n
undoable room n b ok h =
    (has_unit_width (get_or b 0 0), header_fits (filter_at b) room b ok, data_right (filter_at b) room b ok, let k = undone-fits (filter_at b) room b ok in omega arith)

pub layer_undoable : (room n : ℕ) (b : List ℕ) → layer_test room b ≡ Accepted → room ≤ n → Undoable (filter_at b) b n
unfolding layer_test
layer_undoable room n b ok h = undoable room n b (second-ok _ _ (second-ok _ _ ok)) h

raw_or_filter : (f : Filter) → is_raw f ≡ false → (not (is_raw f) && not (is_filter f)) ≡ false → is_filter f ≡ true
raw_or_filter Raw r o = let z : ◌≡◌ {A = ℕ} 0 1 = cc in absurd (omega arith)
raw_or_filter (Delta w) r o = refl
raw_or_filter (Narrow w) r o = refl
raw_or_filter Follow r o = refl
raw_or_filter Other r o = sym o

pub raw_is : (f : Filter) → is_raw f ≡ true → f ≡ Raw
raw_is Raw r = refl
raw_is (Delta w) r = let z : ◌≡◌ {A = ℕ} 0 1 = cc in absurd (omega arith)
raw_is (Narrow w) r = let z : ◌≡◌ {A = ℕ} 0 1 = cc in absurd (omega arith)
raw_is Follow r = let z : ◌≡◌ {A = ℕ} 0 1 = cc in absurd (omega arith)
raw_is Other r = let z : ◌≡◌ {A = ℕ} 0 1 = cc in absurd (omega arith)

-- what undoing comes to, by the tests
pub undo_refused : (left room : ℕ) (b : List ℕ) (n p : ℕ) → block_test left room b ≡ Refused n p → undo_from left room b ≡ refusing (Refused n p)
unfolding undo_from accepted_or
undo_refused zero room b n p e = rw e
undo_refused (suc left) room b n p e = rw e

pub undo_raw : (left room : ℕ) (b : List ℕ) → block_test left room b ≡ Accepted → is_raw (filter_at b) ≡ true
    → undo_from left room b ≡ making (undone (filter_at b) b)
unfolding undo_from accepted_or
undo_raw zero room b ok r = rw ok
undo_raw (suc left) room b ok r = rw (ok, r)

pub undo-layer : (left room : ℕ) (b : List ℕ) → block_test left room b ≡ Accepted → is_raw (filter_at b) ≡ false
    → (0 < left) × (undo_from left room b ≡ undo_from (left - 1) room (undone (filter_at b) b))
unfolding undo_from accepted_or block_test
undo-layer zero room b ok r =
    let other = when-ok _ _ _ (first-ok _ _ (second-ok _ _ ok)) in
    let ninth : (is_filter (filter_at b) && eqb 0 0) ≡ false = when-ok _ _ _ (first-ok _ _ (second-ok _ _ (second-ok _ _ ok))) in
    let filter = raw_or_filter (filter_at b) r other in
    let none : true ≡ false = rw filter at ninth in
    absurd (let z : ◌≡◌ {A = ℕ} 0 1 = cc in let f : ⊥ = omega arith in f)
undo-layer (suc left) room b ok r = let one : suc left - 1 ≡ left = omega arith in (omega arith, rw (ok, r, one))

pub block_undoable : (left room n : ℕ) (b : List ℕ) → block_test left room b ≡ Accepted → room ≤ n → Undoable (filter_at b) b n
unfolding block_test
block_undoable left room n b ok h = undoable room n b (second-ok _ _ (second-ok _ _ (second-ok _ _ ok))) h

-- the data of format 0 in the first bytes of a buffer
pub raw_part : (f : Filter) (here : List ℕ) (len : ℕ) → is_raw f ≡ true → 0 < len → len ≤ length here → undone f (take len here) ≡ part 1 (len - 1) here
unfolding undone decoded header_length
raw_part f here len r h k = rw (raw_is f r) (drop-take 1 len here h k)
