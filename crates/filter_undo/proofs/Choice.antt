-- The choice of format and the layer that it opens, on both buffers. Assumes nothing.
use Prim.Native.Nat.{ℕ, ◌-◌, ◌<◌, ◌≤◌, min}
use mathlib.Core.Path.{◌≡◌, sym, ap, ◌∙◌, subst}
use mathlib.Core.Bool.{Bool, true, false, not}
use mathlib.Core.List.{List}
use native.Mathlib.Nat.{min_comm}
use native.Mathlib.Omega.{arith}
use lib.ListN.{length, take}
use lib.Seq.{length-take-le}
use Rattle.octets.specs.Parts.{part, filled}
use Rattle.octets.proofs.Lists.{length_part}
use Rattle.answers.specs.Answer.{Answer, Accepted, Refused, accepted_or}
use Rattle.filter_format.specs.declared.Filter.{Filter}
use Rattle.filter_format.specs.Undo.{Filtered}
use Rattle.filter_format.specs.Block.{filter_at, is_raw, header_length, undone}
use Rattle.filter_format.specs.Undo.{making, refusing, filtered, second_after, room_of, block_test, layer_test, undo_from, undo_layer}
use Rattle.filter_block.specs.Tests.{Undoable}
use Rattle.filter_undo.specs.Sides.{Undid}
use Rattle.filter_undo.proofs.Buffers.{Holds, held_length, held_front, placed, as_long, swapped, refused}
use Rattle.filter_undo.proofs.Chain.{undo_refused, undo_raw, undo-layer, block_undoable, layer_undoable, raw_is, raw_part}

-- what the code was told of a block b: the room between two buffers, its filter, and the answer of its tests
pub record Told (left room : ℕ) (f : Filter) (answer : Answer) (b here there : List ℕ) : Type 0 where
  pub is_room : room ≡ min (length here) (length there)
  pub is_filter_lem : f ≡ filter_at b
  pub is_answer : answer ≡ block_test left room b

pub told_of : {left room : ℕ} {f : Filter} {answer : Answer} {b here there : List ℕ}
    → room ≡ min (length here) (length there) → f ≡ filter_at b → answer ≡ block_test left room b → Told left room f answer b here there
told_of r i a = record { is_room = r; is_filter_lem = i; is_answer = a }

-- the tests accept it
pub record Passed (left : ℕ) (f : Filter) (b here there : List ℕ) : Type 0 where
  pub is_filter_lem : f ≡ filter_at b
  pub accepts : block_test left (room_of here there) b ≡ Accepted

module _ {left room : ℕ} {f : Filter} {answer : Answer} {b here there : List ℕ} (t : Told left room f answer b here there) where
  test : answer ≡ block_test left (room_of here there) b
  test = t.is_answer ∙ ap (λ (n : ℕ). block_test left n b) t.is_room

  pub told_accepted : answer ≡ Accepted → Passed left f b here there
  told_accepted ok = record { is_filter_lem = t.is_filter_lem; accepts = sym test ∙ ok }

  pub chosen_refused : {n p : ℕ} {here' there' : List ℕ} {r : Filtered} (first : Bool) → answer ≡ Refused n p
      → (r ≡ filtered (refusing (Refused n p))) × ((here' ≡ second_after here) × (there' ≡ second_after there))
      → Undid (undo_from left (room_of here there) b) first here here' there there' r
  chosen_refused first e u = rw (undo_refused left (room_of here there) b _ _ (sym test ∙ e)) (refused (Refused _ _) first here there u)

module _ {left : ℕ} {f : Filter} {b here there : List ℕ} (p : Passed left f b here there) where
  same_filter : filter_at b ≡ f
  same_filter = sym p.is_filter_lem

  undoable_in : (n : ℕ) → room_of here there ≤ n → Undoable f b n
  undoable_in n h = subst (λ (g : Filter). Undoable g b n) same_filter (block_undoable left (room_of here there) n b p.accepts h)

  pub undoable_here : Undoable f b (length here)
  undoable_here = undoable_in (length here) (omega arith)

  pub undoable_there : Undoable f b (length there)
  undoable_there = undoable_in (length there) (omega arith)

  -- a filter
  module _ (q : is_raw f ≡ false) where
    layers : (0 < left) × (undo_from left (room_of here there) b ≡ undo_from (left - 1) (room_of here there) (undone f b))
    layers =
        let k = undo-layer left (room_of here there) b p.accepts (ap is_raw same_filter ∙ q) in
        (k.0, k.1 ∙ ap (λ (g : Filter). undo_from (left - 1) (room_of here there) (undone g b)) same_filter)

    pub some_left : 0 < left
    some_left = layers.0

    pub chosen_layer : {here' there' : List ℕ} {r : Filtered} (first : Bool)
        → Undid (undo_from (left - 1) (room_of here there) (undone f b)) first here here' there there' r
        → Undid (undo_from left (room_of here there) b) first here here' there there' r
    chosen_layer first u = rw layers.1 u

  -- format 0
  module _ (q : is_raw f ≡ true) where
    raw_made : undo_from left (room_of here there) b ≡ making (undone f b)
    raw_made = undo_raw left (room_of here there) b p.accepts (ap is_raw same_filter ∙ q) ∙ ap (λ (g : Filter). making (undone g b)) same_filter

    raw_some : 1 ≤ length b
    unfolding header_length
    raw_some = subst (λ (g : Filter). header_length g ≤ length b) (raw_is f q) undoable_here.1

    pub chosen_raw : {n : ℕ} {here₁ here₂ there' : List ℕ} → Holds n (undone f b) here here₁
        → here₂ ≡ filled (length here₁) (take n here₁) → there' ≡ second_after there
        → Undid (undo_from left (room_of here there) b) true here here₂ there there' (record { answer = Accepted; made = n })
    chosen_raw m e g = rw raw_made (placed m there e g)

-- format 0 in the first bytes of one of the buffers
pub record Data (left len : ℕ) (f : Filter) (here there : List ℕ) : Type 0 where
  pub inside : len ≤ length here
  pub passed : Passed left f (take len here) here there
  pub raw : is_raw f ≡ true

pub data_of : {left len : ℕ} {f : Filter} {here there : List ℕ} → len ≤ length here
    → Passed left f (take len here) here there → is_raw f ≡ true → Data left len f here there
data_of i p r = record { inside = i; passed = p; raw = r }

module _ {left len : ℕ} {f : Filter} {here there : List ℕ} (d : Data left len f here there) where
  some : 0 < len
  some = omega (arith, raw_some d.passed d.raw, length-take-le len here d.inside)

  data_is : undone f (take len here) ≡ part 1 (len - 1) here
  data_is = raw_part f here len d.raw some d.inside

  pub raw_given : (1 ≤ len) × (len - 1 < length here) × (len - 1 ≤ length there)
  raw_given =
      let s = some in
      let i = d.inside in
      let n = subst (λ (xs : List ℕ). length xs ≤ length there) data_is (undoable_there d.passed).3 in
      (s, omega arith, omega (arith, n, length_part 1 (len - 1) here (omega arith)))

  result : undo_from left (room_of here there) (take len here) ≡ making (part 1 (len - 1) here)
  result = raw_made d.passed d.raw ∙ ap making data_is

  module _ {first : Bool} {here' there' : List ℕ} {r : Filtered} where
    pub chosen_here : first ≡ true → Undid (making (part 1 (len - 1) here)) true here here' there there' r
        → Undid (undo_from left (room_of here there) (take len here)) first here here' there there' r
    chosen_here e u = rw (e, result) u

    pub chosen_there : first ≡ false → Undid (making (part 1 (len - 1) here)) true there there' here here' r
        → Undid (undo_from left (room_of here there) (take len here)) first here here' there there' r
    chosen_there e u = rw (e, result) (u.0, (u.1.1, u.1.0))

-- a block xs was put at the front of `there`, and the choice made there
module _ {n : ℕ} {xs there there₁ here' there' : List ℕ} {r : Filtered} (m : Holds n xs there there₁) (left : ℕ) (first : Bool) (here : List ℕ) where
  -- with the buffers in their places, and having changed them
  pub handed : Undid (undo_from left (room_of there₁ here) (take n there₁)) first there₁ there' here here' r
      → Undid (undo_from left (room_of there here) xs) first there there' here here' r
  handed u =
      let room : room_of there₁ here ≡ room_of there here = ap (λ (k : ℕ). min k (length here)) (held_length m) in
      let e : undo_from left (room_of there₁ here) (take n there₁) ≡ undo_from left (room_of there here) xs = rw (held_front m, room) in
      as_long (undo_from left (room_of there here) xs) first there₁ there here (held_length m) (rw e at u)

module _ {n : ℕ} {xs there there₁ here' there' : List ℕ} {r : Filtered} (m : Holds n xs there there₁) (left : ℕ) (first : Bool) (here : List ℕ) where
  pub result_copied : Undid (undo_from left (room_of there₁ here) (take n there₁)) (not first) there₁ there' here here' r
      → Undid (undo_from left (room_of here there) xs) first here here' there there' r
  result_copied u =
      let room : room_of here there ≡ room_of there here = min_comm (length here) (length there) in
      rw room (swapped (undo_from left (room_of there here) xs) first here there (handed m left (not first) here u))

-- the same of a layer undone alone
pub record ToldAlone (room : ℕ) (f : Filter) (answer : Answer) (b first second : List ℕ) : Type 0 where
  pub is_room : room ≡ min (length first) (length second)
  pub is_filter_lem : f ≡ filter_at b
  pub is_answer : answer ≡ layer_test room b

pub told_alone : {room : ℕ} {f : Filter} {answer : Answer} {b first second : List ℕ}
    → room ≡ min (length first) (length second) → f ≡ filter_at b → answer ≡ layer_test room b → ToldAlone room f answer b first second
told_alone r i a = record { is_room = r; is_filter_lem = i; is_answer = a }

module _ {room : ℕ} {f : Filter} {answer : Answer} {b first second : List ℕ} (t : ToldAlone room f answer b first second) where
  layer_tested : answer ≡ layer_test (room_of first second) b
  layer_tested = t.is_answer ∙ ap (λ (n : ℕ). layer_test n b) t.is_room

  pub alone_refused : {n p : ℕ} {first' second' : List ℕ} {r : Filtered} → answer ≡ Refused n p
      → (r ≡ filtered (refusing (Refused n p))) × ((first' ≡ second_after first) × (second' ≡ second_after second))
      → Undid (undo_layer (room_of first second) b) true first first' second second' r
  unfolding undo_layer accepted_or
  alone_refused e u = rw (sym layer_tested ∙ e) u

  module _ (ok : answer ≡ Accepted) where
    pub alone_undoable : Undoable f b (length first)
    alone_undoable =
        let k = layer_undoable (room_of first second) (length first) b (sym layer_tested ∙ ok) (omega arith) in
        subst (λ (g : Filter). Undoable g b (length first)) (sym t.is_filter_lem) k

    alone_made : undo_layer (room_of first second) b ≡ making (undone f b)
    unfolding undo_layer accepted_or
    alone_made = rw (sym layer_tested ∙ ok) (ap (λ (g : Filter). making (undone g b)) (sym t.is_filter_lem))

    pub alone_placed : {n : ℕ} {first₁ first₂ second' : List ℕ} → Holds n (undone f b) first first₁
        → first₂ ≡ filled (length first₁) (take n first₁) → second' ≡ second_after second
        → Undid (undo_layer (room_of first second) b) true first first₂ second second' (record { answer = Accepted; made = n })
    alone_placed m e g = rw alone_made (placed m second e g)
