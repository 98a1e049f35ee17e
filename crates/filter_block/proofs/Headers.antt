-- The format byte, and the header of formats 64, 65 and 66. Assumes nothing.
use Prim.Native.Nat.{ℕ, ◌<◌, ◌≤◌}
use mathlib.Core.Path.{◌≡◌, refl, subst}
use mathlib.Core.Bool.{Bool, true, false, cond}
use mathlib.Core.List.{List}
use native.Mathlib.Omega.{arith}
use lib.Dec.{eqb}
use lib.ListN.{length}
use Rattle.filter_format.specs.declared.Filter.{Filter}
use Rattle.filter_format.specs.declared.Filter.TheVariants.{Delta}
use Rattle.filter_format.specs.Block.{HasUnitWidth, header_length}

two_or_four : (t : Bool) → (2 ≤ cond t 4 2) × (cond t 4 2 ≤ 4)
two_or_four true = (omega arith, omega arith)
two_or_four false = (omega arith, omega arith)

-- behind the level, at the earliest
pub delta-start : (w n : ℕ) → n ≡ header_length (Delta w) → 2 ≤ n
unfolding header_length
delta-start w n h = let k = two_or_four (eqb w 4) in omega arith

pub level_in : (w : ℕ) (b : List ℕ) → header_length (Delta w) ≤ length b → 1 < length b
level_in w b h = let k = delta-start w (header_length (Delta w)) refl in omega arith

-- what is known of a filter, of the case that it is
pub told : (f g : Filter) (b : List ℕ) → f ≡ g → (HasUnitWidth f) × (header_length f ≤ length b) → (HasUnitWidth g) × (header_length g ≤ length b)
told f g b e h = subst (λ (x : Filter). (HasUnitWidth x) × (header_length x ≤ length b)) e h
