-- The tests of a block as the code makes them, filter by filter. Assumes nothing.
use Prim.Native.Nat.{ℕ, ◌-◌, ◌*◌, ◌/◌, ◌%◌, ◌<◌, ◌≤◌}
use mathlib.Core.Path.{◌≡◌, refl, sym, ap, ◌∙◌}
use mathlib.Core.Bool.{Bool, true, false, cond, not}
use mathlib.Core.List.{List}
use native.Mathlib.Nat.{div-lt_iff_lt-mul, le-div_iff_mul-le}
use native.Mathlib.Omega.{arith}
use borrow.Author.Tests.{lt-ltb, le-ltb, eq-eqb, ne_eqb}
use lib.Dec.{ltb}
use lib.ListN.{length, drop, length-drop}
use lib.Seq.{take_all}
use Rattle.octets.specs.Parts.{part}
use Rattle.answers.specs.Answer.{Accepted, Refused, when}
use Rattle.answers.proofs.Chains.{holds, passes, passes_last}
use Rattle.filter_format.specs.declared.Filter.{Filter}
use Rattle.filter_format.specs.declared.Filter.TheVariants.{Raw, Delta, Narrow, Follow, Other}
use Rattle.filter_format.specs.Units.{IsWidth}
use Rattle.filter_format.specs.Narrow.{lacking}
use Rattle.filter_format.specs.Block.{header_length, level_at, follow_at, data_at, bad_data, decoded, undone}
use Rattle.filter_format.proofs.Blocks.{none_lacking, length_raw, length_delta_undone, decoded-narrow, length_follow_undone}
use Rattle.std.specs.Prelude.{Some, None}
use Rattle.filter_narrow.specs.Counted.{begun, counted}
use Rattle.filter_narrow.proofs.Begun.{length_widened}
use Rattle.filter_block.specs.Tests.{data_test}

-- a part that goes to the end
pub part_end : (n : ℕ) (b : List ℕ) → part n (length b - n) b ≡ drop n b
part_end n b = take_all (length b - n) (drop n b) (let e = length-drop n b in omega arith)

-- the room, by the number of units
module _ (n w room : ℕ) (positive : 0 < w) where
  pub units_over : room / w < n → ltb room (n * w) ≡ true
  units_over h = lt-ltb room (n * w) ((div-lt_iff_lt-mul positive).0 h)

  pub units_fit : n ≤ room / w → ltb room (n * w) ≡ false
  units_fit h = le-ltb room (n * w) ((le-div_iff_mul-le positive).0 h)

module _ (f : Filter) (room : ℕ) (b : List ℕ) where
  data_length_lem : length (data_at f b) ≡ length b - header_length f
  data_length_lem = length-drop (header_length f) b

  -- data that are refused, and data that are not
  data_bad : bad_data f (data_at f b) ≡ true → Refused 43 0 ≡ data_test f room b
  unfolding data_test
  data_bad e = holds _ _ _ _ e

  data_good : (n : ℕ) → bad_data f (data_at f b) ≡ false → length (undone f b) ≡ n → when (ltb room n) 26 0 ≡ data_test f room b
  unfolding data_test
  data_good n e l = passes _ _ _ _ e (rw l)

-- what a count tells
lacking_told : (t : Bool) (m : ℕ) → None ≡ cond t None (Some m) → t ≡ true
lacking_told true m e = refl
lacking_told false m e = cc

units_told : (t : Bool) (n m : ℕ) → Some n ≡ cond t None (Some m) → (t ≡ false) × (n ≡ m)
units_told true n m e = cc
units_told false n m e = (refl, cc)

module _ (room : ℕ) (b : List ℕ) where
  pub raw_data : when (ltb room (length b - 1)) 26 0 ≡ data_test Raw room b
  unfolding undone bad_data header_length
  raw_data = data_good Raw room b (length b - 1) refl (length_raw (level_at b) (follow_at b) (drop 1 b) ∙ length-drop 1 b)

  pub follow_data : when (ltb room (length b - 257)) 26 0 ≡ data_test Follow room b
  unfolding undone bad_data header_length
  follow_data =
      data_good Follow room b (length b - 257) refl
      (length_follow_undone (level_at b) (follow_at b) (drop 257 b) ∙ length-drop 257 b)

  pub other_data : Accepted ≡ data_test Other room b
  unfolding undone bad_data decoded
  other_data = passes_last _ _ _ (le-ltb room 0 (omega arith)) ∙ data_good Other room b 0 refl refl

  module _ (w n : ℕ) (e : n ≡ length b - header_length (Delta w)) where
    long : length (data_at (Delta w) b) ≡ n
    long = data_length_lem (Delta w) room b ∙ sym e

    pub delta_broken : (n % w ≡ 0 → ⊥) → Refused 43 0 ≡ data_test (Delta w) room b
    unfolding bad_data
    delta_broken k =
        let broken : length (data_at (Delta w) b) % w ≡ 0 → ⊥ = λ h. k (ap (λ (x : ℕ). x % w) (sym long) ∙ h) in
        data_bad (Delta w) room b (ap not (ne_eqb (length (data_at (Delta w) b) % w) 0 broken))

    pub delta_whole : IsWidth w → n % w ≡ 0 → when (ltb room n) 26 0 ≡ data_test (Delta w) room b
    unfolding undone bad_data
    delta_whole k h =
        let whole : length (data_at (Delta w) b) % w ≡ 0 = ap (λ (x : ℕ). x % w) long ∙ h in
        data_good (Delta w) room b n (ap not (eq-eqb (length (data_at (Delta w) b) % w) 0 whole))
        (length_delta_undone (level_at b) (follow_at b) (data_at (Delta w) b) w k whole ∙ long)

  module _ (w : ℕ) where
    pub narrow-lacking : None ≡ counted w (drop 1 b) → Refused 43 0 ≡ data_test (Narrow w) room b
    unfolding counted bad_data header_length
    narrow-lacking e = data_bad (Narrow w) room b (lacking_told _ (begun w 0 (drop 1 b)) e)

    pub narrow_units : (n : ℕ) → Some n ≡ counted w (drop 1 b) → when (ltb room (n * w)) 26 0 ≡ data_test (Narrow w) room b
    unfolding counted bad_data header_length undone
    narrow_units n e =
        let k = units_told (ltb 0 (lacking w 0 (drop 1 b))) n (begun w 0 (drop 1 b)) e in
        data_good (Narrow w) room b (n * w) k.0
        (ap length (decoded-narrow (level_at b) (follow_at b) (drop 1 b) w)
        ∙ length_widened w (drop 1 b) (none_lacking w (drop 1 b) k.0)
        ∙ ap (λ (x : ℕ). x * w) (sym k.1))
