-- What a format says, what the tests of a block's contents tell, and how long its undoing is. Assumes nothing.
use mathlib.Core.Path.{◌≡◌, refl}
use mathlib.Core.Bool.{Bool, true, false, cond}
use mathlib.Core.List.{List}
use Prim.Native.Nat.{ℕ, ◌%◌, ◌<◌, ◌≤◌}
use native.Mathlib.Omega.{arith}
use borrow.Author.Tests.{ltb-false}
use lib.Dec.{eqb}
use lib.ListN.{length}
use Rattle.answers.specs.Answer.{Accepted}
use Rattle.answers.proofs.Answers.{first-ok, second-ok, when-ok, under_ok}
use Rattle.filter_format.specs.declared.Filter.{Filter}
use Rattle.filter_format.specs.declared.Filter.TheVariants.{Raw, Delta, Narrow, Follow, Other}
use Rattle.filter_format.specs.Units.{IsWidth}
use Rattle.filter_format.specs.Narrow.{widen, lacking}
use Rattle.filter_format.specs.Block.{filter_of, HasUnitWidth, header_length, data_at, bad_header, bad_data, decoded, undone, contents_test}
use Rattle.filter_format.proofs.Wholes.{whole_units}
use Rattle.filter_format.proofs.Levels.{length-undelta}
use Rattle.filter_format.proofs.Following.{length-unfollowed}

width : (w : ℕ) → 0 < w → w ≤ 4 → (w ≡ 3 → ⊥) → IsWidth w
width w a b c = (a, b, c)

pub has_unit_width : (format : ℕ) → HasUnitWidth (filter_of format)
unfolding filter_of
has_unit_width format =
    pick (eqb format 0) Raw _ tt
    (
    pick (eqb format 64) (Delta 1) _ (width 1 (omega arith) (omega arith) (λ e. omega arith))
    (
    pick (eqb format 65) (Delta 2) _ (width 2 (omega arith) (omega arith) (λ e. omega arith))
    (
    pick (eqb format 66) (Delta 4) _ (width 4 (omega arith) (omega arith) (λ e. omega arith))
    (
    pick (eqb format 70) (Narrow 2) _ (width 2 (omega arith) (omega arith) (λ e. omega arith), omega arith)
    (
    pick (eqb format 71) (Narrow 4) _ (width 4 (omega arith) (omega arith) (λ e. omega arith), omega arith)
    (pick (eqb format 72) Follow Other tt tt)
    )
    )
    )
    )
    )
  where
    pick : (t : Bool) (f g : Filter) → HasUnitWidth f → HasUnitWidth g → HasUnitWidth (cond t f g)
    pick true f g h k = h
    pick false f g h k = k

-- the tests of the contents, one by one
module _ (f : Filter) (room : ℕ) (b : List ℕ) (ok : contents_test f room b ≡ Accepted) where
  pub header_fits : header_length f ≤ length b
  unfolding contents_test
  header_fits = under_ok _ _ _ _ (first-ok _ _ ok)

  pub header_right : bad_header f b ≡ false
  unfolding contents_test
  header_right = when-ok _ _ _ (first-ok _ _ (second-ok _ _ ok))

  pub data_right : bad_data f (data_at f b) ≡ false
  unfolding contents_test
  data_right = when-ok _ _ _ (first-ok _ _ (second-ok _ _ (second-ok _ _ ok)))

  pub undone-fits : length (undone f b) ≤ room
  unfolding contents_test
  undone-fits = under_ok _ _ _ _ (second-ok _ _ (second-ok _ _ (second-ok _ _ ok)))

-- data of whole units, and without a unit that is cut short
pub whole_data : (w : ℕ) (s : List ℕ) → bad_data (Delta w) s ≡ false → length s % w ≡ 0
unfolding bad_data
whole_data w s e = whole_units w s e

pub none_lacking : (w : ℕ) (s : List ℕ) → bad_data (Narrow w) s ≡ false → lacking w 0 s ≡ 0
unfolding bad_data
none_lacking w s e = let h = ltb-false 0 (lacking w 0 s) e in omega arith

-- how long the data are with their filter undone
module _ (level : ℕ) (follow s : List ℕ) where
  pub length_raw : length (decoded Raw level follow s) ≡ length s
  unfolding decoded
  length_raw = refl

  pub length_delta_undone : (w : ℕ) → IsWidth w → length s % w ≡ 0 → length (decoded (Delta w) level follow s) ≡ length s
  unfolding decoded
  length_delta_undone w k h = length-undelta w k.0 s h level

  pub decoded-narrow : (w : ℕ) → decoded (Narrow w) level follow s ≡ widen w 0 s
  unfolding decoded
  decoded-narrow w = refl

  pub length_follow_undone : length (decoded Follow level follow s) ≡ length s
  unfolding decoded
  length_follow_undone = length-unfollowed follow s
