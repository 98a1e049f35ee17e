-- What a correction for which no reason holds makes of a file: it keeps the rules, it fits, and the place of its read
-- stays. Assumes nothing.
use Prim.Native.Nat.{ℕ, ◌≤◌, ◌<◌}
use mathlib.Core.Path.{◌≡◌, refl, sym, ap, ◌∙◌}
use mathlib.Core.Bool.{Bool, true, false, not, ◌&&◌, true≢false}
use mathlib.Core.Logic.{inl, inr}
use mathlib.Core.List.{List, append_assoc}
use native.Mathlib.Omega.{arith}
use lib.ListN.{length, take, length-append}
use lib.Seq.{length-take-le, take_at}
use borrow.Author.Tests.{ltb-true, ltb-false, not-false}
use Rattle.answers.specs.Answer.{Answer, Accepted, Refused, accepted_or}
use Rattle.answers.proofs.Answers.{first-ok, second-ok, under_ok}
use Rattle.answers.proofs.Rows.{NoneOf, none_of}
use Rattle.sff_format.specs.Model.{Read, File, no_index, layout_read_header, layout_read_data, layout_read, layout_header, layout}
use Rattle.sff_format.specs.Valid.{ValidRead, Valid}
use Rattle.sff_format.specs.ReadTest.{clip_test}
use Rattle.sff_format.specs.Places.{replaced, place}
use Rattle.sff_format.proofs.Sizes.{length_head, length_header}
use Rattle.sff_format.proofs.Keeps.{no_index_lem, valid_at, valid_changed, valid_gone}
use Rattle.correction_format.specs.Correction.{Change, clips, rename, remove, Correction, is_clips, ValidName, ValidChange, ValidCorrection}
use Rattle.correction_format.specs.Edit.{clipped, renamed, replacement, target, edited}
use Rattle.correction_format.specs.Reasons.{has_target, clips_above, position_above, index_present, clip_above, no_room, reason_rows, reasons}

-- new clips do not change the size of a read
module _ (a b c d : ℕ) (x : Read) where
  clipped_data : layout_read_data (clipped a b c d x) ≡ layout_read_data x
  unfolding layout_read_data
  clipped_data = refl

  pub clipped-size : length (layout_read (clipped a b c d x)) ≡ length (layout_read x)
  unfolding layout_read
  clipped-size =
      let m = length-append (layout_read_header (clipped a b c d x)) (layout_read_data (clipped a b c d x)) in
      let n = length-append (layout_read_header x) (layout_read_data x) in
      omega (arith, m, n, length_head (clipped a b c d x), length_head x, ap length clipped_data)

-- what no reason tells
and_second : (s t : Bool) → (s && t) ≡ false → s ≡ true → t ≡ false
and_second s t e k = rw k at e

module _ (room : ℕ) (c : Correction) (f : File) (e : reasons room c f ≡ Accepted) where
  none : NoneOf (reason_rows room c f)
  unfolding reasons
  none = none_of (reason_rows room c f) e

  there : has_target c f ≡ true
  unfolding position_above
  there = not-false _ none.0

  pub reasons-position : c.position < length f.reads
  reasons-position = ltb-true _ _ there

  pub reasons-index : is_clips c.change ≡ false → f.index ≡ no_index
  unfolding index_present
  reasons-index k = no_index_lem f (and_second (not (is_clips c.change)) _ none.1.1.0 (ap not k))

  pub reasons-clips : clips_above (length (target c f).bases) c.change ≡ false
  unfolding clip_above
  reasons-clips = and_second (has_target c f) _ none.1.1.1.0 there

  pub reasons_room : length (layout (edited c f)) ≤ room
  unfolding no_room
  reasons_room = ltb-false _ _ (and_second (has_target c f) _ none.1.1.1.1.1.0 there)

-- clips that 23 does not refuse are those that 9 does not
pub clips_low : (n a b c d : ℕ) → clips_above n (clips a b c d) ≡ false → clip_test 0 n a b c d ≡ Accepted
unfolding clips_above accepted_or
clips_low n a b c d e = go (clip_test 0 n a b c d) e
  where
    go : (t : Answer) → accepted_or t false true ≡ false → t ≡ Accepted
    go Accepted h = refl
    go (Refused m p) h = absurd (true≢false h)

module _ (characters : List ℕ) (x : Read) (v : ValidRead characters x) where
  clipped_valid : (a b c d : ℕ) → ValidChange (clips a b c d) → clips_above (length x.bases) (clips a b c d) ≡ false → ValidRead characters (clipped a b c d x)
  unfolding clip_test
  clipped_valid a b c d w h =
      let t = clips_low (length x.bases) a b c d h in
      record {
        name_good = v.name_good;
        name_fits = v.name_fits;
        bases_fit = v.bases_fit;
        clips_fit = w;
        quality_left_good = under_ok _ _ _ _ (first-ok _ _ t);
        quality_right_good = under_ok _ _ _ _ (first-ok _ _ (second-ok _ _ t));
        adapter_left_good = under_ok _ _ _ _ (first-ok _ _ (second-ok _ _ (second-ok _ _ t)));
        adapter_right_good = under_ok _ _ _ _ (second-ok _ _ (second-ok _ _ (second-ok _ _ t)));
        values_count = v.values_count;
        values_fit = v.values_fit;
        increments_count = v.increments_count;
        qualities_count = v.qualities_count;
        walk_good = v.walk_good;
        bases_good = v.bases_good;
        bytes_good = v.bytes_good;
      }

  renamed_valid : (name : List ℕ) → ValidName name → ValidRead characters (renamed name x)
  renamed_valid name w = record {
    name_good = w.good;
    name_fits = let m = w.most in omega arith;
    bases_fit = v.bases_fit;
    clips_fit = v.clips_fit;
    quality_left_good = v.quality_left_good;
    quality_right_good = v.quality_right_good;
    adapter_left_good = v.adapter_left_good;
    adapter_right_good = v.adapter_right_good;
    values_count = v.values_count;
    values_fit = v.values_fit;
    increments_count = v.increments_count;
    qualities_count = v.qualities_count;
    walk_good = v.walk_good;
    bases_good = v.bases_good;
    bytes_good = v.bytes_good;
  }

-- A correction that is carried out leaves a file that keeps the rules.
pub edited_valid : (room : ℕ) (c : Correction) (f : File) → reasons room c f ≡ Accepted → ValidCorrection c → Valid f → Valid (edited c f)
unfolding edited replacement
edited_valid room c f e w v = go c.change w.change_good (reasons-clips room c f e) (reasons-index room c f e)
  where
    h : c.position < length f.reads
    h = reasons-position room c f e

    x : ValidRead f.flow_characters (target c f)
    x = valid_at f.flow_characters f.reads c.position h v.reads_good

    go : (y : Change) → ValidChange y → clips_above (length (target c f).bases) y ≡ false → (is_clips y ≡ false → f.index ≡ no_index)
        → Valid (edited (record { position = c.position; old_name = c.old_name; change = y }) f)
    go (clips a b d k) g l i =
        valid_changed f c.position h v (clipped a b d k (target c f)) (clipped_valid f.flow_characters (target c f) x a b d k g l) (inl (clipped-size a b d k (target c f)))
    go (rename name) g l i = valid_changed f c.position h v (renamed name (target c f)) (renamed_valid f.flow_characters (target c f) x name g) (inr (i refl))
    go remove g l i = valid_gone f c.position h v (i refl)

-- What stands before its read stays, so its place does.
pub place_kept : (c : Correction) (f : File) → c.position ≤ length f.reads → place (edited c f) c.position ≡ place f c.position
unfolding place edited
place_kept c f h =
    let i = c.position in
    let xs = replacement c.change (target c f) in
    let l : length (take i f.reads) ≡ i = length-take-le i f.reads h in
    let t : take i (replaced i xs f.reads) ≡ take i f.reads =
    ap (take i) (append_assoc (take i f.reads) xs _) ∙ take_at (take i f.reads) _ i l in
    let n : length (layout_header (edited c f)) ≡ length (layout_header f) = length_header (edited c f) ∙ sym (length_header f) in
    rw (t, n)
