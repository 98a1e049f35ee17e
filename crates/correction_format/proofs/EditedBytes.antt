-- In a corrected file every other read's sections keep their bytes and their order. Assumes nothing.
use Prim.Native.Nat.{ℕ, ◌+◌, ◌<◌}
use mathlib.Core.Path.{◌≡◌, refl, sym, ap, ◌∙◌}
use mathlib.Core.Bool.{false}
use mathlib.Core.Logic.{inl, inr}
use mathlib.Core.List.{List, [], ◌∷◌, ◌++◌, append-nil}
use native.Mathlib.Omega.{arith}
use lib.ListN.{length, take, drop}
use Rattle.octets.specs.Parts.{put_at}
use Rattle.octets.specs.Numbers.{Bytes, bytes_of}
use Rattle.octets.proofs.Lists.{put_same}
use Rattle.octets.proofs.Digits.{put_get}
use Rattle.answers.specs.Answer.{Accepted}
use Rattle.sff_format.specs.Model.{Read, File, no_index, layout_read, layout_reads, layout}
use Rattle.sff_format.specs.Valid.{Valid}
use Rattle.sff_format.specs.HeaderTest.{read_count}
use Rattle.sff_format.specs.FileTest.{file_test}
use Rattle.sff_format.specs.Parse.{parse}
use Rattle.sff_format.specs.Places.{read_place}
use Rattle.sff_format.proofs.HeaderLaws.{fits_31, count_is}
use Rattle.sff_format.proofs.FileLaid.{head_ok, reads-counted, file_valid}
use Rattle.sff_format.proofs.FileTaken.{header_first, file_taken}
use Rattle.sff_format.proofs.Written.{layout-bytes}
use Rattle.sff_format.proofs.Places.{read_changed, read_gone}
use Rattle.correction_format.specs.Correction.{Change, clips, rename, remove, Correction, is_clips, ValidCorrection}
use Rattle.correction_format.specs.Edit.{clipped, renamed, replacement, target, edited}
use Rattle.correction_format.specs.Reasons.{reasons}
use Rattle.correction_format.proofs.Edited.{clipped-size, reasons-position, reasons-index, edited_valid}

-- a file that keeps the rules says its own count
counted : (f : File) → Valid f → put_at 20 (bytes_of 4 (length f.reads)) (layout f) ≡ layout f
counted f v =
    let y = layout-bytes f v in
    let h = fits_31 (layout f) (head_ok (layout f) (file_taken f v)) in
    let n : read_count (layout f) ≡ length f.reads = count_is (layout f) f v (header_first f v) in
    ap (λ (m : ℕ). put_at 20 (bytes_of 4 m) (layout f)) (sym n) ∙ put_get 4 20 20 (layout f) (layout f) (omega arith) y ∙ put_same 20 4 (layout f) (omega arith)

module _ (room : ℕ) (c : Correction) (b : List ℕ) (y : Bytes b) (e : file_test b ≡ Accepted) (w : ValidCorrection c) (o : reasons room c (parse b) ≡ Accepted) where
  below : c.position < read_count b
  below = rw (reads-counted b) at (reasons-position room c (parse b) o)

  abbrev p : ℕ
  p = read_place b c.position

  abbrev x : Read
  x = target c (parse b)

  abbrev back : List ℕ
  back = drop (p + length (layout_read x)) b

  -- the same position with any change
  abbrev with : Change → Correction
  with k = record { position = c.position; old_name = c.old_name; change = k }

  abbrev Kept : Change → Type 0
  Kept k = layout (edited (with k) (parse b)) ≡ put_at 20 (bytes_of 4 (length (edited (with k) (parse b)).reads)) (take p b ++ (layout_reads (replacement k x) ++ back))

  -- one read in the place of another
  one : (k : Change) (r : Read) → Valid (edited (with k) (parse b)) → layout (edited (with k) (parse b)) ≡ take p b ++ (layout_read r ++ back) → replacement k x ≡ r ∷ [] → Kept k
  unfolding layout_reads
  one k r v l i = sym (counted (edited (with k) (parse b)) v) ∙ ap (put_at 20 (bytes_of 4 (length (edited (with k) (parse b)).reads))) (l ∙ rw (i, append-nil (layout_read r)))

  kept : (k : Change) → Valid (edited (with k) (parse b)) → (is_clips k ≡ false → (parse b).index ≡ no_index) → Kept k
  unfolding layout_reads replacement edited
  kept (clips s t u z) v i = one (clips s t u z) (clipped s t u z x) v (read_changed b y e c.position below (clipped s t u z x) (inl (clipped-size s t u z x))) refl
  kept (rename name) v i = one (rename name) (renamed name x) v (read_changed b y e c.position below (renamed name x) (inr (i refl))) refl
  kept remove v i = read_gone b y e c.position below (i refl)

  pub sections_kept : layout (edited c (parse b)) ≡ put_at 20 (bytes_of 4 (length (edited c (parse b)).reads)) (take p b ++ (layout_reads (replacement c.change x) ++ back))
  sections_kept = kept c.change (edited_valid room c (parse b) o w (file_valid b y e)) (reasons-index room c (parse b) o)
