-- How long a file is with the read of a correction changed or left out, whether it has an index or none. Assumes
-- nothing.
use Prim.Native.Nat.{ℕ, ◌+◌, ◌≤◌, ◌<◌}
use mathlib.Core.Path.{◌≡◌, refl, sym, ap, ◌∙◌}
use mathlib.Core.List.{List, [], ◌∷◌, append-nil}
use native.Mathlib.Omega.{arith}
use lib.ListN.{length, length-append}
use Rattle.octets.specs.Parts.{up8}
use Rattle.sff_format.specs.Model.{Read, File, layout_read_header, layout_read_data, layout_read, layout_reads, layout}
use Rattle.sff_format.proofs.Sizes.{length_head, length_header, length-layout, length-replaced}
use Rattle.correction_format.specs.Correction.{Change, clips, rename, remove, Correction}
use Rattle.correction_format.specs.Edit.{clipped, renamed, replacement, target, edited}
use Rattle.correction_format.proofs.Edited.{clipped-size}

-- a new name changes the header section alone
renamed_data : (name : List ℕ) (x : Read) → layout_read_data (renamed name x) ≡ layout_read_data x
unfolding layout_read_data
renamed_data name x = refl

renamed-length : (name : List ℕ) (x : Read) → length (layout_read (renamed name x)) + up8 (16 + length x.name) ≡ length (layout_read x) + up8 (16 + length name)
unfolding layout_read
renamed-length name x =
    let a = length-append (layout_read_header (renamed name x)) (layout_read_data (renamed name x)) in
    let b = length-append (layout_read_header x) (layout_read_data x) in
    omega (arith, a, b, length_head (renamed name x), length_head x, ap length (renamed_data name x))

one_read : (x : Read) → length (layout_reads (x ∷ [])) ≡ length (layout_read x)
unfolding layout_reads
one_read x = ap length (append-nil (layout_read x))

module _ (c : Correction) (f : File) (h : c.position < length f.reads) where
  -- the read goes, and what comes instead of it comes
  pub edited-length : length (layout (edited c f)) + length (layout_read (target c f)) ≡ length (layout f) + length (layout_reads (replacement c.change (target c f)))
  unfolding edited
  edited-length =
      let a = length-layout (edited c f) in
      let b = length-layout f in
      let d = length-replaced c.position (replacement c.change (target c f)) f.reads h in
      let n = length_header (edited c f) ∙ sym (length_header f) in
      omega (arith, a, b, d, n)

  -- what comes, by the change
  comes : (x : Change) → c.change ≡ x → length (layout_reads (replacement c.change (target c f))) ≡ length (layout_reads (replacement x (target c f)))
  comes x k = ap (λ (y : Change). length (layout_reads (replacement y (target c f)))) k

  pub clips-size : (p q s t : ℕ) → c.change ≡ clips p q s t → length (layout (edited c f)) ≡ length (layout f)
  unfolding replacement
  clips-size p q s t k =
      let n = comes (clips p q s t) k ∙ one_read (clipped p q s t (target c f)) in
      omega (arith, edited-length, n, clipped-size p q s t (target c f))

  pub name-size : (name : List ℕ) → c.change ≡ rename name → length (layout (edited c f)) + up8 (16 + length (target c f).name) ≡ length (layout f) + up8 (16 + length name)
  unfolding replacement
  name-size name k =
      let n = comes (rename name) k ∙ one_read (renamed name (target c f)) in
      omega (arith, edited-length, n, renamed-length name (target c f))

  pub none_size : c.change ≡ remove → length (layout (edited c f)) ≤ length (layout f)
  unfolding replacement layout_reads
  none_size k = let n : length (layout_reads (replacement c.change (target c f))) ≡ 0 = comes remove k in omega (arith, edited-length, n)
