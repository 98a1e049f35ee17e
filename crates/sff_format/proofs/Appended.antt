-- Another index or other reads change numbers of the header alone; a read appended is its sections at the end, and the
-- count at 20. Assumes nothing.
use Prim.Native.Nat.{ℕ, suc, ◌+◌, ◌-◌}
use mathlib.Core.Path.{◌≡◌, refl, sym, ap, ◌∙◌}
use mathlib.Core.List.{List, [], ◌∷◌, ◌++◌, append_assoc, append-nil}
use lib.ListN.{length, take, drop, replicate, length-append}
use Rattle.octets.specs.Parts.{put_at, up8, filled}
use Rattle.octets.specs.Numbers.{bytes_of, fields}
use Rattle.octets.proofs.Stands.{width, length_fields_lem, field_put}
use Rattle.octets.proofs.Inserts.{insert_zero}
use Rattle.sff_format.specs.Model.{Read, Index, File, no_index, header_fields, layout_read, layout_reads, layout_header, layout, with_reads, with_index}
use Rattle.sff_format.proofs.Sizes.{layout_none}

-- reads one after another
pub reads-append : (us ws : List Read) → layout_reads (us ++ ws) ≡ layout_reads us ++ layout_reads ws
unfolding layout_reads
reads-append [] ws = refl
reads-append (u ∷ us) ws = rw (reads-append us ws, append_assoc)

-- what stands behind the header's numbers: index and reads do not change it
behind : File → List ℕ
behind f = let n = 31 + length f.flow_characters + length f.key in f.flow_characters ++ f.key ++ replicate (up8 n - n) 0

header_is : (f : File) (tail : List ℕ) → layout_header f ++ tail ≡ fields (header_fields f) ++ (behind f ++ tail)
unfolding layout_header filled header_fields behind
header_is f tail =
    let l : length (fields (header_fields f) ++ f.flow_characters ++ f.key) ≡ 31 + length f.flow_characters + length f.key = rw (length-append, length-append, length_fields_lem) in
    rw l (simp append_assoc)

-- one of the numbers changed, the one behind the first k, of w bytes: its bytes are put where it stands
pub header_field : (f : File) (x : Index) (rs : List Read) (k w u v : ℕ) (tail : List ℕ)
    → header_fields f ≡ take k (header_fields f) ++ ((w, u) ∷ drop (suc k) (header_fields f))
    → header_fields (with_index x (with_reads rs f)) ≡ take k (header_fields f) ++ ((w, v) ∷ drop (suc k) (header_fields f))
    → layout_header (with_index x (with_reads rs f)) ++ tail ≡ put_at (width (take k (header_fields f))) (bytes_of w v) (layout_header f ++ tail)
unfolding behind
header_field f x rs k w u v tail old new =
    let with-numbers : List (ℕ × ℕ) → List ℕ = λ ns. fields ns ++ (behind f ++ tail) in
    header_is (with_index x (with_reads rs f)) tail ∙ ap with-numbers new ∙ field_put (take k (header_fields f)) (drop (suc k) (header_fields f)) w u v (behind f ++ tail)
    ∙ ap (put_at (width (take k (header_fields f))) (bytes_of w v)) (ap with-numbers (sym old) ∙ sym (header_is f tail))

-- the count at 20, the index offset at 8 and the index length at 16
pub header_count : (f : File) (rs : List Read) (tail : List ℕ) → layout_header (with_reads rs f) ++ tail ≡ put_at 20 (bytes_of 4 (length rs)) (layout_header f ++ tail)
unfolding header_fields
header_count f rs tail = header_field f f.index rs 4 4 (length f.reads) (length rs) tail refl refl

pub header_index : (f : File) (x : Index) (tail : List ℕ)
    → layout_header (with_index x f) ++ tail ≡ put_at 16 (bytes_of 4 (length x.bytes)) (put_at 8 (bytes_of 8 x.offset) (layout_header f ++ tail))
unfolding header_fields
header_index f x tail =
    let y : Index = record { offset = x.offset; bytes = f.index.bytes } in
    header_field (with_index y f) x f.reads 3 4 (length f.index.bytes) (length x.bytes) tail refl refl
    ∙ ap (put_at 16 (bytes_of 4 (length x.bytes))) (header_field f y f.reads 2 8 f.index.offset x.offset tail refl refl)

-- as many reads, the same header
pub header_same : (f : File) (rs : List Read) → length rs ≡ length f.reads → layout_header (with_reads rs f) ≡ layout_header f
unfolding layout_header header_fields
header_same f rs e = rw e

-- a file with no index
pub layout-plain : (f : File) → f.index ≡ no_index → layout f ≡ layout_header f ++ layout_reads f.reads
unfolding layout
layout-plain f e = rw (e, layout_none, insert_zero)

pub with_laid : (f : File) (rs : List Read) → f.index ≡ no_index → layout (with_reads rs f) ≡ put_at 20 (bytes_of 4 (length rs)) (layout_header f ++ layout_reads rs)
with_laid f rs e = layout-plain (with_reads rs f) e ∙ header_count f rs (layout_reads rs)

pub appended : (f : File) (r : Read) → f.index ≡ no_index
    → layout (with_reads (f.reads ++ (r ∷ [])) f) ≡ put_at 20 (bytes_of 4 (length f.reads + 1)) (layout f ++ layout_read r)
unfolding layout_reads
appended f r e =
    let l : length (f.reads ++ (r ∷ [])) ≡ length f.reads + 1 = length-append f.reads (r ∷ []) in
    with_laid f (f.reads ++ (r ∷ [])) e ∙ rw (l, reads-append f.reads (r ∷ []), append-nil, layout-plain f e) (rw append_assoc)
