-- How long the layouts are. Assumes nothing.
use Prim.Native.Nat.{ℕ, suc, ◌+◌, ◌*◌, ◌≤◌, ◌<◌}
use mathlib.Core.Path.{◌≡◌, refl, sym, ap, ◌∙◌}
use mathlib.Core.List.{List, [], ◌∷◌, ◌++◌}
use native.Mathlib.Omega.{arith}
use lib.ListN.{length, take, drop, get_or, length-append, length-replicate, take-append-drop}
use lib.Seq.{drop-cons}
use Rattle.octets.specs.Parts.{up8, filled}
use Rattle.sff_format.specs.Model.{Read, Index, File, no_index, layout_index, read_fields, header_fields, layout_read_header, layout_read_data, layout_read, layout_reads, layout_header, layout}
use Rattle.sff_format.specs.Places.{no_read, replaced}
use Rattle.sff_format.specs.Rules.{index_size}
use Rattle.octets.proofs.Inserts.{length-insert}
use Rattle.octets.proofs.Stands.{length-filled, length_fields_lem, length_units}

pub length_head : (r : Read) → length (layout_read_header r) ≡ up8 (16 + length r.name)
unfolding layout_read_header read_fields filled
length_head r = simp (length-append, length-replicate, length_fields_lem) (omega arith)

pub length_data : (r : Read) → length (layout_read_data r) ≡ up8 (2 * length r.values + length r.increments + length r.bases + length r.qualities)
unfolding layout_read_data filled
length_data r = simp (length-append, length-replicate, length_units) (omega arith)

pub length_header : (f : File) → length (layout_header f) ≡ up8 (31 + length f.flow_characters + length f.key)
unfolding layout_header header_fields filled
length_header f = simp (length-append, length-replicate, length_fields_lem) (omega arith)

-- all that the laws know of `index_size`: no bytes for none, room for the stated length, and little more
pub size_none : index_size 0 ≡ 0
unfolding index_size
size_none = refl

pub size-least : (n : ℕ) → n ≤ index_size n
unfolding index_size
size-least n = omega arith

pub size-most : (n : ℕ) → index_size n ≤ n + 7
unfolding index_size
size-most n = omega arith

-- an absent index has no bytes
pub layout_empty : (x : Index) → x.bytes ≡ [] → layout_index x ≡ []
unfolding layout_index filled
layout_empty x e = rw (e, size_none)

pub layout_none : layout_index no_index ≡ []
layout_none = layout_empty no_index refl

-- an index occupies what its length says
pub length-index : (x : Index) → length (layout_index x) ≡ index_size (length x.bytes)
unfolding layout_index
length-index x = length-filled (index_size (length x.bytes)) x.bytes (size-least (length x.bytes))

-- a file's length is that of its parts, wherever its index stands
pub length-layout : (f : File) → length (layout f) ≡ length (layout_header f) + length (layout_reads f.reads) + length (layout_index f.index)
unfolding layout
length-layout f = length-insert f.index.offset (layout_index f.index) (layout_header f ++ layout_reads f.reads) ∙ rw length-append

length-reads : (us ws : List Read) → length (layout_reads (us ++ ws)) ≡ length (layout_reads us) + length (layout_reads ws)
unfolding layout_reads
length-reads [] ws = omega arith
length-reads (u ∷ us) ws = rw (length-append, length-append, length-reads us ws) (omega arith)

-- reads in the place of one
pub length-replaced : (i : ℕ) (ws rs : List Read) → i < length rs
    → length (layout_reads (replaced i ws rs)) + length (layout_read (get_or rs i no_read)) ≡ length (layout_reads rs) + length (layout_reads ws)
unfolding layout_reads
length-replaced i ws rs h =
    let x = get_or rs i no_read in
    let d : drop i rs ≡ x ∷ drop (suc i) rs = drop-cons rs i no_read h in
    let a = length-reads (take i rs ++ ws) (drop (suc i) rs) in
    let b = length-reads (take i rs) ws in
    let c = length-append (layout_read x) (layout_reads (drop (suc i) rs)) in
    let e : length (layout_reads rs) ≡ length (layout_reads (take i rs)) + length (layout_reads (x ∷ drop (suc i) rs)) =
    ap (λ (us : List Read). length (layout_reads us)) (sym (take-append-drop i rs)) ∙ length-reads (take i rs) (drop i rs) ∙ rw d in
    omega (arith, a, b, c, e)
