-- What is written afresh is bytes. Assumes nothing.
use Prim.Native.Nat.{ℕ, ◌<◌}
use mathlib.Core.Path.{◌≡◌, refl}
use mathlib.Core.Bool.{Bool, true, false, ◌||◌}
use mathlib.Core.List.{List, [], ◌∷◌, ◌++◌}
use native.Mathlib.Omega.{arith}
use lib.ListN.{length, take, drop}
use lib.Dec.{eqb, leb}
use borrow.Author.Tests.{eqb-true, leb-true}
use Rattle.octets.specs.Parts.{up8, padded, insert_at}
use Rattle.octets.specs.Numbers.{Bytes, fields, words}
use Rattle.octets.specs.Scans.{is_flow_character, is_name_byte}
use Rattle.octets.proofs.AllBytes.{bytes_both, bytes_left, bytes_right, bytes_take, bytes_drop, bytes-fields, bytes_units, bytes-filled, bytes_every}
use Rattle.sff_format.specs.Model.{Read, File, read_fields, header_fields, layout_read_header, layout_read_data, layout_read, layout_reads, layout_header, layout_index, layout}
use Rattle.sff_format.specs.Rules.{index_size}
use Rattle.answers.proofs.Answers.{and_both}
use Rattle.sff_format.specs.Valid.{ValidRead, ValidReads, Valid}

pub name-small : (x : ℕ) → is_name_byte x ≡ true → x < 256
name-small x e = let l = leb-true x 126 (and_both (leb 33 x) (leb x 126) e).1 in omega arith

base_small : (x : ℕ) → is_flow_character x ≡ true → x < 256
base_small x e = go (eqb x 65) (eqb x 67) (eqb x 71) (eqb x 84) refl refl refl refl e
  where
    go : (a b c d : Bool) → eqb x 65 ≡ a → eqb x 67 ≡ b → eqb x 71 ≡ c → eqb x 84 ≡ d → ((a || b) || (c || d)) ≡ true → x < 256
    go true b c d ea eb ec ed t = let l = eqb-true x 65 ea in omega arith
    go false true c d ea eb ec ed t = let l = eqb-true x 67 eb in omega arith
    go false false true d ea eb ec ed t = let l = eqb-true x 71 ec in omega arith
    go false false false true ea eb ec ed t = let l = eqb-true x 84 ed in omega arith
    go false false false false ea eb ec ed t = absurd (let z : ◌≡◌ {A = ℕ} 0 1 = cc in let a : ⊥ = omega arith in a)

padding : (xs : List ℕ) → Bytes xs → Bytes (padded xs)
padding xs a = bytes-filled (up8 (length xs)) xs a

read-bytes : (characters : List ℕ) (r : Read) → ValidRead characters r → Bytes (layout_read r)
unfolding layout_read layout_read_header layout_read_data
read-bytes characters r v =
    let y = v.bytes_good in
    let n : List ℕ = fields (read_fields r) in
    let w : List ℕ = words r.values in
    bytes_both (layout_read_header r) (layout_read_data r)
    (padding (n ++ r.name) (bytes_both n r.name (bytes-fields (read_fields r)) (bytes_every is_name_byte name-small r.name v.name_good)))
    (padding (w ++ r.increments ++ r.bases ++ r.qualities)
    (bytes_both (w ++ r.increments ++ r.bases) r.qualities (bytes_both (w ++ r.increments) r.bases (bytes_both w r.increments (bytes_units 2 r.values) y.0) y.1) y.2))

reads_bytes : (characters : List ℕ) (rs : List Read) → ValidReads characters rs → Bytes (layout_reads rs)
unfolding layout_reads
reads_bytes characters [] v = tt
reads_bytes characters (r ∷ rs) v = bytes_both (layout_read r) (layout_reads rs) (read-bytes characters r v.0) (reads_bytes characters rs v.1)

pub layout-bytes : (f : File) → Valid f → Bytes (layout f)
unfolding layout layout_header layout_index insert_at
layout-bytes f v =
    let c : Bytes (f.flow_characters ++ f.key) = bytes_every is_flow_character base_small (f.flow_characters ++ f.key) v.characters_good in
    let n : List ℕ = fields (header_fields f) in
    let h : Bytes (layout_header f) = padding (n ++ f.flow_characters ++ f.key) (bytes_both (n ++ f.flow_characters) f.key (bytes_both n f.flow_characters (bytes-fields (header_fields f)) (bytes_left f.flow_characters f.key c)) (bytes_right f.flow_characters f.key c)) in
    let l : List ℕ = layout_header f ++ layout_reads f.reads in
    let b : Bytes l = bytes_both (layout_header f) (layout_reads f.reads) h (reads_bytes f.flow_characters f.reads v.reads_good) in
    let x : Bytes (layout_index f.index) = bytes-filled (index_size (length f.index.bytes)) f.index.bytes v.index_fits.2 in
    bytes_both (take f.index.offset l ++ layout_index f.index) (drop f.index.offset l)
    (bytes_both (take f.index.offset l) (layout_index f.index) (bytes_take f.index.offset l b) x) (bytes_drop f.index.offset l b)
