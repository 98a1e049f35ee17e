-- A listing has at most seven bytes for each byte of an accepted file, and a refusal has a short line. Assumes nothing.
use Prim.Native.Nat.{ℕ, suc, ◌+◌, ◌*◌, ◌≤◌}
use mathlib.Core.Path.{◌≡◌, refl, ap}
use mathlib.Core.List.{List, [], ◌∷◌}
use native.Mathlib.Omega.{arith}
use lib.ListN.{length, length-append, length-take, length-drop}
use Rattle.octets.specs.Parts.{insert_at}
use Rattle.octets.specs.Numbers.{Bytes}
use Rattle.answers.specs.Answer.{Answer, Accepted, Refused}
use Rattle.sff_format.specs.Model.{Read, File, layout_read, layout_reads, layout_header, layout}
use Rattle.sff_format.specs.FileTest.{file_test}
use Rattle.sff_format.specs.Parse.{parse}
use Rattle.sff_format.specs.Insert.{insert_first, insert_last, insert_of}
use Rattle.sff_format.proofs.Sizes.{length_header, length_head, length_data}
use Rattle.sff_format.proofs.FileLaid.{file_laid}
use Rattle.sff_format.proofs.Inserted.{insert-most}
use Rattle.lines.specs.Lines.{answered}
use Rattle.lines.proofs.Lengths.{header_line_short, read_line_short, refusal_line_short}
use Rattle.lister_text.specs.Listing.{line_of, lines_from, file_lines, listing, enough}

line_short : (i : ℕ) (r : Read) → length (line_of i r) ≤ 7 * length (layout_read r)
unfolding layout_read
line_short i r =
    let l = read_line_short i r.name (length r.bases) (insert_first r) (insert_last r) (insert_of r r.bases) in
    let n = insert-most r r.bases in
    let h = length_head r in
    let d = length_data r in
    rw length-append (omega arith)

lines_short : (i : ℕ) (rs : List Read) → length (lines_from i rs) ≤ 7 * length (layout_reads rs)
unfolding lines_from layout_reads
lines_short i [] = omega arith
lines_short i (r ∷ rs) = let l = line_short i r in let m = lines_short (suc i) rs in rw (length-append, length-append) (omega arith)

-- the index adds no line
layout-least : (f : File) → length (layout_header f) + length (layout_reads f.reads) ≤ length (layout f)
unfolding layout insert_at
layout-least f = simp (length-append, length-take, length-drop) (omega arith)

file_short : (f : File) → length (file_lines f) ≤ 7 * length (layout f)
unfolding file_lines
file_short f =
    let h = header_line_short (length f.flow_characters) f.key (length f.reads) in
    let s = length_header f in
    let l = lines_short 0 f.reads in
    let a = layout-least f in
    rw length-append (omega arith)

pub listing_short : (b : List ℕ) → Bytes b → length (listing b) ≤ enough (length b)
unfolding listing answered
listing_short b y = go (file_test b) refl
  where
    go : (a : Answer) → file_test b ≡ a → length (answered a (file_lines (parse b))) ≤ 7 * length b + 64
    go Accepted e = let s = file_short (parse b) in let t = file_laid b y e in omega (arith, ap length t)
    go (Refused n p) e = let s = refusal_line_short n p in omega arith
