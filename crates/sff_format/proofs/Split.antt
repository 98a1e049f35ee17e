-- A file splits at each read into what stands before it, its sections and what stands after; its place is a sum of
-- sizes, and front and back stay where another read comes in its place. Assumes nothing.
use Prim.Native.Nat.{ℕ, suc, ◌+◌, ◌-◌, ◌≤◌, ◌<◌}
use mathlib.Core.Path.{◌≡◌, refl, sym, ap, ◌∙◌}
use mathlib.Core.Bool.{Bool, true, false, cond}
use mathlib.Core.Logic.{◌⊎◌, ⊎_elim}
use mathlib.Core.List.{List, [], ◌∷◌, ◌++◌, append_assoc, append-nil}
use native.Mathlib.Omega.{arith}
use lib.ListN.{length, take, drop, length-append, length-take, length-drop, take-append-drop}
use lib.Seq.{take-take, take-suc, drop-cons}
use lib.Dec.{leb}
use borrow.Author.Tests.{leb-true, leb-false, le-leb, lt-leb}
use Rattle.octets.specs.Parts.{put_at, insert_at}
use Rattle.octets.specs.Numbers.{bytes_of}
use Rattle.octets.proofs.Inserts.{insert_zero, insert-left, insert_right, length-insert}
use Rattle.sff_format.specs.Model.{Read, Index, File, no_index, layout_read, layout_reads, layout_header, layout_index, layout, with_reads}
use Rattle.sff_format.specs.Rules.{declared}
use Rattle.sff_format.specs.Valid.{Valid}
use Rattle.sff_format.specs.Places.{no_read, read_at, replaced, place}
use Rattle.sff_format.proofs.Sizes.{layout_none}
use Rattle.sff_format.proofs.Appended.{reads-append, header_same, with_laid}
use Rattle.sff_format.proofs.Boundaries.{undeclared}
use Rattle.sff_format.proofs.FileTaken.{front_le, read_some}

-- more reads, more bytes
front_mono : (k i : ℕ) (rs : List Read) → k ≤ i → length (layout_reads (take k rs)) ≤ length (layout_reads (take i rs))
front_mono k i rs h = rw (take-take k i rs h) at (front_le k (take i rs))

pub record Split (f : File) (i : ℕ) : Type 0 where
  pub front : List ℕ
  pub back : List ℕ
  pub size : length front ≡ place f i
  pub is : layout f ≡ front ++ (layout_read (read_at f i) ++ back)
  -- a read of the same size in its place, or any where there is no index
  pub changed : (r : Read) → (length (layout_read r) ≡ length (layout_read (read_at f i))) ⊎ (f.index ≡ no_index)
      → layout (with_reads (replaced i (r ∷ []) f.reads) f) ≡ front ++ (layout_read r ++ back)
  -- the read left out
  pub gone : f.index ≡ no_index → layout (with_reads (replaced i [] f.reads) f) ≡ put_at 20 (bytes_of 4 (length (replaced i [] f.reads))) (front ++ back)

module _ (f : File) (i : ℕ) (h : i < length f.reads) where
  -- the header and the reads before read i, that read, and those after it
  ahead : List ℕ
  ahead = layout_header f ++ layout_reads (take i f.reads)

  own : List ℕ
  own = layout_read (read_at f i)

  after : List ℕ
  after = layout_reads (drop (suc i) f.reads)

  off : ℕ
  off = f.index.offset

  index-bytes : List ℕ
  index-bytes = layout_index f.index

  reads_split : layout_reads f.reads ≡ layout_reads (take i f.reads) ++ (own ++ after)
  unfolding layout_reads own after
  reads_split =
      let e : take i f.reads ++ drop i f.reads ≡ f.reads = take-append-drop i f.reads in
      ap layout_reads (sym e) ∙ reads-append (take i f.reads) (drop i f.reads) ∙ rw (drop-cons f.reads i no_read)

  is_layout : layout f ≡ insert_at off index-bytes (ahead ++ (own ++ after))
  unfolding layout off index-bytes ahead
  is_layout = rw (reads_split, append_assoc)

  -- the reads with others in its place
  replaced_laid : (ws : List Read) → layout_reads (replaced i ws f.reads) ≡ layout_reads (take i f.reads) ++ (layout_reads ws ++ after)
  unfolding after
  replaced_laid ws = rw (reads-append (take i f.reads ++ ws) (drop (suc i) f.reads), reads-append (take i f.reads) ws, append_assoc)

  changed_laid : (r : Read) → layout_header (with_reads (replaced i (r ∷ []) f.reads) f) ++ layout_reads (replaced i (r ∷ []) f.reads) ≡ ahead ++ (layout_read r ++ after)
  unfolding layout_reads ahead
  changed_laid r =
      let n : length (replaced i (r ∷ []) f.reads) ≡ length f.reads = simp (length-append, length-take, length-drop) (omega arith) in
      rw (header_same f (replaced i (r ∷ []) f.reads) n, replaced_laid (r ∷ []), append-nil (layout_read r)) (sym (append_assoc (layout_header f) _ _))

  changed_layout : (r : Read) → layout (with_reads (replaced i (r ∷ []) f.reads) f) ≡ insert_at off index-bytes (ahead ++ (layout_read r ++ after))
  unfolding layout off index-bytes
  changed_layout r = rw (changed_laid r)

  -- none is declared
  no_offset : f.index ≡ no_index → off ≡ 0
  unfolding off
  no_offset e = ap (λ (x : Index). x.offset) e

  no_bytes : f.index ≡ no_index → index-bytes ≡ []
  unfolding index-bytes
  no_bytes e = ap layout_index e ∙ layout_none

  gone_laid : layout_header f ++ layout_reads (replaced i [] f.reads) ≡ ahead ++ after
  unfolding layout_reads ahead
  gone_laid = rw (replaced_laid []) (sym (append_assoc (layout_header f) _ _))

  gone_layout : f.index ≡ no_index → layout (with_reads (replaced i [] f.reads) f)
      ≡ put_at 20 (bytes_of 4 (length (replaced i [] f.reads))) (insert_at off index-bytes ahead ++ after)
  gone_layout e = with_laid f (replaced i [] f.reads) e ∙ rw (gone_laid, no_offset e, no_bytes e, insert_zero)

  place_is : place f i ≡ length ahead + cond (leb off (length ahead)) (length index-bytes) 0
  unfolding place off index-bytes ahead
  place_is = rw length-append

  -- the index stands before read i, or there is none
  early : off ≤ length ahead → Split f i
  unfolding own
  early l = record {
    front = insert_at off index-bytes ahead;
    back = after;
    size = length-insert off index-bytes ahead ∙ rw (place_is, le-leb off (length ahead) l);
    is = is_layout ∙ insert-left off ahead index-bytes (own ++ after) l;
    changed = λ r s. changed_layout r ∙ insert-left off ahead index-bytes (layout_read r ++ after) l;
    gone = gone_layout;
  }

  none : declared f.index.offset (length f.index.bytes) ≡ false → off ≤ length ahead
  unfolding off
  none d = let u = undeclared f.index.offset (length f.index.bytes) d in let o : f.index.offset ≡ 0 = u.0 in omega arith

  before : (k : ℕ) → k ≤ i → f.index.offset ≡ length (layout_header f) + length (layout_reads (take k f.reads)) → off ≤ length ahead
  unfolding ahead off
  before k l m = let g = front_mono k i f.reads l in rw length-append (omega arith)

  behind : (k : ℕ) → i < k → f.index.offset ≡ length (layout_header f) + length (layout_reads (take k f.reads)) → length ahead + length own ≤ off
  unfolding ahead own off layout_reads
  behind k l m =
      let g : length (layout_reads (take (suc i) f.reads)) ≤ length (layout_reads (take k f.reads)) = front_mono (suc i) k f.reads l in
      let e : length (layout_reads (take (suc i) f.reads)) ≡ length (layout_reads (take i f.reads)) + length (layout_read (read_at f i)) =
      rw (take-suc f.reads i no_read h, reads-append, length-append, append-nil) in
      rw length-append (omega arith)

  -- the index stands after read i
  late : length ahead + length own ≤ off → Split f i
  unfolding own
  late l =
      let n : ℕ = off - (length ahead + length own) in
      let some : 16 ≤ length own = read_some (read_at f i) in
      let o : off ≡ length ahead + (length own + n) = omega arith in
      let laid : (r : Read) → length (layout_read r) ≡ length own → insert_at off index-bytes (ahead ++ (layout_read r ++ after)) ≡ ahead ++ (layout_read r ++ insert_at n index-bytes after) = λ r e.
      ap (λ (m : ℕ). insert_at m index-bytes (ahead ++ (layout_read r ++ after))) (o ∙ ap (λ (m : ℕ). length ahead + (m + n)) (sym e))
      ∙ insert_right (length (layout_read r) + n) ahead index-bytes (layout_read r ++ after) ∙ ap (λ (l : List ℕ). ahead ++ l) (insert_right n (layout_read r) index-bytes after) in
      record {
        front = ahead;
        back = insert_at n index-bytes after;
        size = rw (place_is, lt-leb off (length ahead) (omega arith)) (omega arith);
        is = is_layout ∙ laid (read_at f i) refl;
        changed = λ r s. changed_layout r ∙ ⊎_elim (λ e. laid r e) (λ e. let z = no_offset e in absurd (omega arith)) s;
        gone = λ e. let z = no_offset e in absurd (omega arith);
      }

  -- the boundary that the index meets is at or before read i, or after it
  pub split : Valid f → Split f i
  split v = whole (declared f.index.offset (length f.index.bytes)) refl
    where
      at : (k : ℕ) (t : Bool) → leb k i ≡ t → f.index.offset ≡ length (layout_header f) + length (layout_reads (take k f.reads)) → Split f i
      at k true e m = early (before k (leb-true k i e) m)
      at k false e m = late (behind k (leb-false k i e) m)

      whole : (t : Bool) → declared f.index.offset (length f.index.bytes) ≡ t → Split f i
      whole true d = let m = v.index_met d in at m.0 (leb m.0 i) refl m.1
      whole false d = early (none d)
