-- The layout of a file that keeps the rules is accepted, and read back. Assumes nothing.
use Prim.Native.Nat.{ℕ, zero, suc, ◌+◌, ◌-◌, ◌≤◌}
use mathlib.Core.Path.{◌≡◌, refl, sym, ap, ◌∙◌}
use mathlib.Core.Bool.{Bool, true, false}
use mathlib.Core.List.{List, [], ◌∷◌, ◌++◌}
use native.Mathlib.Omega.{arith}
use native.Mathlib.Nat.{zero-add}
use lib.ListN.{length, take, drop, length-append, length-drop}
use Rattle.octets.specs.Parts.{part, filled, insert_at}
use Rattle.answers.specs.Answer.{Accepted, ◌then◌}
use Rattle.sff_format.specs.Model.{Read, Index, File, layout_read, layout_reads, layout_header, layout_index, layout}
use Rattle.sff_format.specs.Rules.{declared, index_size}
use Rattle.sff_format.specs.HeaderTest.{index_offset, index_length, header_length, flows, flow_characters, header_test}
use Rattle.sff_format.specs.ReadTest.{read_test, read_end}
use Rattle.sff_format.specs.FileTest.{index_here, pass_test, end_test, boundary_test, file_test}
use Rattle.sff_format.specs.Parse.{parse_read, parse_reads, parse}
use Rattle.sff_format.specs.Valid.{ValidRead, ValidReads, Valid}
use Rattle.answers.proofs.Answers.{both_ok, ok-when, ok_under}
use Rattle.octets.proofs.Stands.{Stands, stands-fits, stands-left}
use Rattle.sff_format.proofs.Sizes.{length_head, length_header, length-index, layout_empty}
use Rattle.octets.proofs.Inserts.{insert_zero, insert_right, length-insert, insert-stands, drop-stands, drop-rest}
use Rattle.sff_format.proofs.ReadTaken.{read_taken, read_back_lem, read-size}
use Rattle.sff_format.proofs.HeaderLaws.{characters-length, offset_is, index_length_is, count_is, header_length_is, characters_are, key_is, header_taken}
use Rattle.sff_format.proofs.Boundaries.{Done, undeclared, here_done, here_not, here_is, boundary_end, boundary-read, boundary-index, parse_none, parse-read, parse-index}
use Rattle.sff_format.proofs.Indexes.{pass_fits, index_taken}

-- a read has bytes
pub read_some : (r : Read) → 16 ≤ length (layout_read r)
unfolding layout_read
read_some r = let h = length_head r in rw length-append (omega arith)

-- the front of the reads is no longer than all
pub front_le : (k : ℕ) (rs : List Read) → length (layout_reads (take k rs)) ≤ length (layout_reads rs)
unfolding layout_reads
front_le zero rs = omega arith
front_le (suc k) [] = omega arith
front_le (suc k) (r ∷ rs) = let h = front_le k rs in rw (length-append, length-append) (omega arith)

module _ (b : List ℕ) (head : header_test b ≡ Accepted) where
  -- what a boundary gives: it accepts, and reads these
  abbrev Taken : ℕ → Bool → List Read → Type 0
  Taken p q rs = (boundary_test b (length rs) p q ≡ Accepted) × (parse_reads b (length rs) p q ≡ rs)

  end_ok : (p : ℕ) (q : Bool) → Done b q → drop p b ≡ [] → end_test b p q ≡ Accepted
  unfolding end_test
  end_ok p q d e =
      let l : length b - p ≡ 0 = sym (length-drop p b) ∙ ap length e in
      both_ok _ _ (ok-when _ _ _ d) (ok_under p (length b) _ _ (omega arith))

  -- a boundary with no index to pass, at which a read stands
  module _ (r : Read) (rs : List Read) (p : ℕ) (q : Bool) (h : index_here b p q ≡ false) (v : ValidRead (flow_characters b) r) (l : p ≤ length b) (s : Stands p (layout_read r) b) where
    read_next : read_end (flows b) b p ≡ p + length (layout_read r)
    read_next = rw (characters-length b head) at (read-size (flow_characters b) b p r v l s)

    read_on : Taken (p + length (layout_read r)) q rs → Taken p q (r ∷ rs)
    unfolding ◌then◌
    read_on more =
        let t : read_test (flow_characters b) b p ≡ Accepted = read_taken (flow_characters b) b p r v l s in
        let u : parse_read (flows b) b p ≡ r = rw (characters-length b head) at (read_back_lem (flow_characters b) b p r v l s) in
        (rw (boundary-read b p q h (length rs), t, read_next) more.0, rw (parse-read b p q h (length rs), u, read_next, more.1))

  plain_taken : (rs : List Read) (p : ℕ) (q : Bool) → Done b q → ValidReads (flow_characters b) rs → p ≤ length b → drop p b ≡ layout_reads rs → Taken p q rs
  unfolding layout_reads
  plain_taken [] p q d v l e = (rw (boundary_end b p q (here_done b p q d)) (end_ok p q d e), rw (parse_none b p q))
  plain_taken (r ∷ rs) p q d v l e =
      let s : Stands p (layout_read r) b = drop-stands p (layout_read r) (layout_reads rs) b e in
      read_on r rs p q (here_done b p q d) v.0 l s
      (plain_taken rs (p + length (layout_read r)) q d v.1 (stands-fits p (layout_read r) b s l) (drop-rest p (layout_read r) (layout_reads rs) b e))

  -- with the index x to come
  module _ (d : declared (index_offset b) (index_length b) ≡ true) (x : Index) (len : length x.bytes ≡ index_length b) where
    pending_here : (rs : List Read) → ValidReads (flow_characters b) rs → index_offset b ≤ length b → drop (index_offset b) b ≡ layout_index x ++ layout_reads rs → Taken (index_offset b) false rs
    unfolding ◌then◌
    pending_here rs v l e =
        let off = index_offset b in
        let h : index_here b off false ≡ true = here_is b off d refl in
        let s : Stands off (layout_index x) b = drop-stands off (layout_index x) (layout_reads rs) b e in
        let size : length (layout_index x) ≡ index_size (index_length b) = length-index x ∙ ap index_size len in
        let t : pass_test b off ≡ Accepted = index_taken b off x len l s in
        let f : off + index_size (index_length b) ≤ length b = pass_fits b off t in
        let g : drop (off + index_size (index_length b)) b ≡ layout_reads rs = rw size at (drop-rest off (layout_index x) (layout_reads rs) b e) in
        let done : Done b true = rw d in
        let more = plain_taken rs (off + index_size (index_length b)) true done v f g in
        (rw (boundary-index b off false h (length rs), t) more.0, rw (parse-index b off false h (length rs)) more.1)

    here : (rs : List Read) (p : ℕ) → index_offset b ≡ p → ValidReads (flow_characters b) rs → p ≤ length b → drop p b ≡ insert_at (index_offset b - p) (layout_index x) (layout_reads rs) → Taken p false rs
    here rs p m v l e =
        let z : index_offset b - p ≡ 0 = omega arith in
        rw (← m) (pending_here rs v (omega arith) (rw m (e ∙ rw (z, insert_zero))))

    pending_taken : (k : ℕ) (rs : List Read) (p : ℕ) → index_offset b ≡ p + length (layout_reads (take k rs)) → ValidReads (flow_characters b) rs → p ≤ length b
        → drop p b ≡ insert_at (index_offset b - p) (layout_index x) (layout_reads rs) → Taken p false rs
    unfolding layout_reads
    pending_taken zero rs p m v l e = here rs p (omega arith) v l e
    pending_taken (suc k) [] p m v l e = here [] p (omega arith) v l e
    pending_taken (suc k) (r ∷ rs) p m v l e =
        let one : List ℕ = layout_read r in
        let some : 16 ≤ length one = read_some r in
        let w : index_offset b ≡ p + (length one + length (layout_reads (take k rs))) = rw length-append at m in
        let n : p ≡ index_offset b → ⊥ = omega arith in
        let o : index_offset b - p ≡ length one + (index_offset b - (p + length one)) = omega arith in
        let a : drop p b ≡ one ++ insert_at (index_offset b - (p + length one)) (layout_index x) (layout_reads rs) = e ∙ rw (o, insert_right) in
        let s : Stands p one b = drop-stands p one _ b a in
        read_on r rs p false (here_not b p false n) v.0 l s
        (pending_taken k rs (p + length one) (omega arith) v.1 (stands-fits p one b s l) (drop-rest p one _ b a))

module _ (content : File) (v : Valid content) where
  -- what follows the header
  after : Bool → List ℕ
  after true =
      insert_at (content.index.offset - length (layout_header content)) (layout_index content.index)
      (layout_reads content.reads)
  after false = layout_reads content.reads

  record Shape (t : Bool) : Type 0 where
    inside : content.index.offset ≤ length (layout_header content ++ layout_reads content.reads)
    is : layout content ≡ layout_header content ++ after t

  shape : (t : Bool) → declared content.index.offset (length content.index.bytes) ≡ t → Shape t
  unfolding layout after
  shape true d =
      let m = v.index_met d in
      let e = m.1 in
      let g = front_le m.0 content.reads in
      let o : content.index.offset ≡ length (layout_header content) + (content.index.offset - length (layout_header content)) = omega arith in
      record {
        inside = rw length-append (omega arith);
        is = ap (λ (n : ℕ). insert_at n (layout_index content.index) (layout_header content ++ layout_reads content.reads)) o ∙ rw insert_right;
      }
  shape false d =
      let u = undeclared content.index.offset (length content.index.bytes) d in
      let o : content.index.offset ≡ 0 = u.0 in
      let n : content.index.bytes ≡ [] = none content.index.bytes u.1 in
      let x : layout_index content.index ≡ [] = layout_empty content.index n in
      record { inside = rw o (omega arith); is = rw (x, o, insert_zero) }
    where
      none : (l : List ℕ) → length l ≡ 0 → l ≡ []
      none [] e = refl
      none (x ∷ l) e = absurd (omega arith)

  module _ (t : Bool) (d : declared content.index.offset (length content.index.bytes) ≡ t) where
    b : List ℕ
    b = layout content

    split : drop 0 (layout content) ≡ layout_header content ++ after t
    split = (shape t d).is

    header_stands : Stands 0 (layout_header content) (layout content)
    header_stands = drop-stands 0 (layout_header content) (after t) (layout content) split

    header_ok : header_test (layout content) ≡ Accepted
    header_ok = header_taken (layout content) content v header_stands

    size_is : header_length (layout content) ≡ length (layout_header content)
    size_is = header_length_is (layout content) content v header_stands ∙ sym (length_header content)

    rest_is : drop (length (layout_header content)) (layout content) ≡ after t
    rest_is = rw zero-add at (drop-rest 0 (layout_header content) (after t) (layout content) split)

    header_in : length (layout_header content) ≤ length (layout content)
    header_in = rw zero-add at (stands-fits 0 (layout_header content) (layout content) header_stands (omega arith))

    reads_good : ValidReads (flow_characters (layout content)) content.reads
    reads_good = rw (characters_are (layout content) content v header_stands) v.reads_good

    offset : index_offset (layout content) ≡ content.index.offset
    offset = offset_is (layout content) content v header_stands

    index-length : index_length (layout content) ≡ length content.index.bytes
    index-length = index_length_is (layout content) content v header_stands

  sections : (t : Bool) → declared content.index.offset (length content.index.bytes) ≡ t
      → (boundary_test (layout content) (length content.reads) (length (layout_header content)) false ≡ Accepted)
      × (parse_reads (layout content) (length content.reads) (length (layout_header content)) false ≡ content.reads)
  unfolding after
  sections true d =
      let o = offset true d in
      let l = index-length true d in
      pending_taken (layout content) (header_ok true d) (rw (o, l) d) content.index (sym l)
      (v.index_met d).0 content.reads (length (layout_header content)) (o ∙ (v.index_met d).1) (reads_good true d)
      (header_in true d)
      (rw o (rest_is true d))
  sections false d =
      let o = offset false d in
      let l = index-length false d in
      plain_taken (layout content) (header_ok false d) content.reads (length (layout_header content)) false
      (rw (o, l, d)) (reads_good false d) (header_in false d) (rest_is false d)

  t : Bool
  t = declared content.index.offset (length content.index.bytes)

  pub header_first : Stands 0 (layout_header content) (layout content)
  unfolding t
  header_first = header_stands t refl

  -- LAW b: the layout of a file that keeps the rules is accepted
  pub file_taken : file_test (layout content) ≡ Accepted
  unfolding file_test t
  file_taken =
      both_ok _ _ (header_ok t refl)
      (rw (count_is (layout content) content v header_first, size_is t refl) (sections t refl).0)

  index-stands : Stands content.index.offset (layout_index content.index) (layout content)
  unfolding layout t
  index-stands =
      insert-stands content.index.offset (layout_index content.index)
      (layout_header content ++ layout_reads content.reads) (shape t refl).inside

  offset_in : content.index.offset ≤ length (layout content)
  unfolding layout t
  offset_in =
      let i = (shape t refl).inside in
      rw (length-insert content.index.offset (layout_index content.index) (layout_header content ++ layout_reads content.reads)) (omega arith)

  index_back : part (index_offset (layout content)) (index_length (layout content)) (layout content)
      ≡ content.index.bytes
  unfolding layout_index filled
  index_back =
      rw (offset_is (layout content) content v header_first, index_length_is (layout content) content v header_first)
      (stands-left content.index.offset content.index.bytes _ (layout content) offset_in index-stands)

  -- and read back
  pub file-back : parse (layout content) ≡ content
  unfolding parse t
  file-back = rw (
    count_is (layout content) content v header_first,
    size_is t refl,
    (sections t refl).1,
    index_back,
    offset_is (layout content) content v header_first,
    characters_are (layout content) content v header_first,
    key_is (layout content) content v header_first,
  )
