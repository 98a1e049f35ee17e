-- An accepted file is the layout of what it says, and what it says keeps the rules. Assumes nothing.
use Prim.Native.Nat.{ℕ, zero, suc, ◌+◌, ◌-◌, ◌≤◌}
use mathlib.Core.Path.{◌≡◌, refl, sym, ap, ◌∙◌}
use mathlib.Core.Bool.{Bool, true, false, ◌&&◌}
use mathlib.Core.List.{List, [], ◌++◌}
use native.Mathlib.Omega.{arith}
use native.Mathlib.Nat.{zero-add}
use lib.ListN.{length, take, drop, length-append, drop_of_length-le, take-append-drop}
use lib.Seq.{drop-drop}
use lib.Dec.{eqb}
use borrow.Author.Tests.{eqb-true, eqb-false}
use Rattle.octets.specs.Parts.{part, insert_at}
use Rattle.octets.specs.Numbers.{Bytes}
use Rattle.octets.proofs.AllBytes.{bytes-part}
use Rattle.answers.specs.Answer.{Accepted, ◌then◌}
use Rattle.sff_format.specs.Model.{Read, no_index, layout_read, layout_reads, layout_header, layout_index, layout}
use Rattle.sff_format.specs.Rules.{declared, index_size}
use Rattle.sff_format.specs.HeaderTest.{index_offset, index_length, read_count, header_length, key_length, flows, flow_characters, header_test}
use Rattle.sff_format.specs.ReadTest.{read_test, read_end}
use Rattle.sff_format.specs.FileTest.{index_here, pass_test, end_test, boundary_test, file_test}
use Rattle.sff_format.specs.Parse.{parse_read, parse_reads, parse}
use Rattle.sff_format.specs.Valid.{ValidRead, ValidReads, Valid}
use Rattle.answers.proofs.Answers.{first-ok, second-ok, when-ok, under_ok}
use Rattle.octets.proofs.Stands.{Stands, number_small, stands-fits}
use Rattle.sff_format.proofs.Sizes.{length_header, layout_none}
use Rattle.sff_format.proofs.Indexes.{index_of, pass_fits, index-length, index_laid, index_taken}
use Rattle.octets.proofs.Inserts.{insert_zero, insert_right, stands-drop}
use Rattle.sff_format.proofs.ReadLaid.{read_laid, read_ends, read_valid}
use Rattle.sff_format.proofs.HeaderLaws.{fits_31, header_fits, header_sized, characters-length, key-length, characters_good, index_good, header_laid}
use Rattle.sff_format.proofs.Boundaries.{Done, here_done, here_not, here_is, boundary_end, boundary-read, boundary-index, undeclared, parse_none, parse-read, parse-index}

-- as many reads as were asked for
pub length_parsed : (b : List ℕ) (n p : ℕ) (q : Bool) → length (parse_reads b n p q) ≡ n
unfolding parse_reads
length_parsed b zero p q = refl
length_parsed b (suc n) p q = ap suc (length_parsed b n _ _)

pub reads-counted : (b : List ℕ) → length (parse b).reads ≡ read_count b
unfolding parse
reads-counted b = length_parsed b (read_count b) (header_length b) false

module _ (b : List ℕ) (y : Bytes b) (head : header_test b ≡ Accepted) where
  module _ (p : ℕ) (e : read_test (flow_characters b) b p ≡ Accepted) where
    pub laid : Stands p (layout_read (parse_read (flows b) b p)) b
    laid = rw (characters-length b head) at (read_laid (flow_characters b) b p y e)

    pub ends : read_end (flows b) b p ≡ p + length (layout_read (parse_read (flows b) b p))
    ends = rw (characters-length b head) at (read_ends (flow_characters b) b p y e)

    valid : ValidRead (flow_characters b) (parse_read (flows b) b p)
    valid = rw (characters-length b head) at (read_valid (flow_characters b) b p y e)

  -- at the end all bytes are used
  end_drop : (p : ℕ) (q : Bool) → end_test b p q ≡ Accepted → drop p b ≡ []
  unfolding end_test
  end_drop p q e = drop_of_length-le b (under_ok _ _ _ _ (second-ok _ _ e))

  -- with nothing left of the index: what is left of the file is the reads' layout
  plain_laid : (n p : ℕ) (q : Bool) → Done b q → p ≤ length b → boundary_test b n p q ≡ Accepted
      → (layout_reads (parse_reads b n p q) ≡ drop p b) × ValidReads (flow_characters b) (parse_reads b n p q)
  unfolding layout_reads
  plain_laid zero p q d l e = rw (parse_none b p q) (sym (end_drop p q (sym (boundary_end b p q (here_done b p q d)) ∙ e)), tt)
  plain_laid (suc n) p q d l e =
      let h : index_here b p q ≡ false = here_done b p q d in
      let t : (read_test (flow_characters b) b p then boundary_test b n (read_end (flows b) b p) q) ≡ Accepted = sym (boundary-read b p q h n) ∙ e in
      let r : read_test (flow_characters b) b p ≡ Accepted = first-ok _ _ t in
      let s : Stands p (layout_read (parse_read (flows b) b p)) b = laid p r in
      let z : read_end (flows b) b p ≡ p + length (layout_read (parse_read (flows b) b p)) = ends p r in
      let g = stands-fits p (layout_read (parse_read (flows b) b p)) b s l in
      let more = plain_laid n (read_end (flows b) b p) q d (omega arith) (second-ok _ _ t) in
      rw (parse-read b p q h n) (rw (more.0, z) (stands-drop p _ b s), (valid p r, more.1))

  -- with the index still to come: it stands at its offset, which is a boundary
  module _ (d : declared (index_offset b) (index_length b) ≡ true) where
    pub record Pending (p : ℕ) (rs : List Read) : Type 0 where
      pub k : ℕ
      pub met : index_offset b ≡ p + length (layout_reads (take k rs))
      pub passed : pass_test b (index_offset b) ≡ Accepted
      pub is : insert_at (index_offset b - p) (layout_index (index_of b)) (layout_reads rs) ≡ drop p b
      pub good : ValidReads (flow_characters b) rs

    pub done : Done b true
    done = rw d

    pending_here : (n : ℕ) → index_offset b ≤ length b → boundary_test b n (index_offset b) false ≡ Accepted → Pending (index_offset b) (parse_reads b n (index_offset b) false)
    unfolding layout_reads
    pending_here n l e =
        let off = index_offset b in
        let size = index_size (index_length b) in
        let h : index_here b off false ≡ true = here_is b off d refl in
        let t : (pass_test b off then boundary_test b n (off + size) true) ≡ Accepted = sym (boundary-index b off false h n) ∙ e in
        let g : pass_test b off ≡ Accepted = first-ok _ _ t in
        let f : off + size ≤ length b = pass_fits b off g in
        let rest = plain_laid n (off + size) true done f (second-ok _ _ t) in
        let z : off - off ≡ 0 = omega arith in
        rw (parse-index b off false h n)
        (
        record {
          k = 0;
          met = omega arith;
          passed = g;
          is = rw (z, insert_zero, index_laid b g, rest.0, ← drop-drop) (take-append-drop size (drop off b));
          good = rest.1;
        }
        )

    module _ (n p : ℕ) (h : index_here b p false ≡ false) (l : p ≤ length b) (e : boundary_test b (suc n) p false ≡ Accepted) where
      pub here_read : (read_test (flow_characters b) b p then boundary_test b n (read_end (flows b) b p) false) ≡ Accepted
      here_read = sym (boundary-read b p false h n) ∙ e

      pub here_next : read_end (flows b) b p ≤ length b
      here_next =
          let r = first-ok _ _ here_read in
          let z = ends p r in
          let g = stands-fits p (layout_read (parse_read (flows b) b p)) b (laid p r) l in
          omega arith

      pending_read : Pending (read_end (flows b) b p) (parse_reads b n (read_end (flows b) b p) false) → Pending p (parse_reads b (suc n) p false)
      unfolding layout_reads
      pending_read more =
          let r : read_test (flow_characters b) b p ≡ Accepted = first-ok _ _ here_read in
          let one : List ℕ = layout_read (parse_read (flows b) b p) in
          let s : Stands p one b = laid p r in
          let z : read_end (flows b) b p ≡ p + length one = ends p r in
          let m : index_offset b ≡ read_end (flows b) b p + length (layout_reads (take more.k (parse_reads b n (read_end (flows b) b p) false))) = more.met in
          let o : index_offset b - p ≡ length one + (index_offset b - read_end (flows b) b p) = omega arith in
          rw (parse-read b p false h n)
          (
          record {
            k = suc more.k;
            met = rw length-append (omega arith);
            passed = more.passed;
            is = rw (o, insert_right, more.is, z) (stands-drop p one b s);
            good = (valid p r, more.good);
          }
          )

    pending_end : (p : ℕ) → index_here b p false ≡ false → boundary_test b 0 p false ≡ Accepted → ⊥
    unfolding end_test
    pending_end p h e =
        let t : (declared (index_offset b) (index_length b) && true) ≡ false = when-ok _ _ _ (first-ok _ _ (sym (boundary_end b p false h) ∙ e)) in
        let f : true ≡ false = rw d at t in
        let z : ◌≡◌ {A = ℕ} 0 1 = cc in
        omega arith

    pub pending_laid : (n p : ℕ) → p ≤ length b → boundary_test b n p false ≡ Accepted → Pending p (parse_reads b n p false)
    pending_laid zero p l e = go (eqb p (index_offset b)) refl
      where
        go : (t : Bool) → eqb p (index_offset b) ≡ t → Pending p (parse_reads b 0 p false)
        go true h = let a : p ≡ index_offset b = eqb-true p (index_offset b) h in rw a (pending_here 0 (rw a at l) (rw a at e))
        go false h = absurd (pending_end p (here_not b p false (eqb-false p (index_offset b) h)) e)
    pending_laid (suc n) p l e = go (eqb p (index_offset b)) refl (pending_laid n)
      where
        go : (t : Bool) → eqb p (index_offset b) ≡ t → ((p' : ℕ) → p' ≤ length b → boundary_test b n p' false ≡ Accepted → Pending p' (parse_reads b n p' false))
            → Pending p (parse_reads b (suc n) p false)
        go true h more = let a : p ≡ index_offset b = eqb-true p (index_offset b) h in rw a (pending_here (suc n) (rw a at l) (rw a at e))
        go false h more =
            let g : index_here b p false ≡ false = here_not b p false (eqb-false p (index_offset b) h) in
            pending_read n p g l e (more (read_end (flows b) b p) (here_next n p g l e) (second-ok _ _ (here_read n p g l e)))

-- an accepted file's header and boundaries are accepted
pub head_ok : (file : List ℕ) → file_test file ≡ Accepted → header_test file ≡ Accepted
unfolding file_test
head_ok file e = first-ok _ _ e

pub sections_ok : (b : List ℕ) → file_test b ≡ Accepted → boundary_test b (read_count b) (header_length b) false ≡ Accepted
unfolding file_test
sections_ok b e = second-ok _ _ e

module _ (file : List ℕ) (y : Bytes file) (e : file_test file ≡ Accepted) where
  rs : List Read
  rs = parse_reads file (read_count file) (header_length file) false

  -- where the index is, and what the sections are
  record Sections : Type 0 where
    passed : pass_test file (index_offset file) ≡ Accepted
    at : insert_at (index_offset file) (layout_index (index_of file)) (layout_header (parse file) ++ layout_reads rs)
        ≡ layout_header (parse file) ++ drop (header_length file) file
    good : ValidReads (flow_characters file) rs
    met : declared (index_offset file) (index_length file) ≡ true
        → (k : ℕ) × (index_offset file ≡ header_length file + length (layout_reads (take k rs)))

  pub header_size : length (layout_header (parse file)) ≡ header_length file
  unfolding parse
  header_size =
      let lc = characters-length file (head_ok file e) in
      let lk = key-length file (head_ok file e) in
      let s = header_sized file (head_ok file e) in
      length_header (parse file) ∙ rw (lc, lk) (sym s)

  sections : (t : Bool) → declared (index_offset file) (index_length file) ≡ t → Sections
  unfolding rs
  sections true d =
      let p = pending_laid file y (head_ok file e) d (read_count file) (header_length file) (header_fits file (head_ok file e)) (sections_ok file e) in
      let m : index_offset file ≡ header_length file + length (layout_reads (take p.k rs)) = p.met in
      let s = header_size in
      let o : index_offset file ≡ length (layout_header (parse file)) + (index_offset file - header_length file) = omega arith in
      record {
        passed = p.passed;
        at =
            ap (λ (n : ℕ). insert_at n (layout_index (index_of file)) (layout_header (parse file) ++ layout_reads rs)) o
            ∙ rw (insert_right, p.is);
        good = p.good;
        met = λ _. (p.k, p.met);
      }
  sections false d =
      let u = undeclared (index_offset file) (index_length file) d in
      let o : index_offset file ≡ 0 = u.0 in
      let l : index_length file ≡ 0 = u.1 in
      let done : Done file false = rw d in
      let p = plain_laid file y (head_ok file e) (read_count file) (header_length file) false done (header_fits file (head_ok file e)) (sections_ok file e) in
      record {
        passed = index_taken file (index_offset file) no_index (sym l) (rw o (omega arith)) (rw layout_none);
        at = rw (o, l, layout_none, insert_zero) (rw p.0);
        good = p.1;
        met = λ f. absurd (let z : ◌≡◌ {A = ℕ} 0 1 = cc in let a : ⊥ = omega arith in a);
      }

  all : Sections
  all = sections (declared (index_offset file) (index_length file)) refl

  pub index-passed : pass_test file (index_offset file) ≡ Accepted
  index-passed = all.passed

  header_stands : Stands 0 (layout_header (parse file)) file
  unfolding parse
  header_stands =
      header_laid file (head_ok file e) y (parse file) refl refl refl (index-length file all.passed)
      (length_parsed file (read_count file) (header_length file) false)

  header_whole : layout_header (parse file) ++ drop (header_length file) file ≡ file
  header_whole = rw (zero-add, header_size) at (stands-drop 0 (layout_header (parse file)) file header_stands)

  -- LAW a: an accepted file is the layout of what it says
  pub file_laid : layout (parse file) ≡ file
  unfolding layout parse rs
  file_laid = all.at ∙ header_whole

  pub file_valid : Valid (parse file)
  unfolding parse rs
  file_valid =
      let t = fits_31 file (head_ok file e) in
      let lc : length (flow_characters file) ≡ flows file = characters-length file (head_ok file e) in
      let lk : length (part (31 + flows file) (key_length file) file) ≡ key_length file = key-length file (head_ok file e) in
      let li : length (part (index_offset file) (index_length file) file) ≡ index_length file = index-length file all.passed in
      let s = header_sized file (head_ok file e) in
      let z = header_size in
      record {
        characters_good = characters_good file (head_ok file e);
        header_fits = rw (lc, lk, ← s) (number_small 2 24 file y (omega arith));
        count_fits =
            rw (length_parsed file (read_count file) (header_length file) false) (number_small 4 20 file y (omega arith));
        index_fits = (number_small 8 8 file y (omega arith), rw li (number_small 4 16 file y (omega arith)), bytes-part (index_offset file) (index_length file) file y);
        index_good = rw li (index_good file (head_ok file e));
        index_met = rw li (λ d. ((all.met d).0, rw z (all.met d).1));
        reads_good = all.good;
      }
