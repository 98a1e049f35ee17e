-- Where a walk over the bytes finds read i is where the layout has it; an accepted file at read i. Assumes nothing.
use Prim.Native.Nat.{ℕ, zero, suc, ◌+◌, ◌≤◌, ◌<◌}
use mathlib.Core.Path.{◌≡◌, refl, sym, ap, ◌∙◌}
use mathlib.Core.Bool.{Bool, true, false, cond}
use mathlib.Core.Logic.{◌⊎◌}
use mathlib.Core.List.{List, [], ◌∷◌, ◌++◌}
use native.Mathlib.Omega.{arith}
use native.Mathlib.Nat.{add-zero}
use lib.ListN.{length, take, drop, get_or, length-append}
use lib.Seq.{take_at, drop_at}
use lib.Dec.{leb, eqb}
use borrow.Author.Tests.{eqb-true, eqb-false, le-leb, lt-leb}
use Rattle.octets.specs.Parts.{put_at}
use Rattle.octets.specs.Numbers.{Bytes, bytes_of}
use Rattle.octets.proofs.Lists.{length_part}
use Rattle.octets.proofs.Inserts.{drop-rest}
use Rattle.answers.specs.Answer.{Accepted, ◌then◌}
use Rattle.sff_format.specs.Model.{Read, no_index, layout_read, layout_reads, layout_index, layout, with_reads}
use Rattle.sff_format.specs.Rules.{declared, index_size}
use Rattle.sff_format.specs.HeaderTest.{index_offset, index_length, read_count, header_length, flows, flow_characters, header_test}
use Rattle.sff_format.specs.ReadTest.{read_test, read_end}
use Rattle.sff_format.specs.FileTest.{index_here, pass_test, boundary_test, file_test}
use Rattle.sff_format.specs.Parse.{parse_read, parse_reads, parse}
use Rattle.sff_format.specs.Places.{no_read, read_at, replaced, place, place_from, read_place}
use Rattle.answers.proofs.Answers.{first-ok, second-ok}
use Rattle.sff_format.proofs.Sizes.{size_none}
use Rattle.sff_format.proofs.HeaderLaws.{header_fits}
use Rattle.sff_format.proofs.Boundaries.{Done, undeclared, here_done, here_not, here_is, boundary-read, boundary-index, parse-read, parse-index, place_here, place_read, place-index}
use Rattle.sff_format.proofs.FileLaid.{ends, done, here_read, here_next, pending_laid, head_ok, sections_ok, header_size, index-passed, reads-counted, file_laid, file_valid}
use Rattle.sff_format.proofs.Indexes.{index_of, pass_fits, index_laid}
use Rattle.sff_format.proofs.Split.{Split, split}

-- the read that is parsed at position i is the one at the place that the walk finds
pub parse-at : (b : List ℕ) (n i p : ℕ) (q : Bool) → i < n → get_or (parse_reads b n p q) i no_read ≡ parse_read (flows b) b (place_from b i p q)
unfolding parse_reads place_from
parse-at b zero i p q h = absurd (omega arith)
parse-at b (suc n) zero p q h = refl
parse-at b (suc n) (suc i) p q h = parse-at b n i _ _ (omega arith)

module _ (b : List ℕ) (y : Bytes b) (head : header_test b ≡ Accepted) where
  plain-place : (n i p : ℕ) (q : Bool) → Done b q → boundary_test b n p q ≡ Accepted → i < n → place_from b i p q ≡ p + length (layout_reads (take i (parse_reads b n p q)))
  unfolding layout_reads
  plain-place zero i p q d e h = absurd (omega arith)
  plain-place (suc n) zero p q d e h = rw (place_here b p q (here_done b p q d), add-zero)
  plain-place (suc n) (suc i) p q d e h =
      let g : index_here b p q ≡ false = here_done b p q d in
      let t : (read_test (flow_characters b) b p then boundary_test b n (read_end (flows b) b p) q) ≡ Accepted = sym (boundary-read b p q g n) ∙ e in
      let z : read_end (flows b) b p ≡ p + length (layout_read (parse_read (flows b) b p)) = ends b y head p (first-ok _ _ t) in
      let more = plain-place n i (read_end (flows b) b p) q d (second-ok _ _ t) (omega arith) in
      rw (place_read b p q g i, parse-read b p q g n, more, length-append) (omega arith)

  module _ (d : declared (index_offset b) (index_length b) ≡ true) where
    -- past the index, if it stands no later than `at`
    shift : ℕ → ℕ
    shift at = at + cond (leb (index_offset b) at) (index_size (index_length b)) 0

    place_past : (n i : ℕ) → boundary_test b n (index_offset b) false ≡ Accepted → i < n
        → place_from b i (index_offset b) false ≡ shift (index_offset b + length (layout_reads (take i (parse_reads b n (index_offset b) false))))
    unfolding shift
    place_past n i e h =
        let off = index_offset b in
        let g : index_here b off false ≡ true = here_is b off d refl in
        let t : (pass_test b off then boundary_test b n (off + index_size (index_length b)) true) ≡ Accepted = sym (boundary-index b off false g n) ∙ e in
        let more = plain-place n i (off + index_size (index_length b)) true (rw d) (second-ok _ _ t) h in
        rw (place-index b off false g i, parse-index b off false g n, more, le-leb off (off + length (layout_reads (take i (parse_reads b n (off + index_size (index_length b)) true)))) (omega arith)) (omega arith)

    pending_place : (n i p : ℕ) → p ≤ length b → boundary_test b n p false ≡ Accepted → i < n → place_from b i p false ≡ shift (p + length (layout_reads (take i (parse_reads b n p false))))
    unfolding shift layout_reads
    pending_place zero i p l e h = absurd (omega arith)
    pending_place (suc n) zero p l e h = go (eqb p (index_offset b)) refl
      where
        go : (t : Bool) → eqb p (index_offset b) ≡ t → place_from b 0 p false ≡ p + 0 + cond (leb (index_offset b) (p + 0)) (index_size (index_length b)) 0
        go true c = let a : p ≡ index_offset b = eqb-true p (index_offset b) c in rw a (place_past (suc n) 0 (rw a at e) h)
        go false c =
            let f : p ≡ index_offset b → ⊥ = eqb-false p (index_offset b) c in
            let m = (pending_laid b y head d (suc n) p l e).met in
            rw (place_here b p false (here_not b p false f), add-zero, lt-leb (index_offset b) p (omega arith)) (omega arith)
    pending_place (suc n) (suc i) p l e h = go (eqb p (index_offset b)) refl (λ p' l' e'. pending_place n i p' l' e' (omega arith))
      where
        go : (t : Bool) → eqb p (index_offset b) ≡ t
            → ((p' : ℕ) → p' ≤ length b → boundary_test b n p' false ≡ Accepted → place_from b i p' false ≡ shift (p' + length (layout_reads (take i (parse_reads b n p' false)))))
            → place_from b (suc i) p false ≡ shift (p + length (layout_reads (take (suc i) (parse_reads b (suc n) p false))))
        go true c more = let a : p ≡ index_offset b = eqb-true p (index_offset b) c in rw a (place_past (suc n) (suc i) (rw a at e) h)
        go false c more =
            let g : index_here b p false ≡ false = here_not b p false (eqb-false p (index_offset b) c) in
            let t = here_read b y head d n p g l e in
            let z : read_end (flows b) b p ≡ p + length (layout_read (parse_read (flows b) b p)) = ends b y head p (first-ok _ _ t) in
            let rest : List ℕ = layout_reads (take i (parse_reads b n (read_end (flows b) b p) false)) in
            let k : read_end (flows b) b p + length rest ≡ p + (length (layout_read (parse_read (flows b) b p)) + length rest) = omega arith in
            rw (place_read b p false g i, parse-read b p false g n, length-append, more (read_end (flows b) b p) (here_next b y head d n p g l e) (second-ok _ _ t), k)

module _ (file : List ℕ) (y : Bytes file) (e : file_test file ≡ Accepted) (position : ℕ) (h : position < read_count file) where
  pub read_found : read_at (parse file) position ≡ parse_read (flows file) file (read_place file position)
  unfolding parse read_place
  read_found = parse-at file (read_count file) position (header_length file) false h

  index-size : length (layout_index (index_of file)) ≡ index_size (index_length file)
  index-size = rw (index_laid file (index-passed file y e)) (length_part (index_offset file) (index_size (index_length file)) file (pass_fits file (index_offset file) (index-passed file y e)))

  found : (t : Bool) → declared (index_offset file) (index_length file) ≡ t → (at : ℕ)
      → at
      ≡ header_length file + length
      (layout_reads (take position (parse_reads file (read_count file) (header_length file) false)))
      → place_from file position (header_length file) false
      ≡ at + cond (leb (index_offset file) at) (index_size (index_length file)) 0
  unfolding shift
  found true d at a = rw a (pending_place file y (head_ok file e) d (read_count file) position (header_length file) (header_fits file (head_ok file e)) (sections_ok file e) h)
  found false d at a =
      let u = undeclared (index_offset file) (index_length file) d in
      let l : index_length file ≡ 0 = u.1 in
      let z : index_size (index_length file) ≡ 0 = ap index_size l ∙ size_none in
      let done : Done file false = rw d in
      rw (a, z, none (leb (index_offset file) _), add-zero) (plain-place file y (head_ok file e) (read_count file) position (header_length file) false done (sections_ok file e) h)
    where
      none : (t : Bool) → ◌≡◌ {A = ℕ} (cond t 0 0) 0
      none true = refl
      none false = refl

  pub place_found : read_place file position ≡ place (parse file) position
  unfolding parse read_place place
  place_found = rw index-size (found (declared (index_offset file) (index_length file)) refl _ (ap (λ (n : ℕ). n + length (layout_reads (take position (parse_reads file (read_count file) (header_length file) false)))) (header_size file y e)))

  at : Split (parse file) position
  at = split (parse file) position (rw (reads-counted file) h) (file_valid file y e)

  own : List ℕ
  own = layout_read (read_at (parse file) position)

  is : file ≡ at.front ++ (own ++ at.back)
  unfolding own
  is = sym (file_laid file y e) ∙ at.is

  front-size : length at.front ≡ read_place file position
  front-size = at.size ∙ sym place_found

  front_is : take (read_place file position) file ≡ at.front
  front_is =
      ap (take (read_place file position)) is
      ∙ take_at at.front (own ++ at.back) (read_place file position) front-size

  rest_is : drop (read_place file position) file ≡ own ++ at.back
  rest_is =
      ap (drop (read_place file position)) is
      ∙ drop_at at.front (own ++ at.back) (read_place file position) front-size

  back_is : drop (read_place file position + length (layout_read (read_at (parse file) position))) file ≡ at.back
  unfolding own
  back_is = drop-rest (read_place file position) own at.back file rest_is

  -- an accepted file at the read at that position: what stands before it, its sections, and what stands after
  pub read_split : file ≡ take (read_place file position) file ++ (layout_read (read_at (parse file) position) ++ drop (read_place file position + length (layout_read (read_at (parse file) position))) file)
  unfolding own
  read_split = rw (front_is, back_is) is

  -- a read of the same size in its place, or any where there is no index: what stands before and after it stays
  pub read_changed : (r : Read)
      → (length (layout_read r) ≡ length (layout_read (read_at (parse file) position))) ⊎ ((parse file).index ≡ no_index)
      → layout (with_reads (replaced position (r ∷ []) (parse file).reads) (parse file))
      ≡ take (read_place file position) file
      ++ (layout_read r ++ drop (read_place file position + length (layout_read (read_at (parse file) position))) file)
  read_changed r s = rw (front_is, back_is) (at.changed r s)

  -- the read left out, and counted no more
  pub read_gone : (parse file).index ≡ no_index
      → layout (with_reads (replaced position [] (parse file).reads) (parse file))
      ≡ put_at 20 (bytes_of 4 (length (replaced position [] (parse file).reads))) (take (read_place file position) file ++ drop (read_place file position + length (layout_read (read_at (parse file) position))) file)
  read_gone n = rw (front_is, back_is) (at.gone n)
