-- The insert lies within the read, so it is as long in every list with an entry for each base; and a view's insert is
-- the read's. Assumes nothing.
use Prim.Native.Nat.{ℕ, ◌+◌, ◌≤◌}
use mathlib.Core.Bool.{Bool, true, false, cond}
use mathlib.Core.Path.{◌≡◌, refl, sym, ap, ◌∙◌}
use mathlib.Core.List.{List}
use native.Mathlib.Omega.{arith}
use lib.ListN.{length, length-take, length-drop}
use lib.Dec.{eqb}
use Rattle.octets.specs.Parts.{part}
use Rattle.octets.specs.Numbers.{Bytes}
use Rattle.octets.proofs.Lists.{length_part, part_in, whole_in}
use Rattle.answers.specs.Answer.{Accepted}
use Rattle.sff_format.specs.declared.Span.{Span}
use Rattle.sff_format.specs.declared.ReadView.{ReadView}
use Rattle.sff_format.specs.Model.{Read}
use Rattle.sff_format.specs.Rules.{left_limit, right_limit}
use Rattle.sff_format.specs.Valid.{ValidRead}
use Rattle.sff_format.specs.ReadTest.{quality_right, adapter_right, read_test}
use Rattle.sff_format.specs.Parse.{parse_read}
use Rattle.sff_format.specs.Insert.{first_base, right_end, last_base, insert_first, insert_last, insert_span, insert_of}
use Rattle.sff_format.specs.View.{view_at, view_first, view_last, bytes_in, view_span, insert_in}
use Rattle.sff_format.proofs.ReadLaid.{read_valid}
use Rattle.sff_format.proofs.Views.{data_inside, bases_viewed, qualities_viewed}

-- what a right clip within its limit stands for
right_in : (n clip : ℕ) → clip ≤ right_limit n → right_end n clip ≤ n
unfolding right_limit right_end
right_in n clip h = go (eqb clip 0)
  where
    go : (t : Bool) → cond t n clip ≤ n
    go true = omega arith
    go false = h

-- what a left clip within its limit is
left_in : (n clip : ℕ) → clip ≤ left_limit n → clip ≤ n + 1
unfolding left_limit
left_in n clip h = omega arith

-- there is a first base
pub first-least : (ql al : ℕ) → 1 ≤ first_base ql al
unfolding first_base
first-least ql al = omega arith

module _ {characters : List ℕ} {read : Read} (v : ValidRead characters read) where
  -- the last base, also of an empty insert
  pub last_in : insert_last read ≤ length read.bases
  unfolding last_base
  last_in = let h = right_in (length read.bases) read.quality_right v.quality_right_good in omega arith

  -- the first base lies in the read, or right after it
  pub first_in : insert_first read ≤ length read.bases + 1
  unfolding first_base
  first_in =
      let q = left_in (length read.bases) read.quality_left v.quality_left_good in
      let a = left_in (length read.bases) read.adapter_left v.adapter_left_good in
      omega arith

  -- "a non-empty insert lies within the read"
  pub insert-within : insert_first read ≤ insert_last read
      → (1 ≤ insert_first read) × (insert_last read ≤ length read.bases)
  insert-within h = (first-least read.quality_left read.adapter_left, last_in)

  -- so its stretch lies in any list with an entry for each base, and is as long there as the stretch says
  pub span_in : (insert_span read).at + (insert_span read).size ≤ length read.bases
  span_in = let f = first_in in let l = last_in in let o = first-least read.quality_left read.adapter_left in omega arith

  pub length-insert : (xs : List ℕ) → length xs ≡ length read.bases
      → length (insert_of read xs) ≡ (insert_span read).size
  unfolding insert_of
  length-insert xs n =
      let s = span_in in
      length_part (insert_span read).at (insert_span read).size xs (omega arith)

module _ (characters b : List ℕ) (p : ℕ) (y : Bytes b) (e : read_test characters b p ≡ Accepted) where
  abbrev view : ReadView
  view = view_at (length characters) b p

  abbrev read : Read
  read = parse_read (length characters) b p

  valid : ValidRead characters read
  valid = read_valid characters b p y e

  pub size_viewed : view.bases.size ≡ length read.bases
  unfolding view_at parse_read
  size_viewed = sym (length_part _ _ b (data_inside characters b p e).2)

  pub first_viewed : view_first view ≡ insert_first read
  unfolding view_at parse_read
  first_viewed = refl

  pub last_viewed : view_last view ≡ insert_last read
  unfolding view_at parse_read
  last_viewed = ap (λ (n : ℕ). last_base n (quality_right b p) (adapter_right b p)) size_viewed

  pub span_viewed : (view_span view ≡ insert_span read) × ((view_span view).at + (view_span view).size ≤ view.bases.size)
  span_viewed = (rw (first_viewed, last_viewed), rw (first_viewed, last_viewed, size_viewed) (span_in valid))

  -- the insert of a list with an entry for each base, by the view and by the read
  list_viewed : (xs : List ℕ) → length xs ≡ length read.bases → insert_in view xs ≡ insert_of read xs
  unfolding insert_in insert_of
  list_viewed xs n = rw (first_viewed, last_viewed) (whole_in _ _ xs (rw n (span_in valid)))

  pub insert_viewed : insert_in view (bytes_in b view.bases) ≡ insert_of read read.bases
  insert_viewed = rw (bases_viewed characters b p e) (list_viewed read.bases refl)

  pub qualities-inserted : insert_in view (bytes_in b view.qualities) ≡ insert_of read read.qualities
  qualities-inserted = rw (qualities_viewed characters b p e) (list_viewed read.qualities valid.qualities_count)

  -- of a stretch of the file with an entry for each base it is a part of the file
  pub insert-part : (x : Span) → x.size ≡ view.bases.size → x.at + x.size ≤ length b
      → insert_in view (bytes_in b x) ≡ part (x.at + (view_span view).at) (view_span view).size b
  unfolding insert_in
  insert-part x n h =
      let s : (view_span view).at + (view_span view).size ≤ x.size = rw n span_viewed.1 in
      let l : length (part x.at x.size b) ≡ x.size = length_part x.at x.size b h in
      rw (whole_in x.at x.size b h) (whole_in _ _ (part x.at x.size b) (rw l s) ∙ part_in _ _ x.at x.size b s h)

pub insert-most : (r : Read) (xs : List ℕ) → length (insert_of r xs) ≤ length xs
unfolding insert_of
insert-most r xs = simp (length-take, length-drop) (omega arith)
