-- An index that is passed is the layout of what it says, and the layout of an index is passed. All that the laws know
-- of `pass_test`. Assumes nothing.
use Prim.Native.Nat.{ℕ, ◌+◌, ◌-◌, ◌≤◌}
use mathlib.Core.Path.{◌≡◌}
use mathlib.Core.List.{List, append-nil}
use native.Mathlib.Omega.{arith}
use lib.ListN.{length}
use Rattle.octets.specs.Parts.{part, filled}
use Rattle.octets.proofs.Lists.{length_part}
use Rattle.answers.specs.Answer.{Accepted}
use Rattle.sff_format.specs.Model.{Index, layout_index}
use Rattle.sff_format.specs.Rules.{index_size}
use Rattle.sff_format.specs.HeaderTest.{index_offset, index_length}
use Rattle.sff_format.specs.FileTest.{pass_test}
use Rattle.answers.proofs.Answers.{under_ok, ok_under}
use Rattle.octets.proofs.Stands.{Stands, stands-fits}
use Rattle.sff_format.proofs.Sizes.{size-least, length-index}

-- the index as a file has it
abbrev pub index_of : List ℕ → Index
index_of b = record { offset = index_offset b; bytes = part (index_offset b) (index_length b) b }

pub pass_fits : (b : List ℕ) (p : ℕ) → pass_test b p ≡ Accepted → p + index_size (index_length b) ≤ length b
unfolding pass_test
pass_fits b p e = under_ok _ _ _ _ e

module _ (b : List ℕ) (e : pass_test b (index_offset b) ≡ Accepted) where
  pub index-length : length (index_of b).bytes ≡ index_length b
  index-length = let s = size-least (index_length b) in let f = pass_fits b (index_offset b) e in length_part (index_offset b) (index_length b) b (omega arith)

  pub index_laid : layout_index (index_of b) ≡ part (index_offset b) (index_size (index_length b)) b
  unfolding layout_index filled index_size
  index_laid =
      let l : length (part (index_offset b) (index_length b) b) ≡ index_length b = index-length in
      let z : index_length b - index_length b ≡ 0 = omega arith in
      rw (l, z, append-nil)

pub index_taken : (b : List ℕ) (p : ℕ) (x : Index) → length x.bytes ≡ index_length b → p ≤ length b → Stands p (layout_index x) b → pass_test b p ≡ Accepted
unfolding pass_test
index_taken b p x l h s =
    let f = rw (length-index x, l) at (stands-fits p (layout_index x) b s h) in
    ok_under (length b) (p + index_size (index_length b)) _ _ f
