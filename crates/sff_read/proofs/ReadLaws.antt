-- What the definitions of a read's tests tell the code. Assumes nothing.
use Prim.Native.Nat.{ℕ, ◌+◌, ◌-◌, ◌*◌, ◌≤◌}
use native.Mathlib.Omega.{arith}
use mathlib.Core.Path.{◌≡◌, sym, ◌∙◌}
use mathlib.Core.List.{List}
use lib.Dec.{ltb}
use lib.ListN.{length}
use Rattle.octets.specs.Parts.{part, up8}
use Rattle.octets.specs.Scans.{first_not, is_zero}
use Rattle.octets.proofs.Lists.{length_part}
use Rattle.answers.specs.Answer.{Answer, Accepted, Refused, when, stopped, shifted, ◌then◌}
use Rattle.sff_format.specs.ReadTest.{section_length, name_length, name_test, clip_test, bases_test, data_test, read_test}
use Rattle.answers.proofs.Answers.{first-ok, second-ok, under_ok}
use Rattle.sff_format.proofs.Bases.{bases_in}
use Rattle.sff_read.specs.declared.inner.ReadFields.{ReadFields}
use Rattle.sff_read.specs.Fields.{FieldsAt}

-- the header section of a read whose name is accepted lies in the file
pub name_fits : (b : List ℕ) (p s L : ℕ) → Accepted ≡ name_test b p s L → p + s ≤ length b
unfolding name_test
name_fits b p s L e = under_ok _ _ _ _ (first-ok _ _ (second-ok _ _ (sym e)))

-- a read's tests over its two lengths and its fields as they were read
pub read-tested : (characters b : List ℕ) (p : ℕ) {r : ReadFields} → FieldsAt b p r → {s L : ℕ} → s ≡ section_length b p → L ≡ name_length b p
    → {x : Answer} → x ≡
    (when (ltb (length b) (p + 16)) 1 p
    then name_test b p s L
    then clip_test p r.bases r.quality_left.0 r.quality_right.0 r.adapter_left.0 r.adapter_right.0
    then data_test characters b (p + s) r.bases)
    → x ≡ read_test characters b p
unfolding read_test
read-tested characters b p f e g h =
    rw (← e, ← g, ← f.bases_are, ← f.quality_left_is, ← f.quality_right_is, ← f.adapter_left_is, ← f.adapter_right_is) h

-- a data section's tests over the flow characters as they stand in the file, and m, its padded length
pub data_tested : (b : List ℕ) (F d n : ℕ) → 31 + F ≤ length b → {m : ℕ} → m ≡ up8 (2 * F + 3 * n)
    → {x : Answer} → x ≡
    (when (ltb (length b) (d + m)) 1 d
    then shifted (d + 2 * F) (bases_test (part 31 F b) (part (d + 2 * F) n b) (part (d + 2 * F + n) n b))
    then stopped 7 (first_not is_zero (d + (2 * F + 3 * n)) (d + m) b) (d + m))
    → x ≡ data_test (part 31 F b) b d n
unfolding data_test
data_tested b F d n h e f = rw (length_part 31 F b h, ← e) f

-- increments and bases tested as parts of the file
module _ (b : List ℕ) (F at n : ℕ) {a : Answer}
    (e : a ≡ bases_test (part 31 (31 + F - 31) b) (part at (at + n - at) b) (part (at + n) (at + n + n - (at + n)) b)) where
  matched : a ≡ bases_test (part 31 F b) (part at n b) (part (at + n) n b)
  matched =
      let f : 31 + F - 31 ≡ F = omega arith in
      let g : at + n - at ≡ n = omega arith in
      let h : at + n + n - (at + n) ≡ n = omega arith in
      rw (f, g, h) at e

  pub matched_shifted : shifted at a ≡ shifted at (bases_test (part 31 F b) (part at n b) (part (at + n) n b))
  matched_shifted = rw matched

  pub matched_in : {m p : ℕ} → a ≡ Refused m p → at + n + n ≤ length b → at + p ≤ length b
  matched_in {m} {p} t h =
      let l = bases_in (part 31 F b) (part at n b) (part (at + n) n b) m p (sym matched ∙ t) in
      omega (arith, l, length_part at n b (omega arith), length_part (at + n) n b (omega arith))
