-- What a well-formed record tells of its fields. Assumes nothing.
use Prim.Native.Nat.{ℕ, ◌+◌, ◌-◌, ◌≤◌, ◌<◌}
use mathlib.Core.Path.{◌≡◌, refl}
use mathlib.Core.Bool.{Bool, true, false, ◌||◌}
use mathlib.Core.List.{List, [], ◌∷◌}
use native.Mathlib.Omega.{arith}
use lib.ListN.{length, get_or}
use lib.Dec.{ltb, eqb}
use borrow.Author.Tests.{ltb-false, eqb-true}
use Rattle.octets.specs.Parts.{part}
use Rattle.octets.specs.Numbers.{Bytes, Words}
use Rattle.octets.specs.Scans.{leading_count, Every, fails, is_name_byte, is_zero}
use Rattle.octets.proofs.Lists.{part_suc, length_part}
use Rattle.octets.proofs.Every.{none_fails}
use Rattle.octets.proofs.Stands.{number_small}
use Rattle.answers.specs.Answer.{Accepted, when, ◌then◌}
use Rattle.answers.proofs.Answers.{first-ok, second-ok, when-ok, same_ok, or_left, or_right}
use Rattle.correction_format.specs.Record.{kind, old_length, new_length, position, new_quality_left, new_quality_right, new_adapter_left, new_adapter_right, old_name, new_name, name_field_test, unused_test, new_clips_test, new_name_test, record_test}

-- neither under nor above
within_ok : (least most n c q : ℕ) → when (ltb n least || ltb most n) c q ≡ Accepted → (least ≤ n) × (n ≤ most)
within_ok least most n c q e =
    let f = when-ok (ltb n least || ltb most n) c q e in
    (ltb-false n least (or_left (ltb n least) (ltb most n) f), ltb-false most n (or_right (ltb n least) (ltb most n) f))

-- a name's field, by its tests in their order
module _ (p n : ℕ) (r : List ℕ) (e : name_field_test p n r ≡ Accepted) where
  pub field_least : 1 ≤ n
  unfolding name_field_test
  field_least = (within_ok 1 _ n _ _ (first-ok _ _ e)).0

  pub field_most : n ≤ 40
  unfolding name_field_test
  field_most = (within_ok 1 40 n _ _ (first-ok _ _ e)).1

  pub field_good : Every is_name_byte (part p n r)
  unfolding name_field_test
  field_good = none_fails is_name_byte (part p n r) (when-ok _ _ _ (first-ok _ _ (second-ok _ _ e)))

  pub field_zeros : fails is_zero (part (p + n) (40 - n) r) ≡ false
  unfolding name_field_test
  field_zeros = when-ok _ _ _ (second-ok _ _ (second-ok _ _ e))

pub unused_zeros : (p n : ℕ) (r : List ℕ) → unused_test p n r ≡ Accepted → Every is_zero (part p n r)
unfolding unused_test
unused_zeros p n r e = none_fails is_zero (part p n r) (when-ok _ _ _ e)

one_zero : (x : ℕ) → Every is_zero (x ∷ []) → x ≡ 0
unfolding leading_count
one_zero x e = go (is_zero x) refl
  where
    go : (t : Bool) → is_zero x ≡ t → x ≡ 0
    go true h = eqb-true x 0 h
    go false h = let z : ◌≡◌ {A = ℕ} 0 1 = rw h at e in absurd (omega arith)

-- one unused byte
pub unused_zero : (p : ℕ) (r : List ℕ) → p < length r → unused_test p 1 r ≡ Accepted → get_or r p 0 ≡ 0
unused_zero p r h e = one_zero (get_or r p 0) (rw (part_suc p 0 r h) at (unused_zeros p 1 r e))

module _ (r : List ℕ) (e : record_test r ≡ Accepted) where
  pub record_96 : length r ≡ 96
  unfolding record_test
  record_96 = same_ok _ _ _ _ (first-ok _ _ e)

  pub kind_low : 1 ≤ kind r
  unfolding record_test
  kind_low = (within_ok 1 _ (kind r) _ _ (first-ok _ _ (second-ok _ _ e))).0

  pub kind_high : kind r ≤ 3
  unfolding record_test
  kind_high = (within_ok 1 3 (kind r) _ _ (first-ok _ _ (second-ok _ _ e))).1

  pub zero_ok : unused_test 3 1 r ≡ Accepted
  unfolding record_test
  zero_ok = first-ok _ _ (second-ok _ _ (second-ok _ _ e))

  pub old_ok : name_field_test 16 (old_length r) r ≡ Accepted
  unfolding record_test
  old_ok = first-ok _ _ (second-ok _ _ (second-ok _ _ (second-ok _ _ e)))

  pub new_clips_ok : new_clips_test r ≡ Accepted
  unfolding record_test
  new_clips_ok = first-ok _ _ (second-ok _ _ (second-ok _ _ (second-ok _ _ (second-ok _ _ e))))

  pub new_name_ok : new_name_test r ≡ Accepted
  unfolding record_test
  new_name_ok = second-ok _ _ (second-ok _ _ (second-ok _ _ (second-ok _ _ (second-ok _ _ e))))

  pub old-least : 1 ≤ old_length r
  old-least = field_least 16 (old_length r) r old_ok

  pub old-most : old_length r ≤ 40
  old-most = field_most 16 (old_length r) r old_ok

  pub old_good : Every is_name_byte (old_name r)
  old_good = field_good 16 (old_length r) r old_ok

  pub old-zeros : fails is_zero (part (16 + old_length r) (40 - old_length r) r) ≡ false
  old-zeros = field_zeros 16 (old_length r) r old_ok

  -- a rename has a new name, and another kind none
  pub renames : eqb (kind r) 2 ≡ true → name_field_test 56 (new_length r) r ≡ Accepted
  unfolding new_name_test
  renames k = rw k at new_name_ok

  pub no_new_name : eqb (kind r) 2 ≡ false → (new_length r ≡ 0) × Every is_zero (part 56 40 r)
  unfolding new_name_test
  no_new_name k =
      let l = record_96 in
      let f : (unused_test 2 1 r then unused_test 56 40 r) ≡ Accepted = rw k at new_name_ok in
      (unused_zero 2 r (omega arith) (first-ok _ _ f), unused_zeros 56 40 r (second-ok _ _ f))

  pub new-most : new_length r ≤ 40
  new-most = go (eqb (kind r) 2) refl
    where
      go : (t : Bool) → eqb (kind r) 2 ≡ t → new_length r ≤ 40
      go true k = field_most 56 (new_length r) r (renames k)
      go false k = let z = (no_new_name k).0 in omega arith

  -- also where the name is empty, since another kind has none
  pub new-good : Every is_name_byte (new_name r)
  unfolding leading_count
  new-good = go (eqb (kind r) 2) refl
    where
      go : (t : Bool) → eqb (kind r) 2 ≡ t → Every is_name_byte (new_name r)
      go true k = field_good 56 (new_length r) r (renames k)
      go false k = rw (no_new_name k).0

  pub old-size : length (old_name r) ≡ old_length r
  old-size = let l = record_96 in let m = old-most in length_part 16 (old_length r) r (omega arith)

  pub new-size : length (new_name r) ≡ new_length r
  new-size = let l = record_96 in let m = new-most in length_part 56 (new_length r) r (omega arith)

  pub new-zeros : eqb (kind r) 2 ≡ true → fails is_zero (part (56 + new_length r) (40 - new_length r) r) ≡ false
  new-zeros k = field_zeros 56 (new_length r) r (renames k)

  pub new_clips_fit : Bytes r → Words (new_quality_left r ∷ new_quality_right r ∷ new_adapter_left r ∷ new_adapter_right r ∷ [])
  new_clips_fit y =
      let l = record_96 in (
        number_small 2 8 r y (omega arith),
        (number_small 2 10 r y (omega arith), (number_small 2 12 r y (omega arith), (number_small 2 14 r y (omega arith), tt))),
      )

  pub position_fits : Bytes r → position r < 4294967296
  position_fits y = let l = record_96 in number_small 4 4 r y (omega arith)
