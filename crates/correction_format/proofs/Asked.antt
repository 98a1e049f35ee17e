-- What the fields that the code holds ask for, by the kind. Assumes nothing.
use Prim.Native.Nat.{ℕ, ◌≤◌}
use mathlib.Core.Path.{◌≡◌, refl, sym, ap, ◌∙◌}
use mathlib.Core.Bool.{Bool, true, false, cond}
use mathlib.Core.List.{List}
use native.Mathlib.Omega.{arith}
use lib.Dec.{eqb}
use lib.ListN.{length}
use Rattle.answers.specs.Answer.{Accepted}
use Rattle.correction_format.specs.declared.Fields.{Fields}
use Rattle.correction_format.specs.declared.Kind.{Kind}
use Rattle.correction_format.specs.declared.Kind.TheVariants.{Clips, Rename, Remove}
use Rattle.correction_format.specs.Record.{kind, position, old_name, new_name, new_quality_left, new_quality_right, new_adapter_left, new_adapter_right, record_test}
use Rattle.correction_format.specs.Correction.{Change, clips, rename, remove, at_position}
use Rattle.correction_format.specs.RecordLayout.{change_in, parse_record}
use Rattle.correction_format.specs.Fields.{kind_by, fields_at, FieldsOf, asked}
use Rattle.correction_format.proofs.Records.{record_96, old-most, new-most, old-size, new-size}

-- the change that a record of each kind asks for
abbrev change_of : Kind → List ℕ → Change
change_of Clips r = clips (new_quality_left r) (new_quality_right r) (new_adapter_left r) (new_adapter_right r)
change_of Rename r = rename (new_name r)
change_of Remove r = remove

change_by : (r : List ℕ) → change_in r ≡ change_of (kind_by (kind r)) r
unfolding change_in
change_by r = go (eqb (kind r) 1) (eqb (kind r) 2)
  where
    go : (s t : Bool) → cond s (change_of Clips r) (cond t (rename (new_name r)) remove) ≡ change_of (cond s Clips (cond t Rename Remove)) r
    go true t = refl
    go false true = refl
    go false false = refl

pub renamed-by : (n : ℕ) → kind_by n ≡ Rename → eqb n 2 ≡ true
renamed-by n = go (eqb n 1) (eqb n 2)
  where
    go : (s t : Bool) → cond s Clips (cond t Rename Remove) ≡ Rename → t ≡ true
    go true t e = let z : ◌≡◌ {A = ℕ} 0 1 = cc in absurd (let f : ⊥ = omega arith in f)
    go false true e = refl
    go false false e = let z : ◌≡◌ {A = ℕ} 0 1 = cc in absurd (let f : ⊥ = omega arith in f)

module _ (x : Fields) (r : List ℕ) (o : FieldsOf x r) where
  pub kind_of_lem : x.kind ≡ kind_by (kind r)
  kind_of_lem = ap (λ (y : Fields). y.kind) o

  asked-by : change_in r ≡ change_of x.kind r
  asked-by = change_by r ∙ ap (λ k. change_of k r) (sym kind_of_lem)

  asked_as : {k : Kind} → x.kind ≡ k → change_in r ≡ change_of k r
  asked_as e = asked-by ∙ ap (λ k. change_of k r) e

  pub clips-asked : x.kind ≡ Clips → change_in r ≡ clips x.quality_left x.quality_right x.adapter_left x.adapter_right
  clips-asked k =
      asked_as k ∙ (λ j. clips (sym o j).quality_left (sym o j).quality_right (sym o j).adapter_left (sym o j).adapter_right)

  pub rename-asked : x.kind ≡ Rename → change_in r ≡ rename (new_name r)
  rename-asked k = asked_as k

  pub remove-asked : x.kind ≡ Remove → change_in r ≡ remove
  remove-asked k = asked_as k

  -- what holds of every change that a record of another kind asks for
  module _ (P : Change → Type 0) where
    pub not-clips : (x.kind ≡ Clips → ⊥) → P (rename (new_name r)) → P remove → P (change_in r)
    not-clips n h l = rw asked-by (go x.kind n)
      where
        go : (k : Kind) → (k ≡ Clips → ⊥) → P (change_of k r)
        go Clips n = absurd (n refl)
        go Rename n = h
        go Remove n = l

    pub not-rename : (x.kind ≡ Rename → ⊥) → P (change_of Clips r) → P remove → P (change_in r)
    not-rename n h l = rw asked-by (go x.kind n)
      where
        go : (k : Kind) → (k ≡ Rename → ⊥) → P (change_of k r)
        go Clips n = h
        go Rename n = absurd (n refl)
        go Remove n = l

  -- a well-formed record's names lie inside it
  module _ (e : record_test r ≡ Accepted) where
    pub fields_96 : length r ≡ 96
    fields_96 = record_96 r e

    pub old_length_of : x.old_length ≡ length (old_name r)
    old_length_of = ap (λ (y : Fields). y.old_length) o ∙ sym (old-size r e)

    pub new_length_of : x.new_length ≡ length (new_name r)
    new_length_of = ap (λ (y : Fields). y.new_length) o ∙ sym (new-size r e)

    pub old-inside : x.old_length ≤ 40
    old-inside = let a = ap (λ (y : Fields). y.old_length) o in let b = old-most r e in omega arith

    pub new-inside : x.new_length ≤ 40
    new-inside = let a = ap (λ (y : Fields). y.new_length) o in let b = new-most r e in omega arith

-- a record's fields with its own position ask for what it says
module _ (x : Fields) (r : List ℕ) (e : x ≡ fields_at (position r) r) where
  pub fields_of_record : FieldsOf x r
  fields_of_record = rw e

  pub asked_of_record : asked x r ≡ parse_record r
  asked_of_record = λ j. at_position (e j).position (parse_record r)
