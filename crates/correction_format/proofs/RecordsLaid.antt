-- A record is well formed exactly if it is the layout of a correction that keeps the rules. Assumes nothing.
use Prim.Native.Nat.{ℕ, ◌+◌, ◌-◌, ◌≤◌, ◌<◌}
use mathlib.Core.Path.{◌≡◌, refl, sym, ap, ◌∙◌}
use mathlib.Core.Bool.{Bool, true, false, cond}
use mathlib.Core.Logic.{◌↔◌}
use mathlib.Core.List.{List, [], ◌∷◌, ◌++◌}
use native.Mathlib.Omega.{arith}
use lib.ListN.{length, get_or, length-append}
use lib.Seq.{take-length}
use lib.Dec.{eqb}
use borrow.Author.Tests.{le-ltb, eqb-true, eqb-false, eq-eqb, ne_eqb}
use Rattle.octets.specs.Parts.{part, filled}
use Rattle.octets.specs.Numbers.{Bytes, bytes_of, fields}
use Rattle.octets.specs.Scans.{leading_count, Every, is_name_byte, is_zero}
use Rattle.octets.proofs.Lists.{part_suc, length_part}
use Rattle.octets.proofs.AllBytes.{bytes_both, bytes-fields, bytes-filled, bytes_every}
use Rattle.octets.proofs.Digits.{number_one}
use Rattle.octets.proofs.Every.{none_fails, every_passes}
use Rattle.octets.proofs.Stands.{Stands, Numbers, Fit, width, read-stands, stands_both, stands-left, stands_right, stands_self, length-filled, filled-stands, stands-filled, length_fields_lem, fields_stand, stand_fields}
use Rattle.answers.specs.Answer.{Accepted}
use Rattle.answers.proofs.Answers.{both_ok, ok-when, ok_same}
use Rattle.sff_format.proofs.Written.{name-small}
use Rattle.correction_format.specs.Record.{kind, old_length, new_length, position, new_quality_left, new_quality_right, new_adapter_left, new_adapter_right, old_name, new_name, name_field_test, unused_test, new_clips_test, new_name_test, record_test}
use Rattle.correction_format.specs.Correction.{Change, clips, rename, remove, Correction, ValidName, ValidChange, ValidCorrection}
use Rattle.correction_format.specs.RecordLayout.{kind_of, name_of, clip_fields, clips_of, record_fields, layout_record, change_in, parse_record}
use Rattle.correction_format.proofs.Records.{field_least, unused_zeros, unused_zero, record_96, kind_low, kind_high, zero_ok, old-zeros, new_clips_ok, old-least, old-most, old_good, renames, no_new_name, new-most, new-good, old-size, new-size, new-zeros, new_clips_fit, position_fits}

-- no clips are eight zeros
zero_clips : filled 8 [] ≡ fields (clip_fields 0 0 0 0)
unfolding filled fields bytes_of
zero_clips = refl

-- the fields as a record has them
abbrev said : List ℕ → List (ℕ × ℕ)
said r =
    (1, kind r) ∷ (1, old_length r) ∷ (1, new_length r) ∷ (1, 0) ∷ (4, position r)
    ∷ clip_fields (new_quality_left r) (new_quality_right r) (new_adapter_left r) (new_adapter_right r)

-- the change x keeps the rules and lies as the record r has it
abbrev Laid : List ℕ → Change → Type 0
Laid r x =
    ValidChange x × (kind_of x ≡ kind r) × (name_of x ≡ new_name r)
    × (clips_of x ≡ clip_fields (new_quality_left r) (new_quality_right r) (new_adapter_left r) (new_adapter_right r))

-- a well-formed record is the layout of what it says
module _ («record» : List ℕ) (y : Bytes «record») (e : record_test «record» ≡ Accepted) where
  name-stands : (p n : ℕ) → n ≤ 40 → p + 40 ≤ length «record» → Every is_zero (part (p + n) (40 - n) «record»)
      → Stands p (filled 40 (part p n «record»)) «record»
  name-stands p n h k z =
      let l : length (part p n «record») ≡ n = length_part p n «record» (omega arith) in
      filled-stands p (p + n) 40 (40 - n) (part p n «record») «record» (rw l) (rw l) (omega arith)
      (read-stands p n «record» (omega arith)) z

  new-rest : Every is_zero (part (56 + new_length «record») (40 - new_length «record») «record»)
  new-rest = go (eqb (kind «record») 2) refl
    where
      go : (t : Bool) → eqb (kind «record») 2 ≡ t
          → Every is_zero (part (56 + new_length «record») (40 - new_length «record») «record»)
      go true k = none_fails is_zero _ (new-zeros «record» e k)
      go false k = rw (no_new_name «record» e k).0 (no_new_name «record» e k).1

  fields-said : Stands 0 (fields (said «record»)) «record»
  fields-said =
      let l = record_96 «record» e in
      let z : get_or «record» 3 0 ≡ 0 = unused_zero 3 «record» (omega arith) (zero_ok «record» e) in
      fields_stand «record» y (said «record») 0 0 (omega arith) (
        number_one 0 «record» (omega arith),
        (
          number_one 1 «record» (omega arith),
          (number_one 2 «record» (omega arith), (number_one 3 «record» (omega arith) ∙ z, (refl, (refl, (refl, (refl, (refl, tt))))))),
        ),
      )

  laid : fields (said «record») ++ filled 40 (old_name «record») ++ filled 40 (new_name «record») ≡ «record»
  laid =
      let l = record_96 «record» e in
      let o = old-most «record» e in
      let n = new-most «record» e in
      let lo : length (filled 40 (old_name «record»)) ≡ 40 = length-filled 40 (old_name «record») (rw (old-size «record» e) o) in
      let ln : length (filled 40 (new_name «record»)) ≡ 40 = length-filled 40 (new_name «record») (rw (new-size «record» e) n) in
      let lf : length (fields (said «record»)) ≡ 16 = length_fields_lem (said «record») in
      let l2 : length (fields (said «record») ++ filled 40 (old_name «record»)) ≡ 56 = rw (length-append, lf, lo) in
      let l3 : length (fields (said «record») ++ filled 40 (old_name «record») ++ filled 40 (new_name «record»)) ≡ length «record» = rw (length-append, l2, ln, l) in
      let s : Stands 0 (fields (said «record») ++ filled 40 (old_name «record») ++ filled 40 (new_name «record»)) «record» =
      stands_both 0 56 (fields (said «record») ++ filled 40 (old_name «record»)) (filled 40 (new_name «record»)) «record»
      (rw l2)
      (stands_both 0 16 (fields (said «record»)) (filled 40 (old_name «record»)) «record» (rw lf) fields-said (name-stands 16 (old_length «record») o (omega arith) (none_fails is_zero _ (old-zeros «record» e))))
      (name-stands 56 (new_length «record») n (omega arith) new-rest) in
      sym s ∙ rw l3 (take-length «record»)

  no_clips : eqb (kind «record») 1 ≡ false → Numbers «record» 0 8 (clip_fields 0 0 0 0)
  unfolding new_clips_test
  no_clips k =
      let l = record_96 «record» e in
      let z : Every is_zero (part 8 8 «record») = unused_zeros 8 8 «record» (rw k at (new_clips_ok «record» e)) in
      let s : Stands 8 (filled 8 []) «record» = filled-stands 8 8 8 8 [] «record» refl refl (omega arith) refl z in
      stand_fields «record» (clip_fields 0 0 0 0) 0 8 (omega arith)
      (omega arith, (omega arith, (omega arith, (omega arith, tt)))) (rw zero_clips at s)

  no_name : eqb (kind «record») 2 ≡ false → [] ≡ new_name «record»
  no_name k = rw (no_new_name «record» e k).0

  old_valid : ValidName (old_name «record»)
  old_valid = record {
    least = rw (old-size «record» e) (old-least «record» e);
    most = rw (old-size «record» e) (old-most «record» e);
    good = old_good «record» e;
  }

  change_laid : Laid «record» (change_in «record»)
  unfolding change_in
  change_laid = go (eqb (kind «record») 1) (eqb (kind «record») 2) refl refl
    where
      go : (s t : Bool) → eqb (kind «record») 1 ≡ s → eqb (kind «record») 2 ≡ t
          → Laid «record» (cond s (clips (new_quality_left «record») (new_quality_right «record») (new_adapter_left «record») (new_adapter_right «record»)) (cond t (rename (new_name «record»)) remove))
      go true t a b =
          let k = eqb-true (kind «record») 1 a in
          let m : eqb (kind «record») 2 ≡ false = ne_eqb (kind «record») 2 (λ f. omega arith) in (new_clips_fit «record» e y, sym k, no_name m, refl)
      go false true a b =
          let z = no_clips a in
          let n : ValidName (new_name «record») = record { least = rw (new-size «record» e) (field_least 56 (new_length «record») «record» (renames «record» e b)); most = rw (new-size «record» e) (new-most «record» e); good = new-good «record» e } in
          (n, sym (eqb-true (kind «record») 2 b), refl, rw (z.0, z.1.0, z.1.1.0, z.1.1.1.0))
      go false false a b =
          let i = eqb-false (kind «record») 1 a in
          let j = eqb-false (kind «record») 2 b in
          let l = kind_low «record» e in
          let h = kind_high «record» e in
          let z = no_clips a in
          let k : 3 ≡ kind «record» = omega arith in (tt, k, no_name b, rw (z.0, z.1.0, z.1.1.0, z.1.1.1.0))

  pub parsed_valid : ValidCorrection (parse_record «record»)
  parsed_valid = record {
    position_fits = position_fits «record» e y;
    old_good = old_valid;
    change_good = change_laid.0;
  }

  pub parsed_laid : layout_record (parse_record «record») ≡ «record»
  unfolding layout_record record_fields
  parsed_laid = let c = change_laid in rw (c.1, c.2, c.3, old-size «record» e, new-size «record» e) laid

-- the layout of a correction that keeps the rules is well formed
change-kind : (x : Change) → (1 ≤ kind_of x) × (kind_of x ≤ 3)
change-kind (clips a b c d) = (omega arith, omega arith)
change-kind (rename name) = (omega arith, omega arith)
change-kind remove = (omega arith, omega arith)

change-name : (x : Change) → ValidChange x → (length (name_of x) ≤ 40) × Bytes (name_of x)
change-name (clips a b c d) v = (omega arith, tt)
change-name (rename name) v = (v.most, bytes_every is_name_byte name-small name v.good)
change-name remove v = (omega arith, tt)

change-clips : (x : Change) → ValidChange x → (width (clips_of x) ≡ 8) × Fit (clips_of x)
change-clips (clips a b c d) v = (refl, v)
change-clips (rename name) v = (refl, (omega arith, (omega arith, (omega arith, (omega arith, tt)))))
change-clips remove v = (refl, (omega arith, (omega arith, (omega arith, (omega arith, tt)))))

module _ (c : Correction) (v : ValidCorrection c) where
  pub record-bytes : Bytes (layout_record c)
  unfolding layout_record
  record-bytes =
      let o = c.old_name in
      let n = name_of c.change in
      bytes_both (fields (record_fields c) ++ filled 40 o) (filled 40 n)
      (bytes_both (fields (record_fields c)) (filled 40 o) (bytes-fields (record_fields c)) (bytes-filled 40 o (bytes_every is_name_byte name-small o v.old_good.good)))
      (bytes-filled 40 n (change-name c.change v.change_good).1)

  fields-size : length (fields (record_fields c)) ≡ 16
  unfolding record_fields
  fields-size = length_fields_lem (record_fields c) ∙ rw (change-clips c.change v.change_good).0

  front-size : length (fields (record_fields c) ++ filled 40 c.old_name) ≡ 56
  front-size = rw (length-append, fields-size, length-filled 40 c.old_name v.old_good.most)

  pub record-size : length (layout_record c) ≡ 96
  unfolding layout_record
  record-size = rw (length-append, front-size, length-filled 40 (name_of c.change) (change-name c.change v.change_good).0)

  fit : Fit (record_fields c)
  unfolding record_fields
  fit =
      let k = change-kind c.change in
      let o = v.old_good.most in
      let n = change-name c.change v.change_good in
      (omega arith, (omega arith, (omega arith, (omega arith, (v.position_fits, (change-clips c.change v.change_good).1)))))

-- bytes that are zero pass as unused
zeros_unused : (p n : ℕ) (b : List ℕ) → Every is_zero (part p n b) → unused_test p n b ≡ Accepted
unfolding unused_test
zeros_unused p n b z = ok-when _ _ _ (every_passes is_zero (part p n b) z)

zero_unused : (p : ℕ) (b : List ℕ) → p < length b → get_or b p 0 ≡ 0 → unused_test p 1 b ≡ Accepted
unfolding leading_count
zero_unused p b h z = zeros_unused p 1 b (rw (part_suc p 0 b h, z))

name_taken_lem : (p : ℕ) (name b : List ℕ) → ValidName name → p ≤ length b → Stands p (filled 40 name) b → name_field_test p (length name) b ≡ Accepted
unfolding name_field_test
name_taken_lem p name b v h s =
    let t = stands-filled p (p + length name) 40 (40 - length name) name b refl refl h s in
    both_ok _ _ (ok-when _ _ _ (rw (le-ltb (length name) 1 v.least, le-ltb 40 (length name) v.most)))
    (
    both_ok _ _ (ok-when _ _ _ (every_passes is_name_byte (part p (length name) b) (rw t.0 v.good)))
    (ok-when _ _ _ (every_passes is_zero (part (p + length name) (40 - length name) b) t.1))
    )

module _ (b : List ℕ) (y : Bytes b) (l : length b ≡ 96) where
  no_clips_taken : (kind b ≡ 1 → ⊥) → Numbers b 0 8 (clip_fields 0 0 0 0) → new_clips_test b ≡ Accepted
  unfolding new_clips_test
  no_clips_taken k n =
      let s : Stands 8 (fields (clip_fields 0 0 0 0)) b = fields_stand b y (clip_fields 0 0 0 0) 0 8 (omega arith) n in
      rw (ne_eqb (kind b) 1 k) (zeros_unused 8 8 b (stands-filled 8 8 8 8 [] b refl refl (omega arith) (rw zero_clips s)).1)

  clips_taken : (x : Change) → kind b ≡ kind_of x → Numbers b 0 8 (clips_of x) → new_clips_test b ≡ Accepted
  unfolding new_clips_test
  clips_taken (clips a c d f) k n = rw (eq-eqb (kind b) 1 k)
  clips_taken (rename name) k n = no_clips_taken (λ g. omega arith) n
  clips_taken remove k n = no_clips_taken (λ g. omega arith) n

  no_name_taken : (kind b ≡ 2 → ⊥) → new_length b ≡ 0 → Stands 56 (filled 40 []) b → new_name_test b ≡ Accepted
  unfolding new_name_test
  no_name_taken k n s =
      rw (ne_eqb (kind b) 2 k)
      (both_ok _ _ (zero_unused 2 b (omega arith) n) (zeros_unused 56 40 b (stands-filled 56 56 40 40 [] b refl refl (omega arith) s).1))

  new_taken : (x : Change) → ValidChange x → kind b ≡ kind_of x → new_length b ≡ length (name_of x) → Stands 56 (filled 40 (name_of x)) b → new_name_test b ≡ Accepted
  unfolding new_name_test
  new_taken (clips a c d f) v k n s = no_name_taken (λ g. omega arith) n s
  new_taken (rename name) v k n s = rw (eq-eqb (kind b) 2 k, n) (name_taken_lem 56 name b v (omega arith) s)
  new_taken remove v k n s = no_name_taken (λ g. omega arith) n s

-- and the change is read back
change-back : (b : List ℕ) (x : Change) → kind b ≡ kind_of x → new_name b ≡ name_of x → Numbers b 0 8 (clips_of x) → change_in b ≡ x
unfolding change_in
change-back b (clips a c d f) k m n = rw (eq-eqb (kind b) 1 k, n.0, n.1.0, n.1.1.0, n.1.1.1.0)
change-back b (rename name) k m n = rw (ne_eqb (kind b) 1 (λ g. omega arith), eq-eqb (kind b) 2 k, m)
change-back b remove k m n = rw (ne_eqb (kind b) 1 (λ g. omega arith), ne_eqb (kind b) 2 (λ g. omega arith))

module _ (correction : Correction) (v : ValidCorrection correction) where
  abbrev b : List ℕ
  b = layout_record correction

  l : length b ≡ 96
  l = record-size correction v

  front : Stands 0 (fields (record_fields correction) ++ filled 40 correction.old_name) b
  unfolding layout_record
  front =
      let h = l in
      stands-left 0 (fields (record_fields correction) ++ filled 40 correction.old_name)
      (filled 40 (name_of correction.change)) b (omega arith) (stands_self b)

  new : Stands 56 (filled 40 (name_of correction.change)) b
  unfolding layout_record
  new =
      let h = l in
      stands_right 0 56 (fields (record_fields correction) ++ filled 40 correction.old_name)
      (filled 40 (name_of correction.change)) b (rw (front-size correction v)) (omega arith) (stands_self b)

  old : Stands 16 (filled 40 correction.old_name) b
  old =
      let h = l in
      stands_right 0 16 (fields (record_fields correction)) (filled 40 correction.old_name) b
      (rw (fields-size correction v)) (omega arith) front

  numbers : Numbers b 0 0 (record_fields correction)
  numbers =
      let h = l in
      stand_fields b (record_fields correction) 0 0 (omega arith) (fit correction v)
      (stands-left 0 (fields (record_fields correction)) (filled 40 correction.old_name) b (omega arith) front)

  -- the fields of one byte
  ones : (kind b ≡ kind_of correction.change) × (old_length b ≡ length correction.old_name)
      × (new_length b ≡ length (name_of correction.change)) × (get_or b 3 0 ≡ 0)
  unfolding record_fields
  ones =
      let h = l in
      let n = numbers in (
        sym (number_one 0 b (omega arith)) ∙ n.0,
        sym (number_one 1 b (omega arith)) ∙ n.1.0,
        sym (number_one 2 b (omega arith)) ∙ n.1.1.0,
        sym (number_one 3 b (omega arith)) ∙ n.1.1.1.0,
      )

  clips-there : Numbers b 0 8 (clips_of correction.change)
  unfolding record_fields
  clips-there = numbers.1.1.1.1.1

  pub record_taken : record_test b ≡ Accepted
  unfolding record_test
  record_taken =
      let h = l in
      let o = ones in
      let x = correction.change in
      let q = change-kind x in
      both_ok _ _ (ok_same (length b) 96 _ _ l)
      (
      both_ok _ _ (ok-when _ _ _ (rw (o.0, le-ltb (kind_of x) 1 q.0, le-ltb 3 (kind_of x) q.1)))
      (
      both_ok _ _ (zero_unused 3 b (omega arith) o.3)
      (
      both_ok _ _ (rw o.1 (name_taken_lem 16 correction.old_name b v.old_good (omega arith) old))
      (both_ok _ _ (clips_taken b (record-bytes correction v) l x o.0 clips-there) (new_taken b (record-bytes correction v) l x v.change_good o.0 o.2 new))
      )
      )
      )

  -- a name of n bytes that fill their field with zeros after
  name_back : (p n : ℕ) (name : List ℕ) → p ≤ 96 → n ≡ length name → Stands p (filled 40 name) b → part p n b ≡ name
  name_back p n name i e s = let h = l in rw e (stands-filled p (p + length name) 40 (40 - length name) name b refl refl (omega arith) s).0

  pub laid_parsed : parse_record b ≡ correction
  unfolding record_fields
  laid_parsed =
      let o = ones in
      let at : position b ≡ correction.position = numbers.1.1.1.1.0 in
      let from : old_name b ≡ correction.old_name = name_back 16 (old_length b) correction.old_name (omega arith) o.1 old in
      let to : new_name b ≡ name_of correction.change = name_back 56 (new_length b) (name_of correction.change) (omega arith) o.2 new in
      let x : change_in b ≡ correction.change = change-back b correction.change o.0 to clips-there in
      λ j. record { position = at j; old_name = from j; change = x j }

-- well formed exactly: some correction that keeps the rules is laid out so
pub record_exactly : (r : List ℕ) → (Bytes r × (record_test r ≡ Accepted)) ↔ ((c : Correction) × ValidCorrection c × (layout_record c ≡ r))
record_exactly r = (
  (λ t. (parse_record r, parsed_valid r t.0 t.1, parsed_laid r t.0 t.1)),
  (λ t. (rw (← t.2) (record-bytes t.0 t.1), ap record_test (sym t.2) ∙ record_taken t.0 t.1)),
)
