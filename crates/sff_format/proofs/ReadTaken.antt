-- The layout of a read that keeps the rules is accepted where it stands, and read back. Assumes nothing.
use Prim.Native.Nat.{ℕ, ◌+◌, ◌-◌, ◌*◌, ◌≤◌}
use mathlib.Core.Path.{◌≡◌, refl, ◌∙◌}
use mathlib.Core.List.{List, ◌++◌}
use native.Mathlib.Omega.{arith}
use native.Mathlib.Nat.{add-zero}
use lib.ListN.{length, length-append}
use Rattle.octets.specs.Parts.{part, up8}
use Rattle.octets.specs.Scans.{is_zero, Every, is_name_byte}
use Rattle.answers.specs.Answer.{Accepted}
use Rattle.octets.specs.Numbers.{number, fields, words, words_at}
use Rattle.sff_format.specs.Model.{Read, read_fields, layout_read_header, layout_read_data, layout_read}
use Rattle.sff_format.specs.Rules.{left_limit, right_limit}
use Rattle.sff_format.specs.ReadTest.{section_length, name_length, base_count, quality_left, quality_right, adapter_left, adapter_right, name_test, clip_test, data_test, read_test, read_end}
use Rattle.sff_format.specs.Parse.{parse_read}
use Rattle.sff_format.specs.Valid.{ValidRead}
use Rattle.answers.proofs.Answers.{both_ok, ok_under, ok_same, ok-scan, ok-shifted}
use Rattle.sff_format.proofs.Bases.{ok_bases}
use Rattle.sff_format.proofs.Sizes.{length_head, length_data}
use Rattle.octets.proofs.Stands.{Stands, Numbers, stands_read, stands-left, stands_right, stands-fits, stands-filled, length_fields_lem, stand_fields, length_units, stand_units}

module _ (characters b : List ℕ) (p : ℕ) (r : Read) (v : ValidRead characters r) (h : p ≤ length b) (s : Stands p (layout_read r) b) where
  head_stands : Stands p (layout_read_header r) b
  unfolding layout_read
  head_stands = stands-left p (layout_read_header r) (layout_read_data r) b h s

  data_stands : Stands (p + up8 (16 + length r.name)) (layout_read_data r) b
  unfolding layout_read
  data_stands = stands_right p (p + up8 (16 + length r.name)) (layout_read_header r) (layout_read_data r) b (rw length_head) h s

  head_fits : p + up8 (16 + length r.name) ≤ length b
  head_fits = rw length_head at (stands-fits p (layout_read_header r) b head_stands h)

  data_size : length (layout_read_data r) ≡ up8 (2 * length characters + 3 * length r.bases)
  data_size =
      let a = v.values_count in
      let i = v.increments_count in
      let q = v.qualities_count in
      length_data r ∙ omega arith

  data_fits : p + up8 (16 + length r.name) + up8 (2 * length characters + 3 * length r.bases) ≤ length b
  data_fits = rw data_size at (stands-fits _ (layout_read_data r) b data_stands head_fits)

  -- the pieces of the header section
  head_pieces : Stands p (fields (read_fields r) ++ r.name) b × Every is_zero (part (p + 16 + length r.name) (up8 (16 + length r.name) - (16 + length r.name)) b)
  unfolding layout_read_header read_fields
  head_pieces =
      let l : length (fields (read_fields r) ++ r.name) ≡ 16 + length r.name = rw (length-append, length_fields_lem) in
      stands-filled p (p + 16 + length r.name) (up8 (length (fields (read_fields r) ++ r.name))) (up8 (16 + length r.name) - (16 + length r.name))
      (fields (read_fields r) ++ r.name) b (rw l (omega arith)) (rw l) h head_stands

  numbers : Numbers b p 0 (read_fields r)
  unfolding read_fields
  numbers =
      let t : Stands p (fields (read_fields r)) b = stands-left p (fields (read_fields r)) r.name b h head_pieces.0 in
      let n = v.name_fits in
      let c = v.clips_fit in
      stand_fields b (read_fields r) p 0 (omega arith)
      (v.name_fits, (omega arith, (v.bases_fit, (c.0, (c.1.0, (c.1.1.0, (c.1.1.1.0, tt)))))))
      (rw add-zero t)

  section_is : section_length b p ≡ up8 (16 + length r.name)
  unfolding read_fields
  section_is = rw add-zero at numbers.0

  name_length_is : name_length b p ≡ length r.name
  unfolding read_fields
  name_length_is = numbers.1.0

  bases_is : base_count b p ≡ length r.bases
  unfolding read_fields
  bases_is = numbers.1.1.0

  clips_are : (number 2 (p + 8) b ≡ r.quality_left) × (number 2 (p + 10) b ≡ r.quality_right) × (number 2 (p + 12) b ≡ r.adapter_left) × (number 2 (p + 14) b ≡ r.adapter_right)
  unfolding read_fields
  clips_are = let m = numbers.1.1.1 in (m.0, m.1.0, m.1.1.0, m.1.1.1.0)

  name_is : part (p + 16) (length r.name) b ≡ r.name
  unfolding read_fields
  name_is = stands_right p (p + 16) (fields (read_fields r)) r.name b (rw length_fields_lem) h head_pieces.0

  -- the pieces of the data section
  module _ (d : ℕ) (e : d ≡ p + up8 (16 + length r.name)) where
    data_pieces :
        Stands d (words r.values ++ r.increments ++ r.bases ++ r.qualities) b
        × Every is_zero (part (d + (2 * length characters + 3 * length r.bases)) (up8 (2 * length characters + 3 * length r.bases) - (2 * length characters + 3 * length r.bases)) b)
    unfolding layout_read_data
    data_pieces =
        let f = head_fits in
        let a = v.values_count in
        let i = v.increments_count in
        let q = v.qualities_count in
        let xs : List ℕ = words r.values ++ r.increments ++ r.bases ++ r.qualities in
        let l : length xs ≡ 2 * length characters + 3 * length r.bases = simp (length-append, length_units) (omega arith) in
        stands-filled d (d + (2 * length characters + 3 * length r.bases)) (up8 (length xs)) (up8 (2 * length characters + 3 * length r.bases) - (2 * length characters + 3 * length r.bases)) xs b
        (rw l) (rw l) (omega arith) (rw e data_stands)

    values_are : words_at (length characters) d b ≡ r.values
    values_are =
        let f = head_fits in
        let t = stands-left d (words r.values ++ r.increments ++ r.bases) r.qualities b (omega arith) data_pieces.0 in
        let u = stands-left d (words r.values ++ r.increments) r.bases b (omega arith) t in
        let w = stands-left d (words r.values) r.increments b (omega arith) u in
        rw v.values_count at (stand_units 2 b r.values d (omega arith) v.values_fit w)

    increments_are : part (d + 2 * length characters) (length r.bases) b ≡ r.increments
    increments_are =
        let f = head_fits in
        let t = stands-left d (words r.values ++ r.increments ++ r.bases) r.qualities b (omega arith) data_pieces.0 in
        let u = stands-left d (words r.values ++ r.increments) r.bases b (omega arith) t in
        let l : d + 2 * length characters ≡ d + length (words r.values) = rw (length_units, v.values_count) in
        stands_read (d + 2 * length characters) (length r.bases) r.increments b v.increments_count (stands_right d (d + 2 * length characters) (words r.values) r.increments b l (omega arith) u)

    bases_are : part (d + 2 * length characters + length r.bases) (length r.bases) b ≡ r.bases
    bases_are =
        let f = head_fits in
        let t = stands-left d (words r.values ++ r.increments ++ r.bases) r.qualities b (omega arith) data_pieces.0 in
        let l : d + 2 * length characters + length r.bases ≡ d + length (words r.values ++ r.increments) = rw (length-append, length_units, v.values_count, v.increments_count) (omega arith) in
        stands_right d (d + 2 * length characters + length r.bases) (words r.values ++ r.increments) r.bases b l (omega arith) t

    qualities_are : part (d + 2 * length characters + length r.bases + length r.bases) (length r.bases) b ≡ r.qualities
    qualities_are =
        let f = head_fits in
        let l : d + 2 * length characters + length r.bases + length r.bases ≡ d + length (words r.values ++ r.increments ++ r.bases) = rw (length-append, length-append, length_units, v.values_count, v.increments_count) (omega arith) in
        stands_read (d + 2 * length characters + length r.bases + length r.bases) (length r.bases) r.qualities b v.qualities_count
        (stands_right d (d + 2 * length characters + length r.bases + length r.bases) (words r.values ++ r.increments ++ r.bases) r.qualities b l (omega arith) data_pieces.0)

    data_ok : data_test characters b d (length r.bases) ≡ Accepted
    unfolding data_test
    data_ok =
        let F = length characters in
        let N = length r.bases in
        let g = data_fits in
        let i = increments_are in
        let c = bases_are in
        let k = v.increments_count in
        both_ok _ _ (ok_under (length b) (d + up8 (2 * F + 3 * N)) _ _ (omega arith))
        (
        both_ok _ _
        (ok-shifted (d + 2 * F) _ (rw (i, c) (ok_bases characters r.increments r.bases v.walk_good v.bases_good)))
        (ok-scan b (d + (2 * F + 3 * N)) (up8 (2 * F + 3 * N) - (2 * F + 3 * N)) (d + up8 (2 * F + 3 * N)) _ (omega arith) (omega arith) is_zero data_pieces.1)
        )

  name_ok : name_test b p (section_length b p) (name_length b p) ≡ Accepted
  unfolding name_test
  name_ok =
      let L = name_length b p in
      let f = head_fits in
      let z = section_is in
      let l = name_length_is in
      let g : Every is_name_byte (part (p + 16) L b) = rw (l, name_is) v.name_good in
      let q : Every is_zero (part (p + 16 + L) (section_length b p - (16 + L)) b) = rw (z, l) head_pieces.1 in
      both_ok _ _ (ok_same (section_length b p) (up8 (16 + L)) _ _ (omega arith))
      (
      both_ok _ _ (ok_under (length b) (p + section_length b p) _ _ (omega arith))
      (
      both_ok _ _ (ok-scan b (p + 16) L _ _ refl (omega arith) is_name_byte g)
      (ok-scan b (p + 16 + L) (section_length b p - (16 + L)) (p + section_length b p) _ (omega arith) (omega arith) is_zero q)
      )
      )

  clip_ok : clip_test p (base_count b p) (quality_left b p) (quality_right b p) (adapter_left b p) (adapter_right b p) ≡ Accepted
  unfolding clip_test
  clip_ok =
      let c = clips_are in
      both_ok _ _ (ok_under (left_limit (base_count b p)) (number 2 (p + 8) b) _ _ (rw (bases_is, c.0) v.quality_left_good))
      (
      both_ok _ _ (ok_under (right_limit (base_count b p)) (number 2 (p + 10) b) _ _ (rw (bases_is, c.1) v.quality_right_good))
      (
      both_ok _ _ (ok_under (left_limit (base_count b p)) (number 2 (p + 12) b) _ _ (rw (bases_is, c.2) v.adapter_left_good))
      (ok_under (right_limit (base_count b p)) (number 2 (p + 14) b) _ _ (rw (bases_is, c.3) v.adapter_right_good))
      )
      )

  pub read_taken : read_test characters b p ≡ Accepted
  unfolding read_test
  read_taken =
      let f = head_fits in
      both_ok _ _ (ok_under (length b) (p + 16) _ _ (omega arith))
      (both_ok _ _ name_ok (both_ok _ _ clip_ok (rw (section_is, bases_is) (data_ok _ refl))))

  pub read_back_lem : parse_read (length characters) b p ≡ r
  unfolding parse_read
  read_back_lem =
      let c = clips_are in
      rw (
        section_is,
        name_length_is,
        bases_is,
        c.0,
        c.1,
        c.2,
        c.3,
        name_is,
        values_are _ refl,
        increments_are _ refl,
        bases_are _ refl,
        qualities_are _ refl,
      )

  pub read-size : read_end (length characters) b p ≡ p + length (layout_read r)
  unfolding read_end layout_read
  read-size = rw (section_is, bases_is, length-append, length_head, data_size) (omega arith)
