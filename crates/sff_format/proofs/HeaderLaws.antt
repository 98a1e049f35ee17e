-- An accepted header is the layout of what it says, and the layout of a header that keeps the rules is accepted.
-- Assumes nothing.
use Prim.Native.Nat.{ℕ, ◌+◌, ◌-◌, ◌≤◌}
use mathlib.Core.Path.{◌≡◌, refl, sym}
use mathlib.Core.Bool.{false}
use mathlib.Core.List.{List, [], ◌∷◌, ◌++◌}
use native.Mathlib.Omega.{arith}
use lib.ListN.{length, length-append}
use Rattle.octets.specs.Parts.{part, up8}
use Rattle.octets.specs.Numbers.{Bytes, number, fields}
use Rattle.octets.specs.Scans.{is_flow_character, is_zero, Every}
use Rattle.octets.proofs.Lists.{length_part}
use Rattle.answers.specs.Answer.{Accepted, accepted_or}
use Rattle.sff_format.specs.Model.{File, header_fields, layout_header}
use Rattle.sff_format.specs.Rules.{bad_index}
use Rattle.sff_format.specs.HeaderTest.{index_offset, index_length, read_count, header_length, key_length, flows, characters_end, flow_characters, key_characters, fixed_test, characters_test, header_test, file_flow_characters, file_key}
use Rattle.sff_format.specs.Valid.{Valid}
use Rattle.answers.proofs.Answers.{first-ok, second-ok, both_ok, when-ok, ok-when, under_ok, ok_under, same_ok, ok_same, scan_ok, ok-scan}
use Rattle.sff_format.proofs.Sizes.{length_header}
use Rattle.octets.proofs.Stands.{Stands, Numbers, part_two, read-stands, stands_read, stands_both, stands-left, stands_right, stands-fits, filled-stands, stands-filled, length_fields_lem, fields_stand, stand_fields}

module _ (file : List ℕ) (e : header_test file ≡ Accepted) where
  pub fits_31 : 31 ≤ length file
  unfolding header_test
  fits_31 = under_ok _ _ _ _ (first-ok _ _ e)

  fixed_ok : fixed_test file ≡ Accepted
  unfolding header_test
  fixed_ok = first-ok _ _ (second-ok _ _ e)

  pub header_fits : header_length file ≤ length file
  unfolding header_test
  header_fits = under_ok _ _ _ _ (first-ok _ _ (second-ok _ _ (second-ok _ _ e)))

  rest_ok : characters_test file ≡ Accepted
  unfolding header_test
  rest_ok = second-ok _ _ (second-ok _ _ (second-ok _ _ e))

  magic_is : number 4 0 file ≡ 0x2E736666
  unfolding fixed_test
  magic_is = same_ok _ _ _ _ (first-ok _ _ fixed_ok)

  version_is : number 4 4 file ≡ 1
  unfolding fixed_test
  version_is = same_ok _ _ _ _ (first-ok _ _ (second-ok _ _ fixed_ok))

  code_is : number 1 30 file ≡ 1
  unfolding fixed_test
  code_is = same_ok _ _ _ _ (first-ok _ _ (second-ok _ _ (second-ok _ _ fixed_ok)))

  pub header_sized : header_length file ≡ up8 (characters_end file)
  unfolding fixed_test
  header_sized = same_ok _ _ _ _ (second-ok _ _ (second-ok _ _ (second-ok _ _ fixed_ok)))

  pub characters-length : length (flow_characters file) ≡ flows file
  characters-length = let s = header_sized in let f = header_fits in length_part 31 (flows file) file (omega arith)

  pub key-length : length (part (31 + flows file) (key_length file) file) ≡ key_length file
  key-length = let s = header_sized in let f = header_fits in length_part (31 + flows file) (key_length file) file (omega arith)

  pub characters_good : Every is_flow_character (flow_characters file ++ part (31 + flows file) (key_length file) file)
  unfolding characters_test
  characters_good =
      let s = header_sized in
      let f = header_fits in
      rw (← part_two 31 (flows file) (key_length file) file)
      (scan_ok file 31 (flows file + key_length file) (characters_end file) _ (omega arith) (omega arith) is_flow_character (first-ok _ _ rest_ok))

  padding : Every is_zero (part (characters_end file) (header_length file - characters_end file) file)
  unfolding characters_test
  padding =
      let s = header_sized in
      let f = header_fits in
      scan_ok file (characters_end file) (header_length file - characters_end file) (header_length file) _ (omega arith)
      (omega arith) is_zero (first-ok _ _ (second-ok _ _ rest_ok))

  pub index_good : bad_index (index_offset file) (index_length file) ≡ false
  unfolding characters_test
  index_good = when-ok _ _ _ (second-ok _ _ (second-ok _ _ rest_ok))

  -- its characters are handed out
  pub flow_characters_given : file_flow_characters file ≡ flow_characters file
  unfolding file_flow_characters accepted_or
  flow_characters_given = rw e

  pub key_given : file_key file ≡ key_characters file
  unfolding file_key accepted_or
  key_given = rw e

  -- an accepted header is the layout of a file that says what it says
  module _ (y : Bytes file) (f : File) (c : f.flow_characters ≡ flow_characters file) (k : f.key ≡ part (31 + flows file) (key_length file) file)
      (o : f.index.offset ≡ index_offset file) (l : length f.index.bytes ≡ index_length file)
      (n : length f.reads ≡ read_count file) where
    pub header_laid : Stands 0 (layout_header f) file
    unfolding layout_header header_fields
    header_laid =
        let s = header_sized in
        let h = header_fits in
        let t = fits_31 in
        let F = flows file in
        let K = key_length file in
        let lc : length (part 31 F file) ≡ F = characters-length in
        let lk : length (part (31 + F) K file) ≡ K = key-length in
        rw (c, k, o, l, n, lc, lk, ← s)
        (
        let xs : List (ℕ × ℕ) =
        (4, 0x2E736666) ∷ (4, 1) ∷ (8, index_offset file) ∷ (4, index_length file) ∷ (4, read_count file)
        ∷ (2, header_length file) ∷ (2, K) ∷ (2, F) ∷ (1, 1) ∷ [] in
        let l31 : length (fields xs) ≡ 31 = length_fields_lem xs in
        let lx : length (fields xs ++ part 31 F file) ≡ 31 + F = rw (length-append, l31, lc) in
        let ly : length (fields xs ++ part 31 F file ++ part (31 + F) K file) ≡ 31 + F + K = rw (length-append, lx, lk) in
        let st : Stands 0 (fields xs) file = fields_stand file y xs 0 0 (omega arith) (magic_is, (version_is, (refl, (refl, (refl, (refl, (refl, (refl, (code_is, tt))))))))) in
        filled-stands 0 (characters_end file) (up8 (length (fields xs ++ part 31 F file ++ part (31 + F) K file)))
        (header_length file - characters_end file) (fields xs ++ part 31 F file ++ part (31 + F) K file) file
        (rw ly (omega arith)) (rw (ly, s)) (omega arith)
        (
        stands_both 0 (31 + F) (fields xs ++ part 31 F file) (part (31 + F) K file) file (rw lx (omega arith))
        (stands_both 0 31 (fields xs) (part 31 F file) file (rw l31) st (read-stands 31 F file (omega arith)))
        (read-stands (31 + F) K file (omega arith))
        )
        padding
        )

-- the layout of a header that keeps the rules
module _ (b : List ℕ) (f : File) (v : Valid f) (s : Stands 0 (layout_header f) b) where
  size_fits : up8 (31 + length f.flow_characters + length f.key) ≤ length b
  size_fits = let t = rw length_header at (stands-fits 0 (layout_header f) b s (omega arith)) in omega arith

  pieces : Stands 0 (fields (header_fields f) ++ f.flow_characters ++ f.key) b
      × Every is_zero (part (31 + length f.flow_characters + length f.key) (up8 (31 + length f.flow_characters + length f.key) - (31 + length f.flow_characters + length f.key)) b)
  unfolding layout_header header_fields
  pieces =
      let n = 31 + length f.flow_characters + length f.key in
      let xs : List ℕ = fields (header_fields f) ++ f.flow_characters ++ f.key in
      let l : length xs ≡ n = rw (length-append, length-append, length_fields_lem) in
      stands-filled 0 n (up8 (length xs)) (up8 n - n) xs b (rw l (omega arith)) (rw l) (omega arith) s

  characters_stand : Stands 0 (fields (header_fields f) ++ f.flow_characters) b
  characters_stand = stands-left 0 (fields (header_fields f) ++ f.flow_characters) f.key b (omega arith) pieces.0

  numbers : Numbers b 0 0 (header_fields f)
  unfolding header_fields
  numbers =
      let n = v.header_fits in
      stand_fields b (header_fields f) 0 0 (omega arith)
      (omega arith, (omega arith, (v.index_fits.0, (v.index_fits.1, (v.count_fits, (v.header_fits, (omega arith, (omega arith, (omega arith, tt)))))))))
      (stands-left 0 (fields (header_fields f)) f.flow_characters b (omega arith) characters_stand)

  pub offset_is : index_offset b ≡ f.index.offset
  unfolding header_fields
  offset_is = numbers.1.1.0

  pub index_length_is : index_length b ≡ length f.index.bytes
  unfolding header_fields
  index_length_is = numbers.1.1.1.0

  pub count_is : read_count b ≡ length f.reads
  unfolding header_fields
  count_is = numbers.1.1.1.1.0

  pub header_length_is : header_length b ≡ up8 (31 + length f.flow_characters + length f.key)
  unfolding header_fields
  header_length_is = numbers.1.1.1.1.1.0

  key_length_is : key_length b ≡ length f.key
  unfolding header_fields
  key_length_is = numbers.1.1.1.1.1.1.0

  flows_is : flows b ≡ length f.flow_characters
  unfolding header_fields
  flows_is = numbers.1.1.1.1.1.1.1.0

  pub characters_are : flow_characters b ≡ f.flow_characters
  unfolding header_fields
  characters_are = stands_read 31 (flows b) f.flow_characters b (sym flows_is) (stands_right 0 31 (fields (header_fields f)) f.flow_characters b (rw length_fields_lem) (omega arith) characters_stand)

  pub key_is : part (31 + flows b) (key_length b) b ≡ f.key
  unfolding header_fields
  key_is =
      let l : 31 + flows b ≡ 0 + length (fields (header_fields f) ++ f.flow_characters) = rw (length-append, length_fields_lem, flows_is) (omega arith) in
      stands_read (31 + flows b) (key_length b) f.key b (sym key_length_is)
      (stands_right 0 (31 + flows b) (fields (header_fields f) ++ f.flow_characters) f.key b l (omega arith) pieces.0)

  fixed_ok' : fixed_test b ≡ Accepted
  unfolding fixed_test header_fields
  fixed_ok' =
      let h = header_length_is in
      let k = key_length_is in
      let c = flows_is in
      both_ok _ _ (ok_same (number 4 0 b) 0x2E736666 _ _ numbers.0)
      (
      both_ok _ _ (ok_same (number 4 4 b) 1 _ _ numbers.1.0)
      (
      both_ok _ _ (ok_same (number 1 30 b) 1 _ _ numbers.1.1.1.1.1.1.1.1.0)
      (ok_same (header_length b) (up8 (characters_end b)) _ _ (omega arith))
      )
      )

  rest_ok' : characters_test b ≡ Accepted
  unfolding characters_test
  rest_ok' =
      let h = header_length_is in
      let k = key_length_is in
      let c = flows_is in
      let g = size_fits in
      let t : Every is_flow_character (part 31 (flows b + key_length b) b) = rw (part_two 31 (flows b) (key_length b) b, characters_are, key_is) v.characters_good in
      let z : Every is_zero (part (characters_end b) (header_length b - characters_end b) b) = rw (h, k, c) pieces.1 in
      both_ok _ _ (ok-scan b 31 (flows b + key_length b) (characters_end b) _ (omega arith) (omega arith) is_flow_character t)
      (
      both_ok _ _ (ok-scan b (characters_end b) (header_length b - characters_end b) (header_length b) _ (omega arith) (omega arith) is_zero z)
      (ok-when (bad_index (index_offset b) (index_length b)) _ _ (rw (offset_is, index_length_is) v.index_good))
      )

  pub header_taken : header_test b ≡ Accepted
  unfolding header_test
  header_taken =
      let h = header_length_is in
      let g = size_fits in
      both_ok _ _ (ok_under (length b) 31 _ _ (omega arith))
      (both_ok _ _ fixed_ok' (both_ok _ _ (ok_under (length b) (header_length b) _ _ (omega arith)) rest_ok'))
