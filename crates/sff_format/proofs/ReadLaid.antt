-- An accepted read is the layout of what it says, and keeps the rules. Assumes nothing.
use Prim.Native.Nat.{ℕ, ◌+◌, ◌-◌, ◌*◌, ◌≤◌}
use mathlib.Core.Path.{◌≡◌, refl}
use mathlib.Core.List.{List, [], ◌∷◌, ◌++◌}
use native.Mathlib.Omega.{arith}
use native.Mathlib.Nat.{add-zero}
use lib.ListN.{length, length-append}
use Rattle.octets.specs.Parts.{part, up8}
use Rattle.octets.specs.Numbers.{Bytes, number, fields, words, words_at}
use Rattle.octets.specs.Scans.{is_zero, Every, is_name_byte}
use Rattle.octets.proofs.Lists.{length_part}
use Rattle.octets.proofs.AllBytes.{bytes-part}
use Rattle.answers.specs.Answer.{Accepted}
use Rattle.sff_format.specs.Model.{Read, read_fields, layout_read_header, layout_read_data, layout_read}
use Rattle.sff_format.specs.ReadTest.{section_length, name_length, base_count, quality_left, quality_right, adapter_left, adapter_right, name_test, clip_test, bases_test, data_test, read_test, read_end}
use Rattle.sff_format.specs.Parse.{parse_read}
use Rattle.sff_format.specs.Valid.{ValidRead}
use Rattle.answers.proofs.Answers.{first-ok, second-ok, under_ok, same_ok, scan_ok, shifted-ok}
use Rattle.sff_format.proofs.Bases.{walk_ok, calls_ok}
use Rattle.sff_format.proofs.Sizes.{length_head, length_data}
use Rattle.octets.proofs.Stands.{Stands, read-stands, stands_both, filled-stands, length_fields_lem, fields_stand, length_units, length-units_at, units_stand, units_small, number_small}

module _ (characters b : List ℕ) (p : ℕ) where
  module _ (e : read_test characters b p ≡ Accepted) where
    -- what each test of the chain tells, by its place in the order
    pub fits_16 : p + 16 ≤ length b
    unfolding read_test
    fits_16 = under_ok _ _ _ _ (first-ok _ _ e)

    name_ok : name_test b p (section_length b p) (name_length b p) ≡ Accepted
    unfolding read_test
    name_ok = first-ok _ _ (second-ok _ _ e)

    clip_ok : clip_test p (base_count b p) (quality_left b p) (quality_right b p) (adapter_left b p) (adapter_right b p) ≡ Accepted
    unfolding read_test
    clip_ok = first-ok _ _ (second-ok _ _ (second-ok _ _ e))

    data_ok : data_test characters b (p + section_length b p) (base_count b p) ≡ Accepted
    unfolding read_test
    data_ok = second-ok _ _ (second-ok _ _ (second-ok _ _ e))

    pub section_is : section_length b p ≡ up8 (16 + name_length b p)
    unfolding name_test
    section_is = same_ok _ _ _ _ (first-ok _ _ name_ok)

    pub section_fits : p + section_length b p ≤ length b
    unfolding name_test
    section_fits = under_ok _ _ _ _ (first-ok _ _ (second-ok _ _ name_ok))

    pub name_fits : p + 16 + name_length b p ≤ length b
    name_fits = let s = section_is in let f = section_fits in omega arith

    name-length : length (part (p + 16) (name_length b p) b) ≡ name_length b p
    name-length = length_part (p + 16) (name_length b p) b name_fits

    name_good : Every is_name_byte (part (p + 16) (name_length b p) b)
    unfolding name_test
    name_good = scan_ok b (p + 16) (name_length b p) _ _ refl name_fits is_name_byte (first-ok _ _ (second-ok _ _ (second-ok _ _ name_ok)))

    name_padding : Every is_zero (part (p + 16 + name_length b p) (section_length b p - (16 + name_length b p)) b)
    unfolding name_test
    name_padding =
        let s = section_is in
        let f = section_fits in
        scan_ok b (p + 16 + name_length b p) (section_length b p - (16 + name_length b p)) _ _ (omega arith) (omega arith) is_zero (second-ok _ _ (second-ok _ _ (second-ok _ _ name_ok)))

    pub data_fits : p + section_length b p + up8 (2 * length characters + 3 * base_count b p) ≤ length b
    unfolding data_test
    data_fits = under_ok _ _ _ _ (first-ok _ _ data_ok)

    bases_ok : bases_test characters (part (p + section_length b p + 2 * length characters) (base_count b p) b) (part (p + section_length b p + 2 * length characters + base_count b p) (base_count b p) b) ≡ Accepted
    unfolding data_test
    bases_ok = shifted-ok (p + section_length b p + 2 * length characters) _ (first-ok _ _ (second-ok _ _ data_ok))

    -- a stretch of the data section has its length
    bases-length : (q : ℕ) → q ≤ p + section_length b p + 2 * length characters + 2 * base_count b p → length (part q (base_count b p) b) ≡ base_count b p
    bases-length q h = let f = data_fits in length_part q (base_count b p) b (omega arith)

    data_padding : Every is_zero (part (p + section_length b p + (2 * length characters + 3 * base_count b p)) (up8 (2 * length characters + 3 * base_count b p) - (2 * length characters + 3 * base_count b p)) b)
    unfolding data_test
    data_padding =
        let f = data_fits in
        let n = 2 * length characters + 3 * base_count b p in
        scan_ok b (p + section_length b p + n) (up8 n - n) _ _ (omega arith) (omega arith) is_zero (second-ok _ _ (second-ok _ _ data_ok))

  module _ (y : Bytes b) (e : read_test characters b p ≡ Accepted) where
    head_stands : Stands p (layout_read_header (parse_read (length characters) b p)) b
    unfolding layout_read_header read_fields parse_read
    head_stands =
        let L = name_length b p in
        let N = base_count b p in
        let s = section_is e in
        let f = section_fits e in
        let g = data_fits e in
        let ln : length (part (p + 16) L b) ≡ L = name-length e in
        let lb : length (part (p + section_length b p + 2 * length characters + N) N b) ≡ N = bases-length e (p + section_length b p + 2 * length characters + N) (omega arith) in
        rw (ln, lb, ← s)
        (
        let xs : List (ℕ × ℕ) = (2, section_length b p) ∷ (2, L) ∷ (4, N) ∷ (2, number 2 (p + 8) b) ∷ (2, number 2 (p + 10) b) ∷ (2, number 2 (p + 12) b) ∷ (2, number 2 (p + 14) b) ∷ [] in
        let name : List ℕ = part (p + 16) L b in
        let l16 : length (fields xs) ≡ 16 = length_fields_lem xs in
        let lx : length (fields xs ++ name) ≡ 16 + L = rw (length-append, l16, ln) in
        let st : Stands p (fields xs) b = rw add-zero at (fields_stand b y xs p 0 (omega arith) (rw add-zero, (refl, (refl, (refl, (refl, (refl, (refl, tt)))))))) in
        filled-stands p (p + 16 + L) (up8 (length (fields xs ++ name))) (section_length b p - (16 + L)) (fields xs ++ name) b
        (rw lx (omega arith)) (rw (lx, s)) (omega arith)
        (stands_both p (p + 16) (fields xs) name b (rw l16) st (read-stands (p + 16) L b (omega arith)))
        (name_padding e)
        )

    data_stands : Stands (p + section_length b p) (layout_read_data (parse_read (length characters) b p)) b
    unfolding layout_read_data parse_read
    data_stands =
        let F = length characters in
        let N = base_count b p in
        let d = p + section_length b p in
        let g = data_fits e in
        let li : length (part (d + 2 * F) N b) ≡ N = bases-length e (d + 2 * F) (omega arith) in
        let lb : length (part (d + 2 * F + N) N b) ≡ N = bases-length e (d + 2 * F + N) (omega arith) in
        let lq : length (part (d + 2 * F + N + N) N b) ≡ N = bases-length e (d + 2 * F + N + N) (omega arith) in
        let w : List ℕ = words (words_at F d b) in
        let i : List ℕ = part (d + 2 * F) N b in
        let c : List ℕ = part (d + 2 * F + N) N b in
        let q : List ℕ = part (d + 2 * F + N + N) N b in
        let lw : length w ≡ 2 * F = rw (length_units, length-units_at) in
        let l2 : length (w ++ i) ≡ 2 * F + N = rw (length-append, lw, li) in
        let l3 : length (w ++ i ++ c) ≡ 2 * F + N + N = rw (length-append, l2, lb) in
        let l4 : length (w ++ i ++ c ++ q) ≡ 2 * F + 3 * N = rw (length-append, l3, lq) (omega arith) in
        filled-stands d (d + (2 * F + 3 * N)) (up8 (length (w ++ i ++ c ++ q))) (up8 (2 * F + 3 * N) - (2 * F + 3 * N)) (w ++ i ++ c ++ q) b
        (rw l4) (rw l4) (omega arith)
        (
        stands_both d (d + 2 * F + N + N) (w ++ i ++ c) q b (rw l3 (omega arith))
        (
        stands_both d (d + 2 * F + N) (w ++ i) c b (rw l2 (omega arith))
        (
        stands_both d (d + 2 * F) w i b (rw lw)
        (units_stand 2 b y F d (omega arith))
        (read-stands (d + 2 * F) N b (omega arith))
        )
        (read-stands (d + 2 * F + N) N b (omega arith))
        )
        (read-stands (d + 2 * F + N + N) N b (omega arith))
        )
        (data_padding e)

    pub read_ends : read_end (length characters) b p ≡ p + length (layout_read (parse_read (length characters) b p))
    unfolding layout_read read_end parse_read
    read_ends =
        let F = length characters in
        let N = base_count b p in
        let d = p + section_length b p in
        let g = data_fits e in
        let r : Read = parse_read F b p in
        let s = section_is e in
        let ln : length (part (p + 16) (name_length b p) b) ≡ name_length b p = name-length e in
        let li : length (part (d + 2 * F) N b) ≡ N = bases-length e (d + 2 * F) (omega arith) in
        let lb : length (part (d + 2 * F + N) N b) ≡ N = bases-length e (d + 2 * F + N) (omega arith) in
        let lq : length (part (d + 2 * F + N + N) N b) ≡ N = bases-length e (d + 2 * F + N + N) (omega arith) in
        rw (length-append, length_head r, length_data r, ln, length-units_at, li, lb, lq, ← s) (omega arith)

    pub read_laid : Stands p (layout_read (parse_read (length characters) b p)) b
    unfolding layout_read parse_read
    read_laid =
        let ln : length (part (p + 16) (name_length b p) b) ≡ name_length b p = name-length e in
        let s = section_is e in
        stands_both p (p + section_length b p) (layout_read_header (parse_read (length characters) b p)) (layout_read_data (parse_read (length characters) b p)) b
        (rw (length_head (parse_read (length characters) b p), ln, ← s)) head_stands data_stands

    pub read_valid : ValidRead characters (parse_read (length characters) b p)
    unfolding parse_read clip_test
    read_valid =
        let F = length characters in
        let N = base_count b p in
        let d = p + section_length b p in
        let f = fits_16 e in
        let s = section_is e in
        let h = section_fits e in
        let g = data_fits e in
        let ln : length (part (p + 16) (name_length b p) b) ≡ name_length b p = name-length e in
        let li : length (part (d + 2 * F) N b) ≡ N = bases-length e (d + 2 * F) (omega arith) in
        let lb : length (part (d + 2 * F + N) N b) ≡ N = bases-length e (d + 2 * F + N) (omega arith) in
        let lq : length (part (d + 2 * F + N + N) N b) ≡ N = bases-length e (d + 2 * F + N + N) (omega arith) in
        record {
          name_good = name_good e;
          name_fits = rw (ln, ← s) (number_small 2 p b y (omega arith));
          bases_fit = rw lb (number_small 4 (p + 4) b y (omega arith));
          clips_fit = (
            number_small 2 (p + 8) b y (omega arith),
            (number_small 2 (p + 10) b y (omega arith), (number_small 2 (p + 12) b y (omega arith), (number_small 2 (p + 14) b y (omega arith), tt))),
          );
          quality_left_good = rw lb (under_ok _ _ _ _ (first-ok _ _ (clip_ok e)));
          quality_right_good = rw lb (under_ok _ _ _ _ (first-ok _ _ (second-ok _ _ (clip_ok e))));
          adapter_left_good = rw lb (under_ok _ _ _ _ (first-ok _ _ (second-ok _ _ (second-ok _ _ (clip_ok e)))));
          adapter_right_good = rw lb (under_ok _ _ _ _ (second-ok _ _ (second-ok _ _ (second-ok _ _ (clip_ok e)))));
          values_count = length-units_at 2 F d b;
          values_fit = units_small 2 b y F d (omega arith);
          increments_count = rw (li, lb);
          qualities_count = rw (lq, lb);
          walk_good = walk_ok characters _ _ (bases_ok e);
          bases_good = calls_ok characters _ _ (bases_ok e);
          bytes_good = (bytes-part (d + 2 * F) N b y, bytes-part (d + 2 * F + N) N b y, bytes-part (d + 2 * F + N + N) N b y);
        }
