-- "Undo after encode returns the data"; "Encode after undo returns the block for 64, 65, 66, 72 (same level and follow
-- bytes)". Assumes nothing.
use mathlib.Core.Path.{◌≡◌, refl, sym, ap, ◌∙◌, subst}
use mathlib.Core.Bool.{Bool, true, false, cond, not, ◌||◌}
use mathlib.Core.List.{List, [], ◌∷◌, ◌++◌}
use Prim.Native.Nat.{ℕ, zero, suc, ◌+◌, ◌-◌, ◌%◌, ◌<◌, ◌≤◌}
use native.Mathlib.Omega.{arith}
use borrow.Author.Tests.{eqb-true, ne_eqb, ltb-false, not-false}
use lib.Dec.{eqb, ltb}
use lib.ListN.{length, take, drop, get_or, replicate, length-append, take-append-drop}
use lib.Seq.{take_at, drop_at}
use Rattle.octets.specs.Parts.{part}
use Rattle.octets.specs.Numbers.{Bytes}
use Rattle.octets.specs.Scans.{leading_count, one_more, first_not, is_zero}
use Rattle.octets.proofs.Lists.{length_part}
use Rattle.octets.proofs.AllBytes.{bytes-part, bytes_drop}
use Rattle.answers.specs.Answer.{Accepted, Refused, when, ◌then◌, accepted_or}
use Rattle.answers.proofs.Answers.{first-ok, second-ok, both_ok, when-ok, ok-when, ok_under, or_left, or_right}
use Rattle.filter_format.specs.declared.Filter.{Filter}
use Rattle.filter_format.specs.declared.Filter.TheVariants.{Raw, Delta, Narrow, Follow, Other}
use Rattle.filter_format.specs.Units.{IsWidth, units_of, not_whole}
use Rattle.filter_format.specs.Delta.{delta_bytes, undelta_bytes}
use Rattle.filter_format.specs.Follow.{followed, unfollowed}
use Rattle.filter_format.specs.Block.{filter_of, HasUnitWidth, filter_at, is_raw, is_filter, header_length, level_at, follow_at, data_at, bad_level, bad_header, bad_data, decoded, undone, contents_test}
use Rattle.filter_format.specs.Undo.{Result, making, refusing, layer_test, undo_layer, block_test, undo_from}
use Rattle.filter_format.specs.Encode.{bad_given, bad_units, header_rest, encoded_data, encoded, encode_test, encode, SameFor}
use Rattle.filter_format.proofs.Wholes.{whole_units, below_units, bytes_of_units}
use Rattle.filter_format.proofs.Levels.{length-delta, length-undelta, undelta_delta_bytes, delta_undelta_bytes}
use Rattle.filter_format.proofs.Narrowing.{widen-narrow, lacking-narrow}
use Rattle.filter_format.proofs.Scans.{below_at}
use Rattle.filter_format.proofs.Following.{unfollow_follow, follow_unfollow}
use Rattle.filter_format.proofs.Results.{tested_ok, tested_makes}
use Rattle.filter_format.proofs.Blocks.{has_unit_width, header_fits, header_right, data_right}

-- every element of a list of bytes is one
byte_at : (l : List ℕ) → Bytes l → (i : ℕ) → get_or l i 0 < 256
byte_at l y i = below_at 256 (omega arith) l y i

-- what the tests ask of a block b whose filter is f, but for the room, and what undoing gives
record DecodesTo (f : Filter) (b s : List ℕ) : Type 0 where
  pub fits : header_length f ≤ length b
  pub header : bad_header f b ≡ false
  pub contents : bad_data f (data_at f b) ≡ false
  pub gives : decoded f (level_at b) (follow_at b) (data_at f b) ≡ s

-- a block of format 64, 65 or 66: its header by the two lengths that there are
delta_header : (t : Bool) (format level : ℕ) (xs : List ℕ)
    → (cond t 4 2 ≤ length (format ∷ (level ∷ replicate (cond t 4 2 - 2) 0 ++ xs)))
    × (ltb (first_not is_zero 2 (cond t 4 2) (format ∷ (level ∷ replicate (cond t 4 2 - 2) 0 ++ xs))) (cond t 4 2) ≡ false)
    × (drop (cond t 4 2) (format ∷ (level ∷ replicate (cond t 4 2 - 2) 0 ++ xs)) ≡ xs)
unfolding first_not leading_count
delta_header true format level xs = (omega arith, refl, refl)
delta_header false format level xs = (omega arith, refl, refl)

or-false : (t u : Bool) → t ≡ false → u ≡ false → (t || u) ≡ false
or-false t u e f = rw (e, f)

module _ (format level : ℕ) (follow s : List ℕ) (y : Bytes s) where
  block : Filter → List ℕ
  block f = format ∷ (header_rest f level follow ++ encoded_data f level follow s)

  open_delta : (w : ℕ) → IsWidth w → bad_level level ≡ false → not_whole w s ≡ false → DecodesTo (Delta w) (block (Delta w)) s
  unfolding block header_length header_rest encoded_data bad_header bad_data decoded
  open_delta w k l n =
      let xs = delta_bytes w level s in
      let h = delta_header (eqb w 4) format level xs in
      let whole : length s % w ≡ 0 = whole_units w s n in
      let same : length xs ≡ length s = length-delta w k.0 s whole level in
      record {
        fits = h.0;
        header = or-false _ _ l h.1;
        contents = rw (h.2, same) n;
        gives = rw h.2 (undelta_delta_bytes w k.0 s whole y level);
      }

  open_narrow : (w : ℕ) → IsWidth w → not_whole w s ≡ false → DecodesTo (Narrow w) (block (Narrow w)) s
  unfolding block header_length header_rest encoded_data bad_header bad_data decoded
  open_narrow w k n =
      let whole : length s % w ≡ 0 = whole_units w s n in
      let small = below_units w s whole y in
      record {
        fits = omega arith;
        header = refl;
        contents = rw (lacking-narrow w (units_of w s) k.0 small);
        gives = widen-narrow w (units_of w s) k.0 small ∙ bytes_of_units w s whole y;
      }

  open_follow : length follow ≡ 256 → Bytes follow → DecodesTo Follow (block Follow) s
  unfolding block header_length header_rest encoded_data bad_header bad_data decoded
  open_follow n z =
      let xs = followed follow s in
      let front : take 256 (follow ++ xs) ≡ follow = take_at follow xs 256 n in
      let back : drop 256 (follow ++ xs) ≡ xs = drop_at follow xs 256 n in
      let long : length (follow ++ xs) ≡ length follow + length xs = length-append follow xs in
      record {
        fits = omega arith;
        header = refl;
        contents = refl;
        gives = rw (front, back) (unfollow_follow follow (byte_at follow z) s y);
      }

  -- every filter
  opened : (f : Filter) → HasUnitWidth f → is_filter f ≡ true → bad_given f level follow ≡ false → bad_units f s ≡ false → Bytes follow → DecodesTo f (block f) s
  unfolding bad_given bad_units
  opened Raw k i g u z = let e : ◌≡◌ {A = ℕ} 0 1 = cc in absurd (omega arith)
  opened (Delta w) k i g u z = open_delta w k g u
  opened (Narrow w) k i g u z = open_narrow w k.0 u
  opened Follow k i g u z = open_follow (eqb-true (length follow) 256 (not-false _ g)) z
  opened Other k i g u z = let e : ◌≡◌ {A = ℕ} 0 1 = cc in absurd (omega arith)

-- an opened block passes the tests if there is room
module _ (room : ℕ) (b s : List ℕ) (o : DecodesTo (filter_at b) b s) where
  undone_is : undone (filter_at b) b ≡ s
  unfolding undone
  undone_is = o.gives

  contents_ok : length s ≤ room → contents_test (filter_at b) room b ≡ Accepted
  unfolding contents_test
  contents_ok h =
      both_ok _ _ (ok_under (length b) (header_length (filter_at b)) _ _ o.fits)
      (both_ok _ _ (ok-when _ _ _ o.header) (both_ok _ _ (ok-when _ _ _ o.contents) (ok_under room (length (undone (filter_at b) b)) _ _ (rw undone_is h))))

-- the tests of encoding, one by one
module _ (room format level : ℕ) (follow s : List ℕ) (ok : encode_test room format level follow s ≡ Accepted) where
  is_filter_lem : is_filter (filter_of format) ≡ true
  unfolding encode_test
  is_filter_lem = not-false _ (when-ok _ _ _ (first-ok _ _ ok))

  encoded_decodes : Bytes s → Bytes follow → DecodesTo (filter_of format) (encoded format level follow s) s
  unfolding encode_test encoded block
  encoded_decodes y z =
      opened format level follow s y (filter_of format) (has_unit_width format) is_filter_lem (when-ok _ _ _ (first-ok _ _ (second-ok _ _ ok)))
      (when-ok _ _ _ (first-ok _ _ (second-ok _ _ (second-ok _ _ ok)))) z

filter_encoded : (format level : ℕ) (follow s : List ℕ) → filter_at (encoded format level follow s) ≡ filter_of format
unfolding encoded
filter_encoded format level follow s = refl

nonempty : (x : ℕ) (l : List ℕ) → eqb (length (x ∷ l)) 0 ≡ false
nonempty x l = ne_eqb (suc (length l)) 0 (λ e. omega arith)

some : (format level : ℕ) (follow s : List ℕ) → eqb (length (encoded format level follow s)) 0 ≡ false
unfolding encoded
some format level follow s = nonempty format (header_rest (filter_of format) level follow ++ encoded_data (filter_of format) level follow s)

raw_none : (f : Filter) → is_filter f ≡ true → is_raw f ≡ false
raw_none Raw i = let e : ◌≡◌ {A = ℕ} 0 1 = cc in absurd (omega arith)
raw_none (Delta w) i = refl
raw_none (Narrow w) i = refl
raw_none Follow i = refl
raw_none Other i = refl

module _ (room room' format level : ℕ) (follow source : List ℕ) (y : Bytes source) (z : Bytes follow)
    (ok : (encode room format level follow source).answer ≡ Accepted) (fits : length source ≤ room') where
  layer : List ℕ
  layer = encoded format level follow source

  accepted : encode_test room format level follow source ≡ Accepted
  unfolding encode
  accepted = tested_ok _ _ ok

  made : (encode room format level follow source).bytes ≡ layer
  unfolding encode layer
  made = ap (λ (r : Result). r.bytes) (tested_makes _ (encoded format level follow source) accepted)

  decodes : DecodesTo (filter_at layer) layer source
  unfolding layer
  decodes =
      subst (λ (f : Filter). DecodesTo f layer source) (sym (filter_encoded format level follow source))
      (encoded_decodes room format level follow source accepted y z)

  filters : is_filter (filter_at layer) ≡ true
  unfolding layer
  filters = ap is_filter (filter_encoded format level follow source) ∙ is_filter_lem room format level follow source accepted

  -- "Undo after encode returns the data, both of one layer and with room enough"
  pub undo_after_encode : undo_layer room' (encode room format level follow source).bytes ≡ making source
  unfolding undo_layer layer_test layer
  undo_after_encode =
      rw made
      (tested_makes _ (undone (filter_at layer) layer)
      (both_ok _ _ (ok-when _ _ _ (some format level follow source)) (both_ok _ _ (ok-when _ _ _ (ap not filters)) (contents_ok room' layer source decodes fits)))
      ∙ ap making (undone_is room' layer source decodes))

  -- a layer of a chain: the block within it is what is undone next
  pub chain_after_encode : (left : ℕ)
      → undo_from (suc left) room' (encode room format level follow source).bytes ≡ undo_from left room' source
  unfolding undo_from block_test accepted_or layer
  chain_after_encode left =
      let raw = raw_none (filter_at layer) filters in
      let more : eqb (suc left) 0 ≡ false = ne_eqb (suc left) 0 (λ e. omega arith) in
      let test : block_test (suc left) room' layer ≡ Accepted =
      both_ok _ _ (ok-when _ _ _ (some format level follow source))
      (both_ok _ _ (ok-when _ _ _ (rw (raw, filters))) (both_ok _ _ (ok-when _ _ _ (rw (filters, more))) (contents_ok room' layer source decodes fits))) in
      rw (made, test, raw) (ap (undo_from left room') (undone_is room' layer source decodes))

  -- "44 a ninth filter": where no filter may be opened any more
  pub ninth_after_encode : undo_from 0 room' (encode room format level follow source).bytes ≡ refusing (Refused 44 0)
  unfolding undo_from block_test accepted_or when ◌then◌ layer
  ninth_after_encode =
      let raw = raw_none (filter_at layer) filters in
      rw (made, some format level follow source, raw, filters)

-- a header of format 64, 65 or 66 that was accepted has its zeros
pub zeros : (x y : ℕ) (t u : Bool) → eqb x 0 ≡ t → eqb y 0 ≡ u → ltb (2 + one_more t (one_more u 0)) 4 ≡ false → (x ≡ 0) × (y ≡ 0)
zeros x y true true e f h = (eqb-true x 0 e, eqb-true y 0 f)
zeros x y true false e f h = let k = ltb-false 3 4 h in absurd (omega arith)
zeros x y false u e f h = let k = ltb-false 2 4 h in absurd (omega arith)

delta_block : (t : Bool) (b : List ℕ) → cond t 4 2 ≤ length b → ltb (first_not is_zero 2 (cond t 4 2) b) (cond t 4 2) ≡ false
    → get_or b 0 0 ∷ (get_or b 1 0 ∷ replicate (cond t 4 2 - 2) 0 ++ drop (cond t 4 2) b) ≡ b
unfolding first_not leading_count
delta_block false [] h z = absurd (omega arith)
delta_block false (x ∷ []) h z = absurd (omega arith)
delta_block false (x ∷ y ∷ r) h z = refl
delta_block true [] h z = absurd (omega arith)
delta_block true (x ∷ []) h z = absurd (omega arith)
delta_block true (x ∷ y ∷ []) h z = absurd (omega arith)
delta_block true (x ∷ y ∷ v ∷ []) h z = absurd (omega arith)
delta_block true (x ∷ y ∷ v ∷ u ∷ r) h z = let k = zeros v u (eqb v 0) (eqb u 0) refl refl z in rw (k.0, k.1)

-- what encoding asks, and what it makes, of a block's data again
record Again (f : Filter) (b : List ℕ) (level : ℕ) (follow s : List ℕ) : Type 0 where
  pub filter : is_filter f ≡ true
  pub given : bad_given f level follow ≡ false
  pub units : bad_units f s ≡ false
  pub block_is : get_or b 0 0 ∷ (header_rest f level follow ++ encoded_data f level follow s) ≡ b

module _ (b : List ℕ) (y : Bytes b) (level : ℕ) (follow : List ℕ) where
  again-delta : (w : ℕ) → IsWidth w → header_length (Delta w) ≤ length b → bad_header (Delta w) b ≡ false → bad_data (Delta w) (drop (header_length (Delta w)) b) ≡ false
      → level ≡ level_at b → Again (Delta w) b level follow (undelta_bytes w level (drop (header_length (Delta w)) b))
  unfolding header_length bad_header bad_data bad_given bad_units header_rest encoded_data
  again-delta w k h e n l =
      let xs = drop (header_length (Delta w)) b in
      let whole : length xs % w ≡ 0 = whole_units w xs n in
      let same : length (undelta_bytes w level xs) ≡ length xs = length-undelta w k.0 xs whole level in
      record {
        filter = refl;
        given = rw l (or_left (bad_level (level_at b)) _ e);
        units = rw same n;
        block_is =
            rw (delta_undelta_bytes w k.0 xs whole (bytes_drop (header_length (Delta w)) b y) level)
            (rw l (delta_block (eqb w 4) b h (or_right (bad_level (level_at b)) _ e)));
      }

  again_follow : header_length Follow ≤ length b → follow ≡ follow_at b → Again Follow b level follow (unfollowed follow (drop 257 b))
  unfolding header_length bad_given bad_units header_rest encoded_data
  again_follow h l =
      let n : length follow ≡ 256 = ap length l ∙ length_part 1 256 b h in
      let z : Bytes follow = subst Bytes (sym l) (bytes-part 1 256 b y) in
      record {
        filter = refl;
        given = rw n;
        units = refl;
        block_is = rw (follow_unfollow follow (byte_at follow z) (drop 257 b) (bytes_drop 257 b y)) (rw l (follow_block b h));
      }
    where
      follow_block : (c : List ℕ) → 257 ≤ length c → get_or c 0 0 ∷ (part 1 256 c ++ drop 257 c) ≡ c
      follow_block [] k = absurd (omega arith)
      follow_block (x ∷ r) k = ap (λ (t : List ℕ). x ∷ t) (take-append-drop 256 r)

  again : (f : Filter) → HasUnitWidth f → header_length f ≤ length b → bad_header f b ≡ false → bad_data f (data_at f b) ≡ false → SameFor f b level follow
      → Again f b level follow (decoded f (level_at b) (follow_at b) (data_at f b))
  unfolding decoded header_length
  again Raw k h e n l = absurd l
  again (Delta w) k h e n l = rw (← l) (again-delta w k h e n l)
  again (Narrow w) k h e n l = absurd l
  again Follow k h e n l = rw (← l) (again_follow h l)
  again Other k h e n l = absurd l

-- "Encode after undo returns the block for 64, 65, 66, 72 (same level and follow bytes)"
pub encode_after_undo : (room room' level : ℕ) (follow block : List ℕ) → Bytes block
    → (undo_layer room block).answer ≡ Accepted → SameFor (filter_at block) block level follow → length block ≤ room'
    → encode room' (get_or block 0 0) level follow (undo_layer room block).bytes ≡ making block
unfolding undo_layer layer_test encode encode_test encoded undone
encode_after_undo room room' level follow block y ok same fits =
    let test = tested_ok _ _ ok in
    let contents : contents_test (filter_at block) room block ≡ Accepted = second-ok _ _ (second-ok _ _ test) in
    let a = again block y level follow (filter_at block) (has_unit_width (get_or block 0 0)) (header_fits (filter_at block) room block contents) (header_right (filter_at block) room block contents) (data_right (filter_at block) room block contents) same in
    let accepted =
    both_ok _ _ (ok-when _ _ _ (ap not a.filter))
    (both_ok _ _ (ok-when _ _ _ a.given) (both_ok _ _ (ok-when _ _ _ a.units) (ok_under room' (length (encoded (get_or block 0 0) level follow (undone (filter_at block) block))) _ _ (subst (λ (l : List ℕ). length l ≤ room') (sym a.block_is) fits)))) in
    rw (tested_makes (layer_test room block) (undone (filter_at block) block) test)
    (tested_makes _ _ accepted ∙ ap making a.block_is)
