-- How long a block is, and that the numbers in its header are bytes. Assumes nothing.
use mathlib.Core.Path.{◌≡◌, refl, ap}
use mathlib.Core.Bool.{Bool, true, false, cond, ◌&&◌}
use mathlib.Core.List.{List, ◌∷◌}
use Prim.Native.Nat.{ℕ, suc, ◌+◌, ◌-◌, ◌%◌, ◌≤◌}
use native.Mathlib.Omega.{arith}
use borrow.Author.Tests.{eqb-true, leb-true, not-false}
use lib.Dec.{eqb, leb}
use lib.ListN.{length, replicate, length-append}
use Rattle.filter_format.specs.declared.Filter.{Filter}
use Rattle.filter_format.specs.declared.Filter.TheVariants.{Raw, Delta, Narrow, Follow, Other}
use Rattle.filter_format.specs.Block.{filter_of, HasUnitWidth, is_filter, header_length, bad_level}
use Rattle.filter_format.specs.Encode.{bad_given, bad_units, header_rest, encoded_data, encoded}
use Rattle.filter_format.proofs.Wholes.{whole_units}
use Rattle.filter_format.proofs.Following.{length-followed}
use Rattle.filter_format.proofs.Levels.{length-delta}
use Rattle.filter_format.proofs.Blocks.{has_unit_width}
use Rattle.filter_encode.specs.Judged.{data_length}

pub follow_long : (level : ℕ) (follow : List ℕ) → bad_given Follow level follow ≡ false → length follow ≡ 256
unfolding bad_given
follow_long level follow e = eqb-true (length follow) 256 (not-false _ e)

length_data : (f : Filter) (level : ℕ) (follow s : List ℕ) → HasUnitWidth f → bad_units f s ≡ false
    → length (encoded_data f level follow s) ≡ data_length f s
unfolding encoded_data data_length bad_units
length_data Raw level follow s k e = refl
length_data (Delta w) level follow s k e = length-delta w k.0 s (whole_units w s e) level
length_data (Narrow w) level follow s k e = refl
length_data Follow level follow s k e = length-followed follow s
length_data Other level follow s k e = refl

-- the format byte and what follows it up to the data
level_and_zeros : (t : Bool) → suc (suc (length {A = ℕ} (replicate (cond t 4 2 - 2) 0))) ≡ cond t 4 2
level_and_zeros true = refl
level_and_zeros false = refl

pub length_header : (f : Filter) (format level : ℕ) (follow : List ℕ) → bad_given f level follow ≡ false
    → length (format ∷ header_rest f level follow) ≡ header_length f
unfolding header_rest header_length bad_given
length_header Raw format level follow e = refl
length_header (Delta w) format level follow e = level_and_zeros (eqb w 4)
length_header (Narrow w) format level follow e = refl
length_header Follow format level follow e = ap suc (follow_long level follow e)
length_header Other format level follow e = refl

pub length-encoded : (format level : ℕ) (follow s : List ℕ) → bad_given (filter_of format) level follow ≡ false
    → bad_units (filter_of format) s ≡ false
    → length (encoded format level follow s) ≡ header_length (filter_of format) + data_length (filter_of format) s
unfolding encoded
length-encoded format level follow s g u =
    let f = filter_of format in
    let header : length (format ∷ header_rest f level follow) ≡ header_length f = length_header f format level follow g in
    let long = length-append (format ∷ header_rest f level follow) (encoded_data f level follow s) in
    let body = length_data f level follow s (has_unit_width format) u in
    omega arith

-- the format of a filter, and a level, are bytes
pub format_byte : (format : ℕ) → is_filter (filter_of format) ≡ true → format % 256 ≡ format
unfolding filter_of
format_byte format i =
    let h = step 0 Raw _ (omega arith)
    (step 64 (Delta 1) _ (omega arith) (step 65 (Delta 2) _ (omega arith) (step 66 (Delta 4) _ (omega arith)
    (step 70 (Narrow 2) _ (omega arith) (step 71 (Narrow 4) _ (omega arith) (step 72 Follow Other (omega arith) none)))))) i in
    omega arith
  where
    none : is_filter Other ≡ true → format ≤ 72
    none e = let z : ◌≡◌ {A = ℕ} 0 1 = cc in absurd (omega arith)

    step : (k : ℕ) (f g : Filter) → k ≤ 72 → (is_filter g ≡ true → format ≤ 72) → is_filter (cond (eqb format k) f g) ≡ true → format ≤ 72
    step k f g b h = go (eqb format k) refl
      where
        go : (t : Bool) → eqb format k ≡ t → is_filter (cond t f g) ≡ true → format ≤ 72
        go true e j = let q = eqb-true format k e in omega arith
        go false e j = h j

pub level_byte : (level : ℕ) → bad_level level ≡ false → level % 256 ≡ level
level_byte level e = let h = leb-true level 3 (second (leb 1 level) _ (not-false _ e)) in omega arith
  where
    second : (t u : Bool) → (t && u) ≡ true → u ≡ true
    second true u h = h
    second false u h = let z : ◌≡◌ {A = ℕ} 0 1 = cc in absurd (omega arith)
