-- Levels and zeros in document 01's words, from the numbers alone: a slip that a
-- definition and the code make alike is refused here. And the long form of a small value, computed. Assumes nothing.
use mathlib.Core.Path.{◌≡◌, refl, ap, ◌∙◌}
use mathlib.Core.Bool.{Bool, true, false, not, ◌&&◌, ◌||◌}
use mathlib.Core.Logic.{◌⊎◌, inl, inr, ⊎_elim}
use mathlib.Core.List.{List, [], ◌∷◌}
use Prim.Native.Nat.{ℕ, ◌<◌, ◌≤◌}
use native.Mathlib.Omega.{arith}
use borrow.Author.Tests.{leb-true, lt-leb, le-ltb, ne_eqb, not-false}
use lib.Dec.{eqb, leb, ltb}
use lib.ListN.{length, get_or}
use Rattle.octets.specs.Numbers.{big_endian_from, number, bytes_of, units_at}
use Rattle.octets.specs.Scans.{leading_count, first_not, is_zero}
use Rattle.answers.specs.Answer.{Accepted, Refused, when, ◌then◌, accepted_or}
use Rattle.answers.proofs.Answers.{first-ok, second-ok, when-ok, or_left, or_right, and_both}
use Rattle.filter_format.specs.declared.Filter.TheVariants.{Delta}
use Rattle.filter_format.specs.Narrow.{narrow_unit, narrow, extended, widen, lacking}
use Rattle.filter_format.specs.Block.{filter_of, header_length, level_at, bad_level, bad_header, bad_data, decoded, undone, contents_test}
use Rattle.filter_format.specs.Undo.{making, refusing, block_test, undo_from, undo, layer_test, undo_layer}
use Rattle.filter_format.specs.Encode.{bad_given, bad_units, header_rest, encoded_data, encoded, encode_test, encode}
use Rattle.filter_format.proofs.Results.{tested_ok}
use Rattle.filter_format.proofs.Blocks.{header_fits, header_right}
use Rattle.filter_format.proofs.Layers.{zeros}

-- "64, 65, 66: level byte .. (66: then two zeros), data in units of 1, 2, 4 bytes": a format, the width of its units,
-- and where its data begin
abbrev pub DeltaFormat : ℕ → ℕ → ℕ → Type 0
DeltaFormat format w start =
    ((format ≡ 64) × (w ≡ 1) × (start ≡ 2)) ⊎ (((format ≡ 65) × (w ≡ 2) × (start ≡ 2)) ⊎ ((format ≡ 66) × (w ≡ 4) × (start ≡ 4)))

delta-format : (format w start : ℕ) → DeltaFormat format w start → (filter_of format ≡ Delta w) × (header_length (Delta w) ≡ start) × (2 ≤ start)
unfolding filter_of header_length
delta-format format w start (inl h) = rw (h.0, h.1, h.2) (refl, refl, omega arith)
delta-format format w start (inr (inl h)) = rw (h.0, h.1, h.2) (refl, refl, omega arith)
delta-format format w start (inr (inr h)) = rw (h.0, h.1, h.2) (refl, refl, omega arith)

-- "level byte, 1 to 3 here"
level_in : (level : ℕ) → bad_level level ≡ false → (1 ≤ level) × (level ≤ 3)
level_in level e =
    let h = and_both (leb 1 level) (leb level 3) (not-false _ e) in
    (leb-true 1 level h.0, leb-true level 3 h.1)

level_out : (level : ℕ) → (level ≡ 0) ⊎ (3 < level) → bad_level level ≡ true
level_out level (inl h) = rw h
level_out level (inr h) = above (leb 1 level) (leb level 3) (lt-leb level 3 h)
  where
    above : (s t : Bool) → t ≡ false → not (s && t) ≡ true
    above true t e = ap not e
    above false t e = refl

-- "66: then two zeros"
zeros_right : (b : List ℕ) → 4 ≤ length b → ltb (first_not is_zero 2 4 b) 4 ≡ false → (get_or b 2 0 ≡ 0) × (get_or b 3 0 ≡ 0)
unfolding first_not leading_count
zeros_right [] l e = absurd (let a : ⊥ = omega arith in a)
zeros_right (f ∷ []) l e = absurd (let a : ⊥ = omega arith in a)
zeros_right (f ∷ n ∷ []) l e = absurd (let a : ⊥ = omega arith in a)
zeros_right (f ∷ n ∷ x ∷ []) l e = absurd (let a : ⊥ = omega arith in a)
zeros_right (f ∷ n ∷ x ∷ y ∷ s) l e = zeros x y (eqb x 0) (eqb y 0) refl refl e

zeros_wrong : (b : List ℕ) → 4 ≤ length b → ((get_or b 2 0 ≡ 0 → ⊥) ⊎ (get_or b 3 0 ≡ 0 → ⊥)) → ltb (first_not is_zero 2 4 b) 4 ≡ true
zeros_wrong b l h = go (ltb (first_not is_zero 2 4 b) 4) refl
  where
    go : (t : Bool) → ltb (first_not is_zero 2 4 b) 4 ≡ t → t ≡ true
    go true e = refl
    go false e = let z = zeros_right b l e in absurd (⊎_elim (λ k. k z.0) (λ k. k z.1) h)

-- a block of such a format: what its header may be
module _ (room width start : ℕ) (block : List ℕ) (d : DeltaFormat (get_or block 0 0) width start) where
  opened : (undo_layer room block).answer ≡ Accepted → (bad_header (Delta width) block ≡ false) × (start ≤ length block)
  unfolding undo_layer layer_test
  opened e =
      let x = delta-format (get_or block 0 0) width start d in
      let c = rw x.0 at (second-ok _ _ (second-ok _ _ (tested_ok _ _ e))) in
      let s = x.1 in
      let f = header_fits (Delta width) room block c in
      (header_right (Delta width) room block c, omega arith)

  pub level_opened : (undo_layer room block).answer ≡ Accepted → (1 ≤ level_at block) × (level_at block ≤ 3)
  unfolding bad_header
  level_opened e = level_in (level_at block) (or_left _ _ (opened e).0)

  pub zeros_opened : start ≡ 4 → (undo_layer room block).answer ≡ Accepted → (get_or block 2 0 ≡ 0) × (get_or block 3 0 ≡ 0)
  unfolding bad_header
  zeros_opened z e =
      let o = opened e in
      let l = o.1 in
      let h : header_length (Delta width) ≡ 4 = (delta-format (get_or block 0 0) width start d).1 ∙ z in
      zeros_right block (omega arith) (rw h at (or_right (bad_level (level_at block)) _ o.0))

  -- "42 level or zeros wrong", of a block whose header is not cut short
  module _ (fits : start ≤ length block) where
    module _ (bad : bad_header (Delta width) block ≡ true) where
      contents_refused : contents_test (Delta width) room block ≡ Refused 42 0
      unfolding contents_test when ◌then◌
      contents_refused =
          let s = (delta-format (get_or block 0 0) width start d).1 in
          rw (le-ltb (length block) (header_length (Delta width)) (omega arith), bad)

      some : eqb (length block) 0 ≡ false
      some = let s = (delta-format (get_or block 0 0) width start d).2 in ne_eqb (length block) 0 (λ e. omega arith)

      refused_alone : undo_layer room block ≡ refusing (Refused 42 0)
      unfolding undo_layer layer_test accepted_or when ◌then◌
      refused_alone = rw (some, (delta-format (get_or block 0 0) width start d).0, contents_refused)

      refused_first : undo room block ≡ refusing (Refused 42 0)
      unfolding undo_from block_test accepted_or when ◌then◌
      refused_first = rw (some, (delta-format (get_or block 0 0) width start d).0, contents_refused)

    pub level_refused : (level_at block ≡ 0) ⊎ (3 < level_at block)
        → (undo_layer room block ≡ refusing (Refused 42 0)) × (undo room block ≡ refusing (Refused 42 0))
    unfolding bad_header
    level_refused out =
        let bad : bad_header (Delta width) block ≡ true = rw (level_out (level_at block) out) in
        (refused_alone bad, refused_first bad)

    pub zeros_refused : start ≡ 4 → (get_or block 2 0 ≡ 0 → ⊥) ⊎ (get_or block 3 0 ≡ 0 → ⊥)
        → (undo_layer room block ≡ refusing (Refused 42 0)) × (undo room block ≡ refusing (Refused 42 0))
    unfolding bad_header
    zeros_refused z out =
        let h : header_length (Delta width) ≡ 4 = (delta-format (get_or block 0 0) width start d).1 ∙ z in
        let bad : bad_header (Delta width) block ≡ true = rw (h, zeros_wrong block (omega arith) out) (either (bad_level (level_at block))) in
        (refused_alone bad, refused_first bad)
      where
        either : (t : Bool) → (t || true) ≡ true
        either true = refl
        either false = refl

-- a layer that is made of data
module _ (room format width start level : ℕ) (follow source : List ℕ) (d : DeltaFormat format width start) where
  pub level_encoded : (encode room format level follow source).answer ≡ Accepted → (1 ≤ level) × (level ≤ 3)
  unfolding encode encode_test bad_given
  level_encoded e =
      let h = when-ok _ _ _ (first-ok _ _ (second-ok _ _ (tested_ok _ _ e))) in
      level_in level (rw (delta-format format width start d).0 at h)

  pub level_not_encoded : (level ≡ 0) ⊎ (3 < level) → encode room format level follow source ≡ refusing (Refused 42 0)
  unfolding encode encode_test bad_given accepted_or when ◌then◌
  level_not_encoded out = rw ((delta-format format width start d).0, level_out level out)

-- "not for 70, 71, where a small value may stand in long form": 5 in long form is undone, and encoded it has one byte
pub long_form : (undo_layer 8 (70 ∷ 128 ∷ 0 ∷ 5 ∷ []) ≡ making (0 ∷ 5 ∷ [])) × (encode 8 70 0 [] (0 ∷ 5 ∷ []) ≡ making (70 ∷ 5 ∷ []))
    × (undo_layer 8 (71 ∷ 128 ∷ 0 ∷ 0 ∷ 0 ∷ 5 ∷ []) ≡ making (0 ∷ 0 ∷ 0 ∷ 5 ∷ [])) × (encode 8 71 0 [] (0 ∷ 0 ∷ 0 ∷ 5 ∷ []) ≡ making (71 ∷ 5 ∷ []))
unfolding big_endian_from number bytes_of units_at when ◌then◌ accepted_or narrow_unit narrow extended widen lacking filter_of header_length bad_header bad_data decoded undone contents_test layer_test undo_layer bad_given bad_units header_rest encoded_data encoded encode_test encode
long_form = (refl, refl, refl, refl)
