-- Sentences of document 01, "Filtered blocks", in its order, as theorems over the definitions. Assumes nothing.
use Prim.Native.Nat.{ℕ, suc, ◌≤◌, ◌<◌}
use mathlib.Core.Path.{◌≡◌, ap}
use mathlib.Core.Logic.{◌⊎◌}
use mathlib.Core.List.{List, [], ◌∷◌}
use lib.ListN.{length, get_or}
use Rattle.octets.specs.Numbers.{Bytes}
use Rattle.answers.specs.Answer.{Refused, number_of}
use Rattle.filter_format.specs.Block.{filter_at}
use Rattle.filter_format.specs.Undo.{making, refusing, filtered, undo, undo_layer, undo_from}
use Rattle.filter_format.specs.Encode.{encode, SameFor}
use Rattle.filter_format.specs.Samples.{encode_samples, undo_samples}
use Rattle.filter_format.proofs.Layers.{chain_after_encode, ninth_after_encode, encode_after_undo}
use Rattle.filter_format.proofs.Eight.{under, eight_at_most}
use Rattle.filter_format.proofs.Sampled.{encode_after_undo_samples}
use Rattle.filter_format.proofs.Refusals.{layer_zero, encode_zero, undo_samples_zero, undo_none, layer_none, encode_none, encode_samples_none, undo_samples_none}
use Rattle.filter_format.proofs.InWords.{DeltaFormat, level_opened, zeros_opened, level_refused, zeros_refused, level_encoded, level_not_encoded, long_form}

-- FILTERED BLOCKS. "a filter the number of bytes it made (refused: 0)"
pub refused_undo : (room : ℕ) (block : List ℕ) → (number_of (undo room block).answer ≡ 0 → ⊥)
    → (filtered (undo room block)).made ≡ 0
refused_undo room block h = ap length (undo_none room block h)

pub refused_layer : (room : ℕ) (block : List ℕ) → (number_of (undo_layer room block).answer ≡ 0 → ⊥)
    → (filtered (undo_layer room block)).made ≡ 0
refused_layer room block h = ap length (layer_none room block h)

pub refused_encode : (room format level : ℕ) (follow source : List ℕ)
    → (number_of (encode room format level follow source).answer ≡ 0 → ⊥)
    → (filtered (encode room format level follow source)).made ≡ 0
refused_encode room format level follow source h = ap length (encode_none room format level follow source h)

pub refused_samples : (room precision : ℕ) (source : List ℕ)
    → (number_of (encode_samples room precision source).answer ≡ 0 → ⊥)
    → (filtered (encode_samples room precision source)).made ≡ 0
refused_samples room precision source h = ap length (encode_samples_none room precision source h)

pub refused_samples_back : (room precision : ℕ) (source : List ℕ)
    → (number_of (undo_samples room precision source).answer ≡ 0 → ⊥)
    → (filtered (undo_samples room precision source)).made ≡ 0
refused_samples_back room precision source h = ap length (undo_samples_none room precision source h)

-- "64, 65, 66: level byte, 1 to 3 here (66: then two zeros), data in units of 1, 2, 4 bytes". Of such a block, of units
-- of `width` bytes whose data start at `start`: one that is undone has such a level, and zeros; any other header is 42,
-- where the tests before it pass
pub level_of_block : (room width start : ℕ) (block : List ℕ) → DeltaFormat (get_or block 0 0) width start
    → number_of (undo_layer room block).answer ≡ 0
    → (1 ≤ get_or block 1 0) × (get_or block 1 0 ≤ 3) × (start ≡ 4 → (get_or block 2 0 ≡ 0) × (get_or block 3 0 ≡ 0))
level_of_block room width start block delta carried =
    let a = layer_zero room block carried in
    let l = level_opened room width start block delta a in
    (l.0, l.1, λ z. zeros_opened room width start block delta z a)

pub other_level_of_block : (room width start : ℕ) (block : List ℕ) → DeltaFormat (get_or block 0 0) width start
    → start ≤ length block
    → (get_or block 1 0 ≡ 0) ⊎ (3 < get_or block 1 0)
    → (undo_layer room block ≡ refusing (Refused 42 0)) × (undo room block ≡ refusing (Refused 42 0))
other_level_of_block = level_refused

pub no_zeros_in_block : (room width start : ℕ) (block : List ℕ) → DeltaFormat (get_or block 0 0) width start
    → start ≤ length block
    → start ≡ 4 → (get_or block 2 0 ≡ 0 → ⊥) ⊎ (get_or block 3 0 ≡ 0 → ⊥)
    → (undo_layer room block ≡ refusing (Refused 42 0)) × (undo room block ≡ refusing (Refused 42 0))
no_zeros_in_block = zeros_refused

-- a layer that is made of data has such a level; any other level is 42
module _ (room format width start level : ℕ) (follow source : List ℕ) (delta : DeltaFormat format width start) where
  pub level_given : number_of (encode room format level follow source).answer ≡ 0 → (1 ≤ level) × (level ≤ 3)
  level_given carried =
      level_encoded room format width start level follow source delta
      (encode_zero room format level follow source carried)

  pub other_level_given : (level ≡ 0) ⊎ (3 < level) → encode room format level follow source ≡ refusing (Refused 42 0)
  other_level_given = level_not_encoded room format width start level follow source delta

-- "An opened layer hands its block to the choice of format, which opens the next layer, eight at most"
-- (`filter_undo::undo`): a layer that encoding made, where some may still be opened, and where none may
module _ (room room' format level : ℕ) (follow source : List ℕ) (source-bytes : Bytes source) (follow-bytes : Bytes follow)
    (carried : number_of (encode room format level follow source).answer ≡ 0) (fits : length source ≤ room') where
  pub layer_in_chain : (left : ℕ)
      → undo_from (suc left) room' (encode room format level follow source).bytes ≡ undo_from left room' source
  layer_in_chain left =
      chain_after_encode room room' format level follow source source-bytes follow-bytes
      (encode_zero room format level follow source carried) fits left

  pub ninth_filter : undo_from 0 room' (encode room format level follow source).bytes ≡ refusing (Refused 44 0)
  ninth_filter =
      ninth_after_encode room room' format level follow source source-bytes follow-bytes
      (encode_zero room format level follow source carried) fits

-- so eight filters are undone, and the ninth is refused
pub eight_filters : (undo 32 (under 8 (0 ∷ 7 ∷ [])) ≡ making (7 ∷ [])) × (undo 32 (under 9 (0 ∷ 7 ∷ [])) ≡ refusing (Refused 44 0))
eight_filters = eight_at_most

-- SCF samples: encode after undo
pub encoding_undoes_samples : (room room' precision : ℕ) (source : List ℕ) → Bytes source → length source ≤ room'
    → number_of (undo_samples room precision source).answer ≡ 0
    → encode_samples room' precision (undo_samples room precision source).bytes ≡ making source
encoding_undoes_samples room room' precision source y fits carried =
    encode_after_undo_samples room room' precision source y fits (undo_samples_zero room precision source carried)

-- "Encode after undo returns the block for 64, 65, 66, 72 (same level and follow bytes)"
pub encoding_undoes_filter : (room room' level : ℕ) (follow block : List ℕ) → Bytes block
    → number_of (undo_layer room block).answer ≡ 0 → SameFor (filter_at block) block level follow → length block ≤ room'
    → encode room' (get_or block 0 0) level follow (undo_layer room block).bytes ≡ making block
encoding_undoes_filter room room' level follow block y carried same fits =
    encode_after_undo room room' level follow block y (layer_zero room block carried) same fits

-- "not for 70, 71, where a small value may stand in long form": 5 in long form is undone to the unit, and the unit is
-- encoded in one byte
pub long_form_lost : (undo_layer 8 (70 ∷ 128 ∷ 0 ∷ 5 ∷ []) ≡ making (0 ∷ 5 ∷ [])) × (encode 8 70 0 [] (0 ∷ 5 ∷ []) ≡ making (70 ∷ 5 ∷ []))
    × (undo_layer 8 (71 ∷ 128 ∷ 0 ∷ 0 ∷ 0 ∷ 5 ∷ []) ≡ making (0 ∷ 0 ∷ 0 ∷ 5 ∷ [])) × (encode 8 71 0 [] (0 ∷ 0 ∷ 0 ∷ 5 ∷ []) ≡ making (71 ∷ 5 ∷ []))
long_form_lost = long_form
