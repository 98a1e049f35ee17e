-- What the ZTR and SCF rules of document 002 ask of encoded data, each unit by itself. Assumes nothing: these are
-- definitions.
use Rattle.std.specs.Prelude.{ℕ, zero, suc, ◌+◌, ◌%◌, ◌^◌, ◌<◌, ◌≤◌, ◌≡◌, ◌⊎◌, List, [], ◌∷◌, ◌++◌, length, get_or}
use Rattle.octets.specs.Numbers.{bytes_of, unit_bytes}
use Rattle.answers.specs.Answer.{number_of}
use Rattle.filter_format.specs.Units.{units_of}
use Rattle.filter_format.specs.Encode.{encode}

-- ZTR, format 64: "replaces successive bytes with their differences .. For determining the first difference we compare
-- against zero .. unsigned values with automatic an wrap-around". ys are the differences of xs by the modulus: each
-- with the unit before makes the unit
pub record Differences (modulus : ℕ) (xs ys : List ℕ) : Type 0 where
  pub as_many : length ys ≡ length xs
  pub each : (i : ℕ) → i < length xs
      → (get_or ys i 0 < modulus) × ((get_or ys i 0 + get_or (0 ∷ xs) i 0) % modulus ≡ get_or xs i 0)

-- "The level indicates how many rounds of differencing to apply"
abbrev pub Rounds : ℕ → ℕ → List ℕ → List ℕ → Type 0
Rounds modulus zero xs ys = ys ≡ xs
Rounds modulus (suc level) xs ys = (zs : List ℕ) × Rounds modulus level xs zs × Differences modulus zs ys

-- the data in units of `width` bytes, at a level, behind a header: formats 64, 65 ("the difference between successive
-- 16-bit numbers") and 66; with no header SCF's samples: "first: delta = current_value - previous_value, then:
-- delta_delta = delta - previous_delta"
abbrev pub DeltaOf : List ℕ → ℕ → ℕ → List ℕ → List ℕ → Type 0
DeltaOf header width level source block =
    (ys : List ℕ) × Rounds (256 ^ width) level (units_of width source) ys × (block ≡ header ++ unit_bytes width ys)

-- "in the range of -127 to +127 inclusive": a unit of `width` bytes, in two's complement
abbrev pub IsSmall : ℕ → ℕ → Type 0
IsSmall width unit = (unit ≤ 127) ⊎ (256 ^ width ≤ unit + 127)

-- "then it is written as a single signed byte in the output stream, otherwise we write out -128 followed by the 2-byte
-- value (in big endian format)"
pub record Shortened (width unit : ℕ) (written : List ℕ) : Type 0 where
  pub small : IsSmall width unit → written ≡ unit % 256 ∷ []
  pub other : (IsSmall width unit → ⊥) → written ≡ 128 ∷ bytes_of width unit

abbrev pub AllShortened : ℕ → List ℕ → List ℕ → Type 0
AllShortened width [] ys = ys ≡ []
AllShortened width (unit ∷ units) ys =
    (written : List ℕ) × (rest : List ℕ) × Shortened width unit written × AllShortened width units rest
    × (ys ≡ written ++ rest)

-- formats 70, and 71, "similar to format 70, but we are reducing 32-bit numbers"
abbrev pub ShortenedOf : List ℕ → ℕ → List ℕ → List ℕ → Type 0
ShortenedOf header width source block =
    (ys : List ℕ) × AllShortened width (units_of width source) ys × (block ≡ header ++ ys)

-- format 72: "The first character in the data block is stored as-is. Then for each subsequent character we store the
-- difference between the predicted character value (obtained by using follow[previous_character]) and the real value"
pub record Predicted (follow xs ys : List ℕ) : Type 0 where
  pub as_many : length ys ≡ length xs
  pub first : get_or ys 0 0 ≡ get_or xs 0 0
  pub each : (i : ℕ) → suc i < length xs → (get_or ys (suc i) 0 < 256) × ((get_or ys (suc i) 0 + get_or xs (suc i) 0) % 256 ≡ get_or follow (get_or xs i 0) 0)

abbrev pub PredictedOf : List ℕ → List ℕ → List ℕ → List ℕ → Type 0
PredictedOf header follow source block = (ys : List ℕ) × Predicted follow source ys × (block ≡ header ++ ys)

-- what encoding makes of the data, where it is carried out, by the six formats
pub record EncodedByRule (room level : ℕ) (follow source : List ℕ) : Type 0 where
  pub by_64 : number_of (encode room 64 level follow source).answer ≡ 0
      → DeltaOf (64 ∷ level ∷ []) 1 level source (encode room 64 level follow source).bytes
  pub by_65 : number_of (encode room 65 level follow source).answer ≡ 0
      → DeltaOf (65 ∷ level ∷ []) 2 level source (encode room 65 level follow source).bytes
  pub by_66 : number_of (encode room 66 level follow source).answer ≡ 0
      → DeltaOf (66 ∷ level ∷ 0 ∷ 0 ∷ []) 4 level source (encode room 66 level follow source).bytes
  pub by_70 : number_of (encode room 70 level follow source).answer ≡ 0
      → ShortenedOf (70 ∷ []) 2 source (encode room 70 level follow source).bytes
  pub by_71 : number_of (encode room 71 level follow source).answer ≡ 0
      → ShortenedOf (71 ∷ []) 4 source (encode room 71 level follow source).bytes
  pub by_72 : number_of (encode room 72 level follow source).answer ≡ 0
      → PredictedOf (72 ∷ follow) follow source (encode room 72 level follow source).bytes
