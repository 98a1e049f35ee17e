-- Words of this crate's contracts: what its functions answer of units of formats 70 and 71. Assumes nothing: these are
-- definitions.
use Rattle.std.specs.Prelude.{ℕ, zero, suc, Bool, cond, ◌||◌, List, [], ◌∷◌, Option, None, Some, eqb, leb, ltb}
use Rattle.filter_format.specs.Narrow.{least_narrowed, lacking}

-- how many units begin, where `due` bytes of a whole unit are still to come: the walk of `lacking`
unfoldable pub begun : ℕ → ℕ → List ℕ → ℕ
begun width due [] = 0
begun width zero (byte ∷ rest) = suc (begun width (cond (eqb byte 128) width 0) rest)
begun width (suc due) (byte ∷ rest) = begun width due rest

-- how many units the data hold; none where the last is cut short
unfoldable pub counted : ℕ → List ℕ → Option ℕ
counted width source = cond (ltb 0 (lacking width 0 source)) None (Some (begun width 0 source))

-- "-127 to 127", in two's complement
abbrev pub fits_one : ℕ → ℕ → Bool
fits_one width unit = leb unit 127 || leb (least_narrowed width) unit
