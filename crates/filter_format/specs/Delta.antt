-- Formats 64, 65 and 66, document 002's delta: "Level n means n times over: each unit less the one before, modulo the
-- unit's range, the first less 0". Assumes nothing: these are definitions.
use Rattle.std.specs.Prelude.{ℕ, zero, suc, ◌+◌, ◌-◌, ◌%◌, ◌≡◌, List, [], ◌∷◌}
use Rattle.octets.specs.Numbers.{Below, unit_bytes}
use Rattle.filter_format.specs.Units.{range, units_of}

-- along the units with the previous one remembered: `out` gives what takes the place of a unit, and `next` what is
-- remembered in the place of the previous one
unfoldable pub scan : (ℕ → ℕ → ℕ) → (ℕ → ℕ → ℕ) → ℕ → List ℕ → List ℕ
scan out next previous [] = []
scan out next previous (unit ∷ units) = out previous unit ∷ scan out next (next previous unit) units

-- "less the one before", modulo m; and its inverse
abbrev pub difference : ℕ → ℕ → ℕ → ℕ
difference modulus previous unit = (unit + (modulus - previous)) % modulus

abbrev pub sum : ℕ → ℕ → ℕ → ℕ
sum modulus previous unit = (previous + unit) % modulus

-- the unit itself is remembered
abbrev pub latest : ℕ → ℕ → ℕ
latest previous unit = unit

-- "each unit less the one before, modulo the unit's range, the first less 0"; the modulus is the range
abbrev pub delta : ℕ → List ℕ → List ℕ
delta modulus units = scan (difference modulus) latest 0 units

-- the inverse: the sum of each unit and all before it
abbrev pub undelta : ℕ → List ℕ → List ℕ
undelta modulus units = scan (sum modulus) (sum modulus) 0 units

-- "n times over"
unfoldable pub deltas : ℕ → ℕ → List ℕ → List ℕ
deltas modulus zero units = units
deltas modulus (suc level) units = delta modulus (deltas modulus level units)

-- the inverse, as many times
unfoldable pub undeltas : ℕ → ℕ → List ℕ → List ℕ
undeltas modulus zero units = units
undeltas modulus (suc level) units = undeltas modulus level (undelta modulus units)

-- the same of data in units of `width` bytes
unfoldable pub delta_bytes : ℕ → ℕ → List ℕ → List ℕ
delta_bytes width level source = unit_bytes width (deltas (range width) level (units_of width source))

unfoldable pub undelta_bytes : ℕ → ℕ → List ℕ → List ℕ
undelta_bytes width level source = unit_bytes width (undeltas (range width) level (units_of width source))

-- document 02 (vi), of each pass of the undo: "it turns the units of some data at one level into those of the same data
-- at one level less, level 0 being the data"
abbrev pub OneLevelLess : ℕ → List ℕ → List ℕ → Type 0
OneLevelLess width before after =
    (level : ℕ) (units : List ℕ) → Below (range width) units
    → before ≡ unit_bytes width (deltas (range width) (suc level) units)
    → after ≡ unit_bytes width (deltas (range width) level units)
