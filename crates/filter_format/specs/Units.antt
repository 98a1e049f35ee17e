-- Data in units of `width` bytes, big endian. Assumes nothing: these are definitions.
use Rattle.std.specs.Prelude.{ℕ, ◌/◌, ◌%◌, ◌^◌, ◌<◌, ◌≤◌, Bool, not, List, ◌≢◌, length, eqb}
use Rattle.octets.specs.Numbers.{units_at}

-- "units of 1, 2, 4 bytes": what a function that takes a width asks of it
abbrev pub IsWidth : ℕ → Type 0
IsWidth width = (0 < width) × (width ≤ 4) × (width ≢ 3)

-- "the unit's range": a unit of `width` bytes has so many values
abbrev pub range : ℕ → ℕ
range width = 256 ^ width

-- the units of the data
abbrev pub units_of : ℕ → List ℕ → List ℕ
units_of width source = units_at width (length source / width) 0 source

-- "data not whole units"
abbrev pub not_whole : ℕ → List ℕ → Bool
not_whole width source = not (eqb (length source % width) 0)
