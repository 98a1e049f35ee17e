-- Big-endian numbers of any width. Assumes nothing: these are definitions.
use Rattle.std.specs.Prelude.{ℕ, zero, suc, ◌+◌, ◌*◌, ◌/◌, ◌%◌, ◌^◌, ◌<◌, List, [], ◌∷◌, ◌++◌}
use Rattle.octets.specs.Parts.{part}

-- every element is below the limit
abbrev pub Below : ℕ → List ℕ → Type 0
Below limit [] = Unit {0}
Below limit (x ∷ xs) = (x < limit) × Below limit xs

-- every element is a byte
abbrev pub Bytes : List ℕ → Type 0
Bytes xs = Below 256 xs

-- the number that `front`, followed by the digits xs to base 256, spells
unfoldable pub big_endian_from : ℕ → List ℕ → ℕ
big_endian_from front [] = front
big_endian_from front (x ∷ xs) = big_endian_from (front * 256 + x) xs

-- the number that the bytes xs spell, the most significant first
abbrev pub big_endian : List ℕ → ℕ
big_endian xs = big_endian_from 0 xs

-- the number of `width` bytes at a place
unfoldable pub number : ℕ → ℕ → List ℕ → ℕ
number width place bytes = big_endian (part place width bytes)

-- the k low bytes of the value, the most significant first
unfoldable pub bytes_of : ℕ → ℕ → List ℕ
bytes_of zero value = []
bytes_of (suc k) value = value / 256 ^ k % 256 ∷ bytes_of k value

-- numbers one after another, each behind its width in bytes
unfoldable pub fields : List (ℕ × ℕ) → List ℕ
fields [] = []
fields (x ∷ xs) = bytes_of x.0 x.1 ++ fields xs

-- numbers of `width` bytes each
unfoldable pub unit_bytes : ℕ → List ℕ → List ℕ
unit_bytes width [] = []
unit_bytes width (value ∷ values) = bytes_of width value ++ unit_bytes width values

-- the n numbers of `width` bytes from a place on
unfoldable pub units_at : ℕ → ℕ → ℕ → List ℕ → List ℕ
units_at width zero place bytes = []
units_at width (suc n) place bytes = number width place bytes ∷ units_at width n (place + width) bytes

-- the same of 2 bytes, and that each fits them
abbrev pub words : List ℕ → List ℕ
words values = unit_bytes 2 values

abbrev pub words_at : ℕ → ℕ → List ℕ → List ℕ
words_at n place bytes = units_at 2 n place bytes

abbrev pub Words : List ℕ → Type 0
Words values = Below 65536 values
