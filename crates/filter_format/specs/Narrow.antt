-- Formats 70 and 71: "signed units of 2, 4 bytes; -127 to 127 as one byte, else byte 128 and the unit whole". Assumes
-- nothing: these are definitions.
use Rattle.std.specs.Prelude.{ℕ, zero, suc, ◌+◌, ◌-◌, ◌%◌, cond, List, [], ◌∷◌, ◌++◌, eqb, leb, ltb}
use Rattle.octets.specs.Numbers.{bytes_of}
use Rattle.filter_format.specs.Units.{range}

-- -127 as a unit, in two's complement
abbrev pub least_narrowed : ℕ → ℕ
least_narrowed width = range width - 127

-- "-127 to 127 as one byte, else byte 128 and the unit whole": 0 to 127, and the units from `least_narrowed` on, are
-- -127 to 127
unfoldable pub narrow_unit : ℕ → ℕ → List ℕ
narrow_unit width unit =
    cond (leb unit 127) (unit ∷ []) (cond (leb (least_narrowed width) unit) (unit % 256 ∷ []) (128 ∷ bytes_of width unit))

-- the units one after another
unfoldable pub narrow : ℕ → List ℕ → List ℕ
narrow width [] = []
narrow width (unit ∷ units) = narrow_unit width unit ++ narrow width units

-- the unit of a byte, which is not 128, with its sign
unfoldable pub extended : ℕ → ℕ → ℕ
extended width byte = cond (ltb byte 128) byte (range width - 256 + byte)

-- the inverse: the bytes of the units, where `due` bytes of a whole unit are still to come
unfoldable pub widen : ℕ → ℕ → List ℕ → List ℕ
widen width due [] = []
widen width zero (byte ∷ rest) =
    cond (eqb byte 128) [] (bytes_of width (extended width byte)) ++ widen width (cond (eqb byte 128) width 0) rest
widen width (suc due) (byte ∷ rest) = byte ∷ widen width due rest

-- "128 with too few bytes after it": how many bytes of a whole unit are lacking at the end of the same walk
unfoldable pub lacking : ℕ → ℕ → List ℕ → ℕ
lacking width due [] = due
lacking width zero (byte ∷ rest) = lacking width (cond (eqb byte 128) width 0) rest
lacking width (suc due) (byte ∷ rest) = lacking width due rest
