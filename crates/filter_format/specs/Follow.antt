-- Format 72: "first data byte as is, then follow[previous byte] less the byte, modulo 256". Assumes nothing: these are
-- definitions.
use Rattle.std.specs.Prelude.{ℕ, ◌+◌, ◌-◌, ◌%◌, List, [], ◌∷◌, get_or}
use Rattle.filter_format.specs.Delta.{scan, latest}

-- "follow[previous byte] less the byte, modulo 256"
abbrev pub predicted : List ℕ → ℕ → ℕ → ℕ
predicted follow previous byte = (get_or follow previous 0 + (256 - byte)) % 256

-- "first data byte as is, then .."
unfoldable pub followed : List ℕ → List ℕ → List ℕ
followed follow [] = []
followed follow (byte ∷ bytes) = byte ∷ scan (predicted follow) latest byte bytes

-- the inverse: the previous byte is the data's, not the stored one
unfoldable pub unfollowed : List ℕ → List ℕ → List ℕ
unfollowed follow [] = []
unfollowed follow (byte ∷ bytes) = byte ∷ scan (predicted follow) (predicted follow) byte bytes
