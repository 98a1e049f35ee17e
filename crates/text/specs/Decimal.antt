-- Numbers as the programs print them: in decimal. Assumes nothing: these are definitions.
use Rattle.std.specs.Prelude.{ℕ, zero, suc, ◌+◌, ◌/◌, ◌%◌, cond, List, [], ◌∷◌, ◌++◌, ltb}

-- the decimal digits of n, with no zero in front, as bytes from 48 ("0") to 57 ("9"); only the last k of them where n
-- has more
unfoldable pub decimal_of : ℕ → ℕ → List ℕ
decimal_of zero n = []
decimal_of (suc k) n = cond (ltb n 10) ((48 + n) ∷ []) (decimal_of k (n / 10) ++ ((48 + n % 10) ∷ []))

-- the decimal digits of a number of 64 bits: it has at most 20
abbrev pub decimal : ℕ → List ℕ
decimal n = decimal_of 20 n
