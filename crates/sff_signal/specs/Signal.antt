-- "Signal summary": three numbers of a read's stored values. Assumes nothing: these are definitions.
use Rattle.std.specs.Prelude.{ℕ, ◌+◌, ◌*◌, min, max, false, List, [], ◌∷◌, length, pos, Float}
use Rattle.std.specs.Float.{fin, binary64}
use Rattle.std.specs.Float.Ieee.{div, of_int}
use Rattle.answers.specs.Answer.{accepted_or}
use Rattle.sff_format.specs.Parse.{parse}
use Rattle.sff_format.specs.Places.{read_at}
use Rattle.sff_format.specs.Position.{signal_test}
use Rattle.sff_signal.specs.declared.Summary.{Summary}

-- "the exact sum of stored values"
unfoldable pub sum_of : List ℕ → ℕ
sum_of [] = 0
sum_of (value ∷ values) = value + sum_of values

-- the largest
unfoldable pub max_of : List ℕ → ℕ
max_of [] = 0
max_of (value ∷ values) = max value (max_of values)

-- the smallest; 0 of none, which is never asked
unfoldable pub min_of : List ℕ → ℕ
min_of [] = 0
min_of (value ∷ []) = value
min_of (value ∷ next ∷ values) = min value (min_of (next ∷ values))

-- "each of one division": of two whole numbers, each of them exactly a float
abbrev pub quotient : ℕ → ℕ → Float
quotient numerator denominator = div binary64 (of_int binary64 (pos numerator)) (of_int binary64 (pos denominator))

-- "Strongest and weakest are the largest and smallest stored value over 100.0; the mean is the exact sum of stored
-- values over the exact 100F"
unfoldable pub summary_of : List ℕ → Summary
summary_of values = record {
  strongest = quotient (max_of values) 100;
  weakest = quotient (min_of values) 100;
  mean = quotient (sum_of values) (100 * length values);
}

-- 0.0
abbrev pub zero_float : Float
zero_float = fin false 0 (pos 0)

-- "all three are then 0.0"
abbrev pub zero_summary : Summary
zero_summary = record { strongest = zero_float; weakest = zero_float; mean = zero_float }

-- "Signal summary of a read with F ≥ 1 .. Refusals: the file's, 21, 32; all three are then 0.0"
unfoldable pub file_signal : List ℕ → ℕ → Summary
file_signal file position =
    accepted_or (signal_test file position) (summary_of (read_at (parse file) position).values) zero_summary
