-- File E's values, worked out. Assumes nothing.
use mathlib.Core.Path.{◌≡◌, refl}
use mathlib.Core.List.{[], ◌∷◌}
use mathlib.Core.Bool.{false}
use lib.IntN.{pos, negsuc}
use lib.Ieee.{fin, div, of_int, round, units, odd, size, span, climb}
use Rattle.sff_signal.specs.Signal.{sum_of, max_of, min_of, zero_float, summary_of}

-- "values 100 0 200 0": the strongest is 2, the weakest 0, "Mean signal 0.75"
pub example : summary_of (100 ∷ 0 ∷ 200 ∷ 0 ∷ []) ≡ record { strongest = fin false 1 (pos 1); weakest = zero_float; mean = fin false 3 (negsuc 1) }
unfolding summary_of max_of min_of sum_of div of_int round units odd size span climb
example = refl
