-- The summary of a read by its position, from what is said of the read in numbers. Assumes nothing.
use Prim.Native.Nat.{ℕ, ◌+◌, ◌*◌, ◌/◌, ◌≤◌, ◌<◌}
use mathlib.Core.Path.{◌≡◌, refl}
use mathlib.Core.List.{List}
use native.Mathlib.Omega.{arith}
use lib.ListN.{length}
use lib.Ieee.{binary64, of_bits, of_fields, odd}
use Rattle.octets.specs.Numbers.{Bytes, words_at}
use Rattle.answers.specs.Answer.{Accepted, Refused, accepted_or}
use Rattle.sff_format.specs.declared.ReadView.{ReadView}
use Rattle.sff_format.specs.HeaderTest.{flows}
use Rattle.sff_format.specs.Parse.{parse}
use Rattle.sff_format.specs.Places.{read_at}
use Rattle.sff_format.specs.Position.{signal_test, view_of}
use Rattle.sff_format.proofs.Positions.{signal-position, signal-flows, flows_small, values-size, values-inside, values_chosen}
use Rattle.sff_signal.specs.Signal.{zero_float, summary_of, file_signal}

-- the literal 0.0
literal : of_bits binary64 0 ≡ zero_float
unfolding of_bits of_fields odd
literal = refl

pub signal_refused : (b : List ℕ) (i n p : ℕ) → signal_test b i ≡ Refused n p
    → record { strongest = of_bits binary64 0; weakest = of_bits binary64 0; mean = of_bits binary64 0 } ≡ file_signal b i
unfolding file_signal accepted_or
signal_refused b i n p e = rw (e, literal)

-- the summary is that of the read's values
pub signal_is : (b : List ℕ) (i : ℕ) → signal_test b i ≡ Accepted → file_signal b i ≡ summary_of (read_at (parse b) i).values
unfolding file_signal accepted_or
signal_is b i e = rw e

module _ (b : List ℕ) (i : ℕ) (e : signal_test b i ≡ Accepted) (y : Bytes b) (v : ReadView) (w : v ≡ view_of b i) where
  count : v.values.size / 2 ≡ flows b
  count = let s = values-size b i (signal-position b i e) in rw w (omega arith)

  -- the values lie in the file, one for each flow
  pub signal-values : (1 ≤ v.values.size / 2) × (v.values.size / 2 < 65536) × (v.values.at + 2 * (v.values.size / 2) ≤ length b)
  signal-values = rw (count, w) (signal-flows b i e, flows_small b i e y, values-inside b i (signal-position b i e))

  pub signal-made : summary_of (words_at (v.values.size / 2) v.values.at b) ≡ file_signal b i
  unfolding file_signal accepted_or
  signal-made = rw (count, w, e, values_chosen b i (signal-position b i e) y)
