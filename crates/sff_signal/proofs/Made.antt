-- A summary from its numbers. Assumes nothing.
use Prim.Native.Nat.{ℕ, ◌*◌}
use mathlib.Core.Path.{◌≡◌}
use mathlib.Core.List.{List}
use lib.Ieee.{Float}
use Rattle.octets.specs.Numbers.{words_at}
use Rattle.octets.proofs.Stands.{length-units_at}
use Rattle.sff_signal.specs.Signal.{sum_of, max_of, min_of, quotient, summary_of}

pub made :
    (b : List ℕ) (at n m l s : ℕ) →
    (m ≡ max_of (words_at n at b)) × (l ≡ min_of (words_at n at b)) × (s ≡ sum_of (words_at n at b)) →
    (x y z : Float) →
    x ≡ quotient m 100 →
    y ≡ quotient l 100 →
    z ≡ quotient s (100 * n) →
    record { strongest = x; weakest = y; mean = z } ≡ summary_of (words_at n at b)
unfolding summary_of
made b at n m l s e x y z ex ey ez = rw (length-units_at, ex, ey, ez, e.0, e.1, e.2)
