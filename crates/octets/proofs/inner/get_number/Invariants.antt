-- After each turn the number is that of the bytes read so far.
use lib.ListN.{take}
use mathlib.Core.Path.{◌≡◌}
use Rattle.octets.specs.Parts.{part}
use Rattle.octets.specs.Numbers.{big_endian}
use Rattle.octets.proofs.inner.get_number.Given as goal

abbrev pub invariant-loop-x : goal.invariant-loop-x
invariant-loop-x g l = l.number ≡ big_endian (take l.x-index (part l.at g.row.N l.bytes))
