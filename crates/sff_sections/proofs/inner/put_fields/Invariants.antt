-- What is left of the numbers still leads to all of them put.
use Rattle.octets.specs.Parts.{put_at}
use Rattle.octets.specs.Numbers.{fields}
use lib.ListN.{drop}
use Rattle.sff_sections.proofs.Pieces.{Putting}
use Rattle.sff_sections.proofs.inner.put_fields.Given as goal

abbrev pub invariant-loop-width : goal.invariant-loop-width
invariant-loop-width l =
    Putting (put_at l.at (fields l.numbers) l.fn.buffer) (drop l.width-index l.numbers) l.place l.buffer
