-- Only a rename gives a name, and it is looked for among the reads at the other positions.
use Rattle.std.proofs.Common.{rules}
use Rattle.octets.specs.Numbers.{Bytes}
use Rattle.octets.proofs.AllBytes.{bytes_of_lem}
use Rattle.sff_reasons.proofs.Told.{found_by, kind_differs, kind_equals, none_borne, borne_told}
use Rattle.sff_reasons.proofs.inner.name_taken.Goals as goal

pub returns-then-ne : goal.returns-then-ne
returns-then-ne c room =
    let a = c.args in
    let z : Bytes a.file.now = search (bytes_of_lem, rules) in
    none_borne (found_by a.record.now z c.requires.file_value c.requires.position_bound) room (kind_differs _ _ c.if-ne.ensures)

pub returns : goal.returns
returns c room =
    let a = c.args in
    let z : Bytes a.file.now = search (bytes_of_lem, rules) in
    let s = found_by a.record.now z c.requires.file_value c.requires.position_bound in
    borne_told s room (kind_equals _ _ c.if-ne.ensures) (rw c.new_name.ensures at c.name_among.ensures)
