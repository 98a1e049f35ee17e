-- New clips may be given to a file with an index; for a rename or a removal the header's two fields say whether there
-- is one.
use mathlib.Core.Path.{◌≡◌}
use Rattle.std.proofs.Common.{rules}
use Rattle.octets.specs.Numbers.{Bytes}
use Rattle.octets.proofs.AllBytes.{bytes_of_lem}
use Rattle.sff_format.specs.Rules.{declared}
use Rattle.sff_format.specs.HeaderTest.{index_offset, index_length}
use Rattle.sff_format.proofs.HeaderLaws.{fits_31}
use Rattle.sff_format.proofs.FileLaid.{head_ok}
use Rattle.sff_reasons.proofs.Told.{found_by, kind_is, kind_not, clips_pass, index_told}
use Rattle.sff_reasons.proofs.inner.index_present.Goals as goal

pub returns-then-eq : goal.returns-then-eq
returns-then-eq c room =
    let a = c.args in
    let z : Bytes a.file.now = search (bytes_of_lem, rules) in
    clips_pass (found_by a.record.now z c.requires.file_value c.requires.position_bound) room (kind_is _ _ c.if-eq.ensures)

pub new-headed-requires : goal.new-headed-requires
new-headed-requires c = fits_31 _ (head_ok _ c.requires.file_value)

pub returns : goal.returns
returns c room =
    let a = c.args in
    let z : Bytes a.file.now = search (bytes_of_lem, rules) in
    let s = found_by a.record.now z c.requires.file_value c.requires.position_bound in
    let h = c.new-headed.result in
    let d : c.is_declared.result ≡ declared (index_offset h) (index_length h) = search rules in
    index_told s room (kind_not _ _ c.if-eq.ensures) (rw c.new-headed.ensures at d)
