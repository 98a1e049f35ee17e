-- The position is compared with the header's number of reads, which is that of the parsed file.
use native.Mathlib.Omega.{arith}
use Rattle.sff_format.proofs.HeaderLaws.{fits_31}
use Rattle.sff_format.proofs.FileLaid.{head_ok}
use Rattle.sff_reasons.proofs.Told.{above_told}
use Rattle.sff_reasons.proofs.inner.position_above.Goals as goal

pub get32-requires : goal.get32-requires
get32-requires c = let h = fits_31 _ (head_ok _ c.requires) in omega arith

pub returns : goal.returns
returns c room =
    let a = c.args in
    above_told a.file.now a.record.now.bytes.now a.record.now.fields room c.get32.ensures.0
