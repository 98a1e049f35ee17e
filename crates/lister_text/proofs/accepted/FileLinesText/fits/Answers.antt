-- With room for the listing of any file of that length these lines fit.
use Rattle.std.proofs.Common.{rules}
use Rattle.octets.proofs.AllBytes.{bytes_of_lem}
use Rattle.lister_text.proofs.Whole.{enough_room}
use Rattle.lister_text.proofs.accepted.FileLinesText.fits.Goals as goal

pub returns-then-has_room : goal.returns-then-has_room
returns-then-has_room c =
    let lines = c.args.self.now in (
      λ _. enough_room lines.file _ (bytes_of_lem _ lines.bytes) lines.accepted (rw c.bytes.ensures at c.has_room.ensures) c.if-has_room.true,
      λ _. search rules,
    )
