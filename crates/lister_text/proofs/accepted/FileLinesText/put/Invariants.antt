-- Each turn puts the next read's line, and the invariant says that what is put and the lines to come are the whole.
use Rattle.sff_format.specs.Parse.{parse}
use Rattle.text.proofs.Coming.{Coming}
use Rattle.lister_text.specs.Listing.{file_lines}
use Rattle.lister_text.proofs.Turns.{Listing}
use Rattle.lister_text.proofs.accepted.FileLinesText.put.Given as goal

abbrev pub invariant-loop-position : goal.invariant-loop-position
invariant-loop-position l =
    Listing l.self.file l.position l.boundary
    (λ rest. Coming (file_lines (parse l.self.file)) l.fn.writer l.writer rest)
