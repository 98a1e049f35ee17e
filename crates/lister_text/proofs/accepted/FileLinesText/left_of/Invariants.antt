-- Each turn takes the next read's line from the room, and the invariant says what is left for the lines to come.
use Rattle.sff_format.specs.Parse.{parse}
use Rattle.text.proofs.Coming.{RoomLeft}
use Rattle.lister_text.specs.Listing.{file_lines}
use Rattle.lister_text.proofs.Turns.{Listing}
use Rattle.lister_text.proofs.accepted.FileLinesText.left_of.Given as goal

abbrev pub invariant-loop-position : goal.invariant-loop-position
invariant-loop-position l =
    Listing l.self.file l.position l.boundary
    (λ rest. RoomLeft l.room (file_lines (parse l.self.file)) l.left rest)
