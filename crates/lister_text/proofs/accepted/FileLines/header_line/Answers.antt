-- The numbers and the key are those of the file, so that this line and the reads' are the lines of the file.
use Rattle.lister_text.proofs.Whole.{lines_are}
use Rattle.lister_text.proofs.accepted.FileLines.header_line.Goals as goal

pub returns : goal.returns
returns c =
    lines_are c.args.self.now.file c.args.self.now.accepted _ _ _ c.flows.ensures.0 c.key.ensures c.reads.ensures.0
