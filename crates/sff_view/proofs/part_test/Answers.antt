-- A start beyond the file's end, or a size above what is left from the start on, is an end beyond the file's end.
use Rattle.answers.proofs.Chains.{refusal, onward, over_first, over_second, not_over}
use Rattle.sff_view.proofs.part_test.Goals as goal
use Rattle.sff_view.proofs.part_test.Goals.{then-x-file-via-then-x-file, then-x-file-via-else-x-file+then-x-file-2}

pub returns-then-x-file : goal.returns-then-x-file
returns-then-x-file c =
    elim c.then-x-file.branch [
      | then-x-file-via-then-x-file w ↦ search (refusal, over_first)
      | then-x-file-via-else-x-file+then-x-file-2 w ↦ search (refusal, over_second)
    ]

pub returns : goal.returns
returns c = search (onward, not_over)
