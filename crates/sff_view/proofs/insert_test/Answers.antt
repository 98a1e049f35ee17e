-- The branch goes by the definition's own test, of the first and the last base as the calls gave them.
use Rattle.answers.proofs.Chains.{holds_last, passes_last}
use Rattle.sff_view.proofs.insert_test.Goals as goal

pub returns-then-first-last : goal.returns-then-first-last
returns-then-first-last c =
    rw (← c.first_base-first.ensures, ← c.last_base-last.ensures) (search holds_last)

pub returns : goal.returns
returns c =
    rw (← c.first_base-first.ensures, ← c.last_base-last.ensures) (search passes_last)
