-- The read is cut out, and the count that was read before the cut is put, less one: as the definition has it.
use Rattle.sff_edit.proofs.InPlace.{read_cut}
use Rattle.std.proofs.Common.{rules}
use Rattle.sff_edit.proofs.inner.take_out.Goals as goal

pub returns-clause-buffer_after : goal.returns-clause-buffer_after
returns-clause-buffer_after c = search (read_cut, rules)
