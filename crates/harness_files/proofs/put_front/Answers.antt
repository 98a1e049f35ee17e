-- Where the buffer is shorter than the bytes nothing is written, and else all of the bytes are copied to its front: the
-- two cases of `put_front`.
use Rattle.harness_files.proofs.Fronts.{front_none, front_put}
use Rattle.std.proofs.Common.{rules}
use Rattle.harness_files.proofs.put_front.Goals as goal

pub returns-then-out-n : goal.returns-then-out-n
returns-then-out-n c = search (front_none, rules)

pub returns : goal.returns
returns c = search (front_put, rules)
