use Rattle.filter_delta.proofs.Levels.{undone, levels_start, levels_more, levels_put}
use Rattle.filter_delta.proofs.inner.put_undelta.Goals as goal

pub undo-init : goal.undo-init
undo-init g c = levels_start (undone g.U.Unit.WIDTH g.met.U.Unit.is_width.0) c.args.level c.requires.0 c.copy_from_slice.ensures.after (λ i. (c.type_inv.data i).fits)

pub undo-preserved : goal.undo-preserved
undo-preserved g c = levels_more c.undo.invariant c.undo-test.true c.undelta_pass.ensures.bytes_after (λ i. (c.type_inv.data i).fits)

pub returns : goal.returns
returns g c = levels_put c.undo.invariant c.undo-test.false c.args.at c.args.out.now
