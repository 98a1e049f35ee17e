use Rattle.filter_delta.proofs.Levels.{done, levels_start, levels_more, levels_put}
use Rattle.filter_delta.proofs.inner.put_delta.Goals as goal

pub make-init : goal.make-init
make-init g c = levels_start (done g.U.Unit.WIDTH g.met.U.Unit.is_width.0) c.args.level c.requires.0 c.copy_from_slice.ensures.after (λ i. (c.type_inv.data i).fits)

pub make-preserved : goal.make-preserved
make-preserved g c = levels_more c.make.invariant c.make-test.true c.delta_pass.ensures (λ i. (c.type_inv.data i).fits)

pub returns : goal.returns
returns g c = levels_put c.make.invariant c.make-test.false c.args.at c.args.out.now
