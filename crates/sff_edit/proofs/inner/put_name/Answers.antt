-- The name is spliced in with its padding, and the two lengths that precede it, put one behind the other, are the one
-- write of the definition.
use native.Mathlib.Omega.{arith}
use Rattle.sff_edit.proofs.InPlace.{name_put}
use Rattle.sff_edit.proofs.inner.put_name.Goals as goal

pub returns-clause-buffer_after : goal.returns-clause-buffer_after
returns-clause-buffer_after c =
    let a = c.args in
    name_put a.place a.len a.n a.field.now a.buffer.now c.get16-old_section.ensures.0 c.up8-new_section.ensures
    c.splice.ensures c.put16.ensures c.put16-2.ensures (omega (arith, c.requires.bound))
