-- The proof of the cycle of calls {choose, layer}. A block that is refused, or of format 0, ends the chain, by what its
-- tests told. A layer is undone into the other buffer, and what is left of the chain is undone there, with the buffers
-- having changed places. The measure: twice the filters that may still be opened, and one more at the choice.
use Prim.Native.Nat.{◌+◌, ◌*◌}
use Rattle.filter_undo.proofs.inner.+choose_layer.Given as goal

abbrev pub decreases-choose : goal.decreases-choose
decreases-choose l = 2 * l.left + 1

abbrev pub decreases-layer : goal.decreases-layer
decreases-layer l = 2 * l.left
