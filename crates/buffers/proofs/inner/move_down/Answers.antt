use Prim.Native.Nat.{ℕ, ◌+◌, ◌-◌, ◌*◌, ◌/◌}
use mathlib.Core.Path.{◌≡◌}
use native.Mathlib.Omega.{arith}
use Rattle.octets.proofs.Lists.{length_part}
use Rattle.octets.proofs.Moves.{up_start, up_block, up_last}
use Rattle.buffers.proofs.Written.{pasted}
use Rattle.buffers.proofs.inner.move_down.Goals as goal

pub loop-blocks-init : goal.loop-blocks-init
loop-blocks-init c =
    let a = c.args in
    up_start _ _ _ _ (length_part a.from a.n a.buffer.now c.requires.1) (omega arith)

pub loop-blocks-preserved : goal.loop-blocks-preserved
loop-blocks-preserved c =
    let k = c.loop-blocks.blocks in
    let e : (k + 1) * 16384 ≡ k * 16384 + 16384 = omega arith in
    rw e (up_block c.loop-blocks.invariant c.requires.0 c.requires.1 16384 (omega arith) c.move_block.ensures)

pub returns : goal.returns
returns c =
    let a = c.args in
    let s = c.loop-blocks.buffer in
    let whole : ℕ = a.n / 16384 * 16384 in
    let e : c.loop-blocks.blocks * 16384 ≡ whole = omega arith in
    let rest = pasted (a.from + whole) (a.to + whole) (a.n - whole) _ s (omega arith) (omega arith) c.copy_within.ensures.after in
    up_last (rw e at c.loop-blocks.invariant) c.requires.0 c.requires.1 rest
