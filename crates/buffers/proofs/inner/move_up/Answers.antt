use Prim.Native.Nat.{ℕ, ◌+◌, ◌-◌, ◌*◌, ◌/◌}
use mathlib.Core.Path.{◌≡◌}
use native.Mathlib.Omega.{arith}
use Rattle.octets.specs.Parts.{part}
use Rattle.octets.proofs.Lists.{length_part}
use Rattle.octets.proofs.Moves.{down_start, down_block, down_done}
use Rattle.buffers.proofs.Written.{pasted}
use Rattle.buffers.proofs.inner.move_up.Goals as goal

pub loop-blocks-init : goal.loop-blocks-init
loop-blocks-init c =
    let a = c.args in
    let s = a.buffer.now in
    let whole : ℕ = a.n / 16384 * 16384 in
    let e : a.n - (a.n - whole) ≡ whole = omega arith in
    let none : whole - 0 ≡ a.n - (a.n - whole) = omega arith in
    let start = down_start a.to a.n (part a.from a.n s) s (length_part a.from a.n s (omega arith)) c.requires.1 in
    let rest = pasted (a.from + whole) (a.to + whole) (a.n - whole) _ s (omega arith) (omega arith) c.copy_within.ensures.after in
    rw none (down_block start c.requires.0 (a.n - whole) (omega arith) (rw e rest))

pub loop-blocks-preserved : goal.loop-blocks-preserved
loop-blocks-preserved c =
    let k = c.loop-blocks.blocks in
    let whole : ℕ = c.args.n / 16384 * 16384 in
    let e : whole - (k + 1) * 16384 ≡ whole - k * 16384 - 16384 = omega arith in
    rw e (down_block c.loop-blocks.invariant c.requires.0 16384 (omega arith) (rw e at c.move_block.ensures))

pub returns : goal.returns
returns c = down_done c.loop-blocks.invariant (omega arith)
