-- The data are what the header leaves of the block: refused where they are not whole units, else by the room's test.
use Prim.Native.Nat.{ℕ, ◌-◌}
use mathlib.Core.Path.{ap, ◌∙◌}
use lib.ListN.{length}
use Rattle.filter_block.proofs.Tests.{delta_broken, delta_whole}
use Rattle.filter_block.proofs.inner.delta_test.Goals as goal

pub returns-then-n-width-ne0 : goal.returns-then-n-width-ne0
returns-then-n-width-ne0 c =
    let a = c.args in
    let long = ap (λ (h : ℕ). length a.block.now - h) c.header_length.ensures.0 in
    delta_broken a.room a.block.now a.width _ long c.if-n-width-ne0.true

pub returns : goal.returns
returns c =
    let a = c.args in
    let long = ap (λ (h : ℕ). length a.block.now - h) c.header_length.ensures.0 in
    c.room_test.ensures ∙ delta_whole a.room a.block.now a.width _ long c.requires.0 c.if-n-width-ne0.false
