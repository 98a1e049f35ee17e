-- The code makes the tests of `fixed_test` in their order: a `return` stands where one refuses, the end where all have
-- accepted. The calls gave the numbers that it compares.
use Prim.Native.Nat.{◌<◌}
use native.Mathlib.Omega.{arith}
use lib.ListN.{length}
use Rattle.answers.proofs.Chains.{refusal, onward}
use Rattle.sff_format.specs.HeaderTest.{fixed_test}
use Rattle.sff_header.proofs.Fields.{byte_differs, byte_is}
use Rattle.sff_header.proofs.fixed_test.Goals as goal

pub returns-then-get32-ne779314790 : goal.returns-then-get32-ne779314790
unfolding fixed_test
returns-then-get32-ne779314790 c = rw (← c.bytes-bytes.ensures) (search refusal)

pub returns-then-get32-ne1 : goal.returns-then-get32-ne1
unfolding fixed_test
returns-then-get32-ne1 c = rw (← c.bytes-bytes.ensures) (search refusal)

pub returns-then-bytes-ne1 : goal.returns-then-bytes-ne1
unfolding fixed_test
returns-then-bytes-ne1 c =
    let inside : 30 < length c.bytes-bytes.result.now = rw c.bytes-bytes.ensures (omega (arith, c.requires)) in
    rw (← c.bytes-bytes.ensures) (search (refusal, byte_differs _ 30 1 inside))

pub returns-then-length-up8 : goal.returns-then-length-up8
unfolding fixed_test
returns-then-length-up8 c =
    let inside : 30 < length c.bytes-bytes.result.now = rw c.bytes-bytes.ensures (omega (arith, c.requires)) in
    rw (← c.length.ensures.0, ← c.characters_end.ensures.0, ← c.bytes-bytes.ensures) (search (refusal, byte_is _ 30 1 inside))

pub returns : goal.returns
unfolding fixed_test
returns c =
    let inside : 30 < length c.bytes-bytes.result.now = rw c.bytes-bytes.ensures (omega (arith, c.requires)) in
    rw (← c.length.ensures.0, ← c.characters_end.ensures.0, ← c.bytes-bytes.ensures) (search (onward, byte_is _ 30 1 inside))
