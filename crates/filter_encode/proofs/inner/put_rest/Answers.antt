-- The definition, case by case: behind the format byte a delta's header has the level and zeros, format 72's the follow
-- bytes, any other's nothing; the header has room.
use native.Mathlib.Omega.{arith}
use Rattle.filter_encode.proofs.Lengths.{follow_long}
use Rattle.filter_encode.proofs.Cases.{level_fits, table_fits, no_rest}
use Rattle.filter_encode.proofs.Putting.{follow_put}
use Rattle.filter_encode.proofs.inner.put_rest.Goals as goal

pub put_level-requires : goal.put_level-requires
put_level-requires c = level_fits c.args.level c.args.follow.now _ c.requires c.in-Delta.is

pub copy-requires : goal.copy-requires
copy-requires c =
    let table = table_fits c.args.level c.args.follow.now _ c.requires c.in-Follow.is in
    (omega (arith, table.0), omega (arith, follow_long c.args.level c.args.follow.now table.1))

pub returns-in-Follow : goal.returns-in-Follow
returns-in-Follow c =
    let is-follow = c.in-Follow.is in
    let a = c.args in
    let table = table_fits a.level a.follow.now _ c.requires is-follow in
    rw is-follow (follow_put a.level a.follow.now a.out.now table.1 c.copy.ensures)

pub returns-in_default : goal.returns-in_default
returns-in_default c =
    no_rest c.args.level c.args.follow.now _ c.requires c.in_default.not-Delta c.in_default.not-Follow c.args.out.now
