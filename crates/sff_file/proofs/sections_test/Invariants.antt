-- At each turn what the boundary asks, of the reads that are left, is the whole answer (`SectionsInvariant`): so it is
-- what an index or a read that is refused gives, and past the last read what the end gives; past an accepted read it is
-- what the next boundary asks.
use Prim.Native.Nat.{◌-◌}
use mathlib.Core.Bool.{false}
use Rattle.sff_format.specs.HeaderTest.{read_count, header_length}
use Rattle.sff_format.specs.FileTest.{boundary_test}
use Rattle.sff_file.proofs.Sections.{SectionsInvariant}
use Rattle.sff_file.proofs.sections_test.Given as goal

abbrev pub invariant-loop-passed : goal.invariant-loop-passed
invariant-loop-passed l =
    SectionsInvariant l.file (boundary_test l.file (read_count l.file) (header_length l.file) false) (l.reads - l._passed) l.at
