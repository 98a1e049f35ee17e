-- A read of an accepted file, chosen by its position, by what the code's calls gave. Assumes nothing.
use Prim.Native.Nat.{ℕ, ◌≤◌}
use mathlib.Core.Path.{◌≡◌}
use mathlib.Core.List.{List}
use lib.ListN.{length}
use Rattle.answers.specs.Answer.{Accepted}
use Rattle.sff_format.specs.declared.Boundary.{Boundary}
use Rattle.sff_format.specs.FileTest.{file_test}
use Rattle.sff_format.specs.Walk.{Walk, first_boundary}
use Rattle.sff_format.proofs.HeaderLaws.{fits_31}
use Rattle.sff_format.proofs.FileLaid.{head_ok}
use Rattle.sff_format.proofs.Walks.{walk_start}

module _ (b : List ℕ) (e : file_test b ≡ Accepted) where
  -- it has the header's 31 bytes, and a walk over its reads starts at the header's end
  pub file_31 : 31 ≤ length b
  file_31 = fits_31 b (head_ok b e)

  pub walk_first : {at : Boundary} → at ≡ first_boundary b → Walk b 0 at
  walk_first f = rw f (walk_start b e)
