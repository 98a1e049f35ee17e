-- Bytes at the front of a buffer, if it has room. Assumes nothing.
use Prim.Native.Nat.{ℕ, ◌≤◌, ◌<◌}
use mathlib.Core.Path.{◌≡◌}
use mathlib.Core.List.{List}
use lib.ListN.{length}
use lib.Seq.{take-length}
use borrow.Author.Tests.{lt-ltb, le-ltb}
use Rattle.octets.specs.Parts.{part, put_at}
use Rattle.harness_files.specs.Outs.{put_front}

-- without room nothing is put
pub front_none : (xs l : List ℕ) → length l < length xs → l ≡ put_front xs l
unfolding put_front
front_none xs l h = rw (lt-ltb (length l) (length xs) h)

-- with room all of the bytes are
pub front_put : (xs l after : List ℕ)
    → length xs ≤ length l → after ≡ put_at 0 (part 0 (length xs) xs) l → after ≡ put_front xs l
unfolding put_front
front_put xs l after h e = rw (le-ltb (length l) (length xs) h, e, take-length xs)
