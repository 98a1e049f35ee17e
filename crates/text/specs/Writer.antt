-- A text that is put piece by piece, at the place that a writer has come to. Assumes nothing: these are definitions.
use Rattle.std.specs.Prelude.{ℕ, ◌≡◌, ◌+◌, ◌≤◌, List, length}
use Rattle.octets.specs.Parts.{put_at}
use Rattle.text.specs.declared.inner.TextWriter.{TextWriter}

-- what a function that puts xs asks: that there is room for it
pub record HasRoom (xs : List ℕ) (writer : TextWriter) : Type 0 where
  pub fits : writer.at + length xs ≤ length writer.out.now

-- xs was put, and the writer has come to the place after it, in the same buffer
pub record Puts (xs : List ℕ) (writer after : TextWriter) : Type 0 where
  pub out : after.out.now ≡ put_at writer.at xs writer.out.now
  pub at : after.at ≡ writer.at + length xs
  pub same_buffer : after.out.ghost_name ≡ writer.out.ghost_name
