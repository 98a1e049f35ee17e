-- What is printed, as lines: the header's and one for each read, in order; a refusal's; or `too long`. Assumes nothing.
use Prim.Native.Nat.{ℕ, zero, suc, ◌+◌, ◌≤◌, ◌<◌}
use mathlib.Core.Path.{◌≡◌, refl, ap, ◌∙◌}
use mathlib.Core.List.{List, [], ◌∷◌, ◌++◌, flatten}
use native.Mathlib.Omega.{arith}
use lib.ListN.{length, get_or}
use Rattle.octets.specs.Numbers.{Bytes}
use Rattle.answers.specs.Answer.{Accepted, Refused}
use Rattle.sff_format.specs.Model.{Read}
use Rattle.sff_format.specs.FileTest.{file_test}
use Rattle.sff_format.specs.Parse.{parse}
use Rattle.sff_format.specs.Places.{no_read}
use Rattle.lines.specs.Lines.{refusal_line, too_long}
use Rattle.lines.proofs.Answered.{is_long, not_long, long_or_not}
use Rattle.lister_text.specs.Listing.{line_of, lines_from, file_lines, listing, enough, printed}
use Rattle.lister_text.proofs.Lengths.{listing_short}
use Rattle.lister_text.proofs.Whole.{listing-accepted, listing_refused}

-- the lines of reads from a position on, one by one
pub lines_of : ℕ → List Read → List (List ℕ)
lines_of position [] = []
lines_of position (r ∷ rs) = line_of position r ∷ lines_of (suc position) rs

pub lines_together : (position : ℕ) (rs : List Read) → lines_from position rs ≡ flatten (lines_of position rs)
unfolding lines_of lines_from flatten
lines_together position [] = refl
lines_together position (r ∷ rs) = ap (λ (l : List ℕ). line_of position r ++ l) (lines_together (suc position) rs)

pub lines_counted : (position : ℕ) (rs : List Read) → length (lines_of position rs) ≡ length rs
unfolding lines_of
lines_counted position [] = refl
lines_counted position (r ∷ rs) = ap suc (lines_counted (suc position) rs)

pub line_at : (position : ℕ) (rs : List Read) (i : ℕ) → i < length rs → get_or (lines_of position rs) i [] ≡ line_of (position + i) (get_or rs i no_read)
unfolding lines_of
line_at position [] i h = absurd (let a : ⊥ = omega arith in a)
line_at position (r ∷ rs) zero h = let e : position ≡ position + 0 = omega arith in ap (λ (n : ℕ). line_of n r) e
line_at position (r ∷ rs) (suc i) h =
    let e : suc position + i ≡ position + suc i = omega arith in
    line_at (suc position) rs i (omega arith) ∙ ap (λ (n : ℕ). line_of n (get_or rs i no_read)) e

module _ (b : List ℕ) where
  pub printed_short : length b ≤ 65536 → printed b ≡ listing b
  unfolding printed
  printed_short h = not_long b _ h

  pub printed-accepted : length b ≤ 65536 → file_test b ≡ Accepted → printed b ≡ file_lines (parse b)
  printed-accepted h e = printed_short h ∙ listing-accepted b e

  pub printed_refused : (n p : ℕ) → length b ≤ 65536 → file_test b ≡ Refused n p → printed b ≡ refusal_line n p
  printed_refused n p h e = printed_short h ∙ listing_refused b n p e

  pub printed_long : 65536 < length b → printed b ≡ too_long
  unfolding printed
  printed_long h = is_long b _ h

  -- room for whatever is printed
  pub printed-most : Bytes b → length (printed b) ≤ enough 65536
  unfolding printed
  printed-most y = long_or_not b (listing b) (λ (xs : List ℕ). length xs ≤ enough 65536) (omega arith) (λ h. omega (arith, h, listing_short b y))
