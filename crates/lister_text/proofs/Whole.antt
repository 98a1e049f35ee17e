-- A listing and its pieces, as the code puts them. Assumes nothing.
use Prim.Native.Nat.{ℕ, ◌+◌, ◌-◌, ◌≤◌}
use mathlib.Core.Path.{◌≡◌, refl, sym, ◌∙◌}
use mathlib.Core.Bool.{Bool, true, false, not}
use mathlib.Core.List.{List, ◌++◌}
use native.Mathlib.Omega.{arith}
use lib.Dec.{ltb, eqb}
use lib.ListN.{length, length-append}
use borrow.Author.Tests.{ltb-true, ltb-false, eq-eqb, ne_eqb, not-true}
use Rattle.octets.specs.Parts.{whole_part}
use Rattle.octets.specs.Numbers.{Bytes}
use Rattle.octets.proofs.Lists.{whole_in}
use Rattle.answers.specs.Answer.{Accepted, Refused}
use Rattle.sff_format.specs.HeaderTest.{read_count, header_length, key_length, flows, key_characters}
use Rattle.sff_format.specs.FileTest.{file_test}
use Rattle.sff_format.specs.Parse.{parse}
use Rattle.sff_format.proofs.HeaderLaws.{fits_31, header_fits, header_sized, characters-length}
use Rattle.sff_format.proofs.FileLaid.{head_ok, length_parsed}
use Rattle.lines.specs.Lines.{header_line, refusal_line}
use Rattle.lines.proofs.Answered.{answered-text, answered-refusal}
use Rattle.lister_text.specs.Listing.{lines_from, file_lines, listing, enough}
use Rattle.lister_text.proofs.Lengths.{listing_short}

module _ (b : List ℕ) (e : file_test b ≡ Accepted) where
  pub header_whole : 31 ≤ length b
  header_whole = fits_31 b (head_ok b e)

  -- the lines of an accepted file, from its numbers and its key as the code has them
  pub lines_are : (F n : ℕ) (key : List ℕ) → F ≡ flows b → key ≡ whole_part (31 + flows b) (key_length b) b → n ≡ read_count b
      → file_lines (parse b) ≡ header_line F key n ++ lines_from 0 (parse b).reads
  unfolding file_lines parse
  lines_are F n key f w c =
      let h = head_ok b e in
      let s = header_sized b h in
      let l = header_fits b h in
      let i : whole_part (31 + flows b) (key_length b) b ≡ key_characters b = whole_in (31 + flows b) (key_length b) b (omega arith) in
      rw (w, f, c, i, characters-length b h, length_parsed b (read_count b) (header_length b) false)

  pub listing-accepted : listing b ≡ file_lines (parse b)
  unfolding listing
  listing-accepted = answered-text _ e

pub listing_refused : (b : List ℕ) (n p : ℕ) → file_test b ≡ Refused n p → listing b ≡ refusal_line n p
unfolding listing
listing_refused b n p e = answered-refusal _ e

-- of so much room and one byte the header's line leaves `left`, and the reads' lines leave `last` of that: 0 exactly
-- where both together have more than the room
pub measured : (room : ℕ) (xs ys : List ℕ) {left last : ℕ} → left ≡ room + 1 - length xs → last ≡ left - length ys → eqb last 0 ≡ ltb room (length (xs ++ ys))
measured room xs ys {left} {last} e f = go (ltb room (length (xs ++ ys))) refl
  where
    go : (t : Bool) → ltb room (length (xs ++ ys)) ≡ t → eqb last 0 ≡ t
    go true h = let l = ltb-true room _ h in let n = length-append xs ys in eq-eqb last 0 (omega (arith, n))
    go false h = let l = ltb-false room _ h in let n = length-append xs ys in ne_eqb last 0 (λ z. omega (arith, n, z))

-- enough room for any file of that length
pub enough_room : (b : List ℕ) (room : ℕ) → Bytes b → file_test b ≡ Accepted → {r : Bool} → r ≡ not (ltb room (enough (length b))) → r ≡ true
    → length (file_lines (parse b)) ≤ room
enough_room b room y e is h =
    let l : length (file_lines (parse b)) ≤ enough (length b) = rw (listing-accepted b e) at (listing_short b y) in
    let m = ltb-false room (enough (length b)) (not-true _ (sym is ∙ h)) in
    omega arith

-- what a listing is in each case
pub ruleset listings = (listing-accepted, listing_refused)
