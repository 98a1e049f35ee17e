-- Sentences of document 01 on what the lister prints, in its order, as theorems over the definitions
-- (`lister_text::print`). Text is bytes. Assumes nothing.
use Prim.Native.Nat.{ℕ, ◌^◌, ◌≤◌, ◌<◌}
use mathlib.Core.Path.{◌≡◌, ap, ◌∙◌}
use mathlib.Core.Logic.{◌↔◌}
use mathlib.Core.List.{List, [], ◌∷◌, ◌++◌, flatten}
use native.Mathlib.Nat.{zero-add}
use lib.ListN.{length, set, get_or}
use Rattle.octets.specs.Numbers.{Bytes}
use Rattle.answers.specs.Answer.{Accepted, Refused}
use Rattle.sff_format.specs.FileTest.{file_test}
use Rattle.sff_format.specs.Parse.{parse}
use Rattle.sff_format.specs.Places.{read_at}
use Rattle.sff_format.specs.Insert.{insert_first, insert_last, insert_of}
use Rattle.text.specs.Writing.{or_dash, Fitted, fitted}
use Rattle.text.specs.Decimal.{decimal}
use Rattle.text.proofs.Writing.{dash, word}
use Rattle.text.proofs.Fitted.{fits, fits_not, longer}
use Rattle.text.proofs.Decimal.{spelt, spells, OfDigits, decimal_digits}
use Rattle.lines.proofs.WrittenOut.{header_line_lem, read-line, refusal-line}
use Rattle.lister_text.specs.Listing.{file_lines, printed}
use Rattle.lister_text.proofs.Printed.{lines_of, lines_together, lines_counted, line_at, printed-accepted, printed_refused, printed_long, printed-most}
use Rattle.claims.specs.Marked.{e_bytes}
use Rattle.claims.proofs.ScopeCases.{text_in-E, text_of_clip}

-- THE LISTER. "given E on standard input, prints exactly these two lines": "flows 4 key T reads 1" and "0 r1 3 2 3 CC"
pub text-of-E : printed e_bytes ≡ 102 ∷ 108 ∷ 111 ∷ 119 ∷ 115 ∷ 32 ∷ 52 ∷ 32 ∷ 107 ∷ 101 ∷ 121 ∷ 32 ∷ 84 ∷ 32 ∷ 114 ∷ 101 ∷ 97 ∷ 100 ∷ 115 ∷ 32 ∷ 49 ∷ 10
    ∷ 48 ∷ 32 ∷ 114 ∷ 49 ∷ 32 ∷ 51 ∷ 32 ∷ 50 ∷ 32 ∷ 51 ∷ 32 ∷ 67 ∷ 67 ∷ 10 ∷ []
text-of-E = text_in-E

-- "A read's line is position, name, N, first, last, insert": of an accepted file of at most 65,536 bytes the text is
-- the header's line, as in E, then one line for each read, in order
pub record Listed (file : List ℕ) : Type 0 where
  pub lines : List (List ℕ)
  pub count : length lines ≡ length (parse file).reads
  -- with a space between them, and the end of the line
  pub line : (position : ℕ) → position < length (parse file).reads → get_or lines position []
      ≡ decimal position ++ (32 ∷ []) ++ or_dash (read_at (parse file) position).name ++ (32 ∷ [])
      ++ decimal (length (read_at (parse file) position).bases) ++ (32 ∷ [])
      ++ decimal (insert_first (read_at (parse file) position)) ++ (32 ∷ [])
      ++ decimal (insert_last (read_at (parse file) position)) ++ (32 ∷ [])
      ++ or_dash (insert_of (read_at (parse file) position) (read_at (parse file) position).bases) ++ (10 ∷ [])
  -- "flows ", " key ", " reads "
  pub text : printed file
      ≡ (102 ∷ 108 ∷ 111 ∷ 119 ∷ 115 ∷ 32 ∷ []) ++ decimal (length (parse file).flow_characters)
      ++ (32 ∷ 107 ∷ 101 ∷ 121 ∷ 32 ∷ []) ++ or_dash (parse file).key
      ++ (32 ∷ 114 ∷ 101 ∷ 97 ∷ 100 ∷ 115 ∷ 32 ∷ []) ++ decimal (length (parse file).reads) ++ (10 ∷ [])
      ++ flatten lines

pub text_of_file : (file : List ℕ) → length file ≤ 65536 → file_test file ≡ Accepted → Listed file
unfolding file_lines
text_of_file file h e = record {
  lines = lines_of 0 (parse file).reads;
  count = lines_counted 0 (parse file).reads;
  line = λ position l. rw zero-add at (line_at 0 (parse file).reads position l) ∙ read-line position _ _ _ _ _;
  text =
      printed-accepted file h e
      ∙ rw (
        header_line_lem (length (parse file).flow_characters) (parse file).key (length (parse file).reads),
        lines_together 0 (parse file).reads,
      );
}

-- the number that decimal digits spell is the number: every number in these lines is of 64 bits
pub number_in_text : (n : ℕ) → n < 2 ^ 64 → OfDigits (decimal n) × (spelt 0 (decimal n) ≡ n)
number_in_text n h = (decimal_digits n, spells n h)

-- 'An empty name, key or insert is "-"', and any other stands as it is
pub dash_for_empty : (xs : List ℕ) → (length xs ≡ 0 → or_dash xs ≡ 45 ∷ []) × ((length xs ≡ 0 → ⊥) → or_dash xs ≡ xs)
dash_for_empty xs = (dash xs, word xs)

-- "A refusal is one line and nothing else, as `refused 9 at 48`"
pub text_of_refusal : (file : List ℕ) (number place : ℕ) → length file ≤ 65536 → file_test file ≡ Refused number place
    → printed file
    ≡ (114 ∷ 101 ∷ 102 ∷ 117 ∷ 115 ∷ 101 ∷ 100 ∷ 32 ∷ []) ++ decimal number ++ (32 ∷ 97 ∷ 116 ∷ 32 ∷ [])
    ++ decimal place ++ (10 ∷ [])
text_of_refusal file number place h e = printed_refused file number place h e ∙ refusal-line number place

-- E with a clip of 4 prints that line
pub refusal_of_clip : printed (set e_bytes 49 4) ≡ 114 ∷ 101 ∷ 102 ∷ 117 ∷ 115 ∷ 101 ∷ 100 ∷ 32 ∷ 57 ∷ 32 ∷ 97 ∷ 116 ∷ 32 ∷ 52 ∷ 56 ∷ 10 ∷ []
refusal_of_clip = text_of_clip

-- "longer input than 65,536 bytes prints `too long`"
pub text_too_long : (file : List ℕ) → 65536 < length file
    → printed file ≡ 116 ∷ 111 ∷ 111 ∷ 32 ∷ 108 ∷ 111 ∷ 110 ∷ 103 ∷ 10 ∷ []
text_too_long = printed_long

-- the lister's buffer (`lister_text::print_room`) holds any of these texts, so its answer is 0 throughout
pub text-fits : (file : List ℕ) → Bytes file
    → fitted 458816 (printed file) ≡ record { answer = Accepted; text = printed file }
text-fits file y = fits 458816 (printed file) (printed-most file y)

-- and in any buffer a text is refused, with 26, exactly if it is longer
pub text_refused : (room : ℕ) (text : List ℕ) → ((fitted room text).answer ≡ Refused 26 0) ↔ (room < length text)
text_refused room text = (longer room text, (λ h. ap (λ (result : Fitted). result.answer) (fits_not room text h)))
