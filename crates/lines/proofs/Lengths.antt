-- How long each line is, and can be: what the code measures, and what room is enough for any. Assumes nothing.
use mathlib.Core.Path.{◌≡◌}
use mathlib.Core.List.{List}
use Prim.Native.Nat.{ℕ, ◌+◌, ◌≤◌}
use native.Mathlib.Omega.{arith}
use lib.ListN.{length, length-append}
use Rattle.text.specs.Writing.{or_dash}
use Rattle.text.specs.Decimal.{decimal}
use Rattle.text.proofs.Writing.{dash_short}
use Rattle.text.proofs.Decimal.{decimal_short}
use Rattle.lines.specs.Lines.{number_field, word_field, labelled_number, labelled_word, header_line, extent, read_line, refusal_line, answer_line}

module _ (flows : ℕ) (key : List ℕ) (reads : ℕ) where
  pub header_line_length : length (header_line flows key reads) ≡ length (decimal flows) + length (or_dash key) + length (decimal reads) + 19
  unfolding header_line labelled_number labelled_word number_field word_field
  header_line_length = simp length-append (omega arith)

  pub header_line_short : length (header_line flows key reads) ≤ 60 + length key
  header_line_short = rw header_line_length (omega (arith, decimal_short flows, dash_short key, decimal_short reads))

module _ (position : ℕ) (name : List ℕ) (bases first last : ℕ) (insert : List ℕ) where
  pub read_line_length : length (read_line position name bases first last insert)
      ≡ length (decimal position) + length (or_dash name)
      + (length (decimal bases) + length (decimal first) + length (decimal last)) + length (or_dash insert) + 6
  unfolding read_line extent number_field word_field
  read_line_length = simp length-append (omega arith)

  pub read_line_short : length (read_line position name bases first last insert) ≤ 88 + length name + length insert
  read_line_short =
      rw read_line_length
      (omega (arith, decimal_short position, dash_short name, decimal_short bases, decimal_short first, decimal_short last, dash_short insert))

module _ (number place : ℕ) where
  pub refusal_line_length : length (refusal_line number place) ≡ length (decimal number) + length (decimal place) + 13
  unfolding refusal_line labelled_number number_field
  refusal_line_length = simp length-append (omega arith)

  pub refusal_line_short : length (refusal_line number place) ≤ 64
  refusal_line_short = rw refusal_line_length (omega (arith, decimal_short number, decimal_short place))

module _ (count number place size : ℕ) where
  pub answer_line_length : length (answer_line count number place size)
      ≡ length (decimal count) + length (decimal number) + length (decimal place) + length (decimal size) + 30
  unfolding answer_line labelled_number number_field
  answer_line_length = simp length-append (omega arith)

  pub answer_line_short : length (answer_line count number place size) ≤ 110
  answer_line_short =
      rw answer_line_length (omega (arith, decimal_short count, decimal_short number, decimal_short place, decimal_short size))
