-- File E's signal summary and text, and a refusal's text, computed from the definitions. Assumes nothing.
use Prim.Native.Nat.{ℕ, ◌≤◌}
use mathlib.Core.Path.{◌≡◌, refl, ap, ◌∙◌}
use mathlib.Core.Bool.{false}
use mathlib.Core.List.{List, [], ◌∷◌}
use native.Mathlib.Omega.{arith}
use lib.ListN.{length, set}
use lib.IntN.{pos, negsuc}
use lib.Ieee.{fin}
use Rattle.octets.specs.Numbers.{big_endian_from, number, units_at}
use Rattle.answers.specs.Answer.{Accepted, Refused, when, ◌then◌}
use Rattle.sff_format.specs.Rules.{declared, index_size}
use Rattle.sff_format.specs.Model.{File}
use Rattle.sff_format.specs.ReadTest.{read_end}
use Rattle.sff_format.specs.FileTest.{index_due, past_index, file_test}
use Rattle.sff_format.specs.Parse.{parse_read, parse_reads, parse}
use Rattle.sff_format.specs.Places.{read_at}
use Rattle.sff_format.specs.Insert.{first_base, right_end, last_base, insert_of}
use Rattle.sff_format.specs.Position.{position_test, signal_test}
use Rattle.sff_signal.specs.Signal.{summary_of, file_signal}
use Rattle.sff_signal.proofs.Cases.{example}
use Rattle.sff_signal.proofs.Chosen.{signal_is}
use Rattle.text.specs.Writing.{or_dash}
use Rattle.text.specs.Decimal.{decimal_of}
use Rattle.lines.specs.Lines.{number_field, word_field, labelled_number, labelled_word, header_line, extent, read_line}
use Rattle.lines.proofs.Cases.{refusal_9_at_48}
use Rattle.lister_text.specs.Listing.{lines_from, file_lines, printed}
use Rattle.lister_text.proofs.Printed.{printed-accepted, printed_refused}
use Rattle.claims.specs.Marked.{e, e_bytes}
use Rattle.claims.proofs.MarkedCases.{marked}

accepted : file_test e_bytes ≡ Accepted
accepted = marked.1.1.0

refused : file_test (set e_bytes 49 4) ≡ Refused 9 48
refused = marked.1.1.1.1.1.1.1.1.1.0

parsed : parse e_bytes ≡ e
unfolding big_endian_from number units_at declared index_size read_end index_due past_index parse_read parse_reads parse
parsed = refl

tested : signal_test e_bytes 0 ≡ Accepted
unfolding big_endian_from number when ◌then◌ position_test signal_test
tested = rw accepted

pub signal-in-E : file_signal e_bytes 0
    ≡ record { strongest = fin false 1 (pos 1); weakest = fin false 0 (pos 0); mean = fin false 3 (negsuc 1) }
signal-in-E = signal_is e_bytes 0 tested ∙ ap (λ (content : File). summary_of (read_at content 0).values) parsed ∙ example

lines-of-E : file_lines e ≡ 102 ∷ 108 ∷ 111 ∷ 119 ∷ 115 ∷ 32 ∷ 52 ∷ 32 ∷ 107 ∷ 101 ∷ 121 ∷ 32 ∷ 84 ∷ 32 ∷ 114 ∷ 101 ∷ 97 ∷ 100 ∷ 115 ∷ 32 ∷ 49 ∷ 10
    ∷ 48 ∷ 32 ∷ 114 ∷ 49 ∷ 32 ∷ 51 ∷ 32 ∷ 50 ∷ 32 ∷ 51 ∷ 32 ∷ 67 ∷ 67 ∷ 10 ∷ []
unfolding file_lines lines_from header_line read_line extent labelled_number labelled_word number_field word_field or_dash decimal_of first_base right_end last_base insert_of
lines-of-E = refl

short : (file : List ℕ) → length file ≡ 88 → length file ≤ 65536
short file h = omega arith

pub text_in-E : printed e_bytes ≡ 102 ∷ 108 ∷ 111 ∷ 119 ∷ 115 ∷ 32 ∷ 52 ∷ 32 ∷ 107 ∷ 101 ∷ 121 ∷ 32 ∷ 84 ∷ 32 ∷ 114 ∷ 101 ∷ 97 ∷ 100 ∷ 115 ∷ 32 ∷ 49 ∷ 10
    ∷ 48 ∷ 32 ∷ 114 ∷ 49 ∷ 32 ∷ 51 ∷ 32 ∷ 50 ∷ 32 ∷ 51 ∷ 32 ∷ 67 ∷ 67 ∷ 10 ∷ []
text_in-E = printed-accepted e_bytes (short e_bytes refl) accepted ∙ ap file_lines parsed ∙ lines-of-E

pub text_of_clip : printed (set e_bytes 49 4) ≡ 114 ∷ 101 ∷ 102 ∷ 117 ∷ 115 ∷ 101 ∷ 100 ∷ 32 ∷ 57 ∷ 32 ∷ 97 ∷ 116 ∷ 32 ∷ 52 ∷ 56 ∷ 10 ∷ []
text_of_clip = printed_refused (set e_bytes 49 4) 9 48 (short (set e_bytes 49 4) refl) refused ∙ refusal_9_at_48
