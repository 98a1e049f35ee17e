-- The lines that the programs print, document 01's words in quotation marks: of a file's header, of a read, of a
-- refusal, of an input that is too long, of a list run's answer. Assumes nothing: these are definitions.
use Rattle.std.specs.Prelude.{ℕ, cond, List, [], ◌∷◌, ◌++◌, length, ltb}
use Rattle.answers.specs.Answer.{Answer, Accepted, Refused}
use Rattle.text.specs.Writing.{or_dash}
use Rattle.text.specs.Decimal.{decimal}

-- " "
abbrev pub space : ℕ
space = 32

-- the end of a line
abbrev pub newline : ℕ
newline = 10

-- "flows "
abbrev pub flows_label : List ℕ
flows_label = 102 ∷ 108 ∷ 111 ∷ 119 ∷ 115 ∷ 32 ∷ []

-- "key "
abbrev pub key_label : List ℕ
key_label = 107 ∷ 101 ∷ 121 ∷ 32 ∷ []

-- "reads "
abbrev pub reads_label : List ℕ
reads_label = 114 ∷ 101 ∷ 97 ∷ 100 ∷ 115 ∷ 32 ∷ []

-- "refused "
abbrev pub refused_label : List ℕ
refused_label = 114 ∷ 101 ∷ 102 ∷ 117 ∷ 115 ∷ 101 ∷ 100 ∷ 32 ∷ []

-- "at "
abbrev pub at_label : List ℕ
at_label = 97 ∷ 116 ∷ 32 ∷ []

-- "count "
abbrev pub count_label : List ℕ
count_label = 99 ∷ 111 ∷ 117 ∷ 110 ∷ 116 ∷ 32 ∷ []

-- "number "
abbrev pub number_label : List ℕ
number_label = 110 ∷ 117 ∷ 109 ∷ 98 ∷ 101 ∷ 114 ∷ 32 ∷ []

-- "place "
abbrev pub place_label : List ℕ
place_label = 112 ∷ 108 ∷ 97 ∷ 99 ∷ 101 ∷ 32 ∷ []

-- "length "
abbrev pub length_label : List ℕ
length_label = 108 ∷ 101 ∷ 110 ∷ 103 ∷ 116 ∷ 104 ∷ 32 ∷ []

-- a number, and the byte that ends it
unfoldable pub number_field : ℕ → ℕ → List ℕ
number_field n end = decimal n ++ (end ∷ [])

-- a name, a key or an insert, and the byte that ends it
unfoldable pub word_field : List ℕ → ℕ → List ℕ
word_field xs end = or_dash xs ++ (end ∷ [])

-- a number behind its label
unfoldable pub labelled_number : List ℕ → ℕ → ℕ → List ℕ
labelled_number label n end = label ++ number_field n end

-- a name, a key or an insert behind its label
unfoldable pub labelled_word : List ℕ → List ℕ → ℕ → List ℕ
labelled_word label xs end = label ++ word_field xs end

-- as "flows 4 key T reads 1"
unfoldable pub header_line : ℕ → List ℕ → ℕ → List ℕ
header_line flows key reads =
    labelled_number flows_label flows space ++ labelled_word key_label key space ++ labelled_number reads_label reads newline

-- the part "N, first, last" of a read's line
unfoldable pub extent : ℕ → ℕ → ℕ → List ℕ
extent bases first last = number_field bases space ++ number_field first space ++ number_field last space

-- "A read's line is position, name, N, first, last, insert"
unfoldable pub read_line : ℕ → List ℕ → ℕ → ℕ → ℕ → List ℕ → List ℕ
read_line position name bases first last insert =
    number_field position space ++ word_field name space ++ extent bases first last ++ word_field insert newline

-- "A refusal is one line and nothing else, as `refused 9 at 48`"
unfoldable pub refusal_line : ℕ → ℕ → List ℕ
refusal_line number place = labelled_number refused_label number space ++ labelled_number at_label place newline

-- "longer input than 65,536 bytes prints `too long`"
abbrev pub too_long : List ℕ
too_long = 116 ∷ 111 ∷ 111 ∷ 32 ∷ 108 ∷ 111 ∷ 110 ∷ 103 ∷ 10 ∷ []

-- the text where a test accepts, else the line of its refusal
unfoldable pub answered : Answer → List ℕ → List ℕ
answered Accepted text = text
answered (Refused number place) text = refusal_line number place

-- the text, unless the input is longer
unfoldable pub unless_long : List ℕ → List ℕ → List ℕ
unless_long input text = cond (ltb 65536 (length input)) too_long text

-- of a list run: "The answer has their count and the number, place and length of the last record tried"
unfoldable pub answer_line : ℕ → ℕ → ℕ → ℕ → List ℕ
answer_line count number place size =
    labelled_number count_label count space ++ labelled_number number_label number space ++ labelled_number place_label place space ++ labelled_number length_label size newline
