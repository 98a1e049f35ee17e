-- A block: its format, its header, its data, what undoing its filter gives, and its tests. Assumes nothing: these are
-- definitions.
use Rattle.std.specs.Prelude.{ℕ, ◌≤◌, Bool, true, false, cond, not, ◌&&◌, ◌||◌, List, [], length, drop, get_or, eqb, leb, ltb}
use Rattle.octets.specs.Parts.{part}
use Rattle.octets.specs.Scans.{first_not, is_zero}
use Rattle.answers.specs.Answer.{Answer, when, ◌then◌}
use Rattle.filter_format.specs.declared.Filter.{Filter}
use Rattle.filter_format.specs.declared.Filter.TheVariants.{Raw, Delta, Narrow, Follow, Other}
use Rattle.filter_format.specs.Units.{IsWidth, not_whole}
use Rattle.filter_format.specs.Delta.{undelta_bytes}
use Rattle.filter_format.specs.Narrow.{widen, lacking}
use Rattle.filter_format.specs.Follow.{unfollowed}

-- 0; 64, 65, 66 with units of 1, 2, 4 bytes; 70, 71 with "signed units of 2, 4 bytes"; 72; any other
unfoldable pub filter_of : ℕ → Filter
filter_of format =
    cond (eqb format 0) Raw
    (cond (eqb format 64) (Delta 1)
    (cond (eqb format 65) (Delta 2)
    (cond (eqb format 66) (Delta 4)
    (cond (eqb format 70) (Narrow 2)
    (cond (eqb format 71) (Narrow 4)
    (cond (eqb format 72) Follow Other))))))

-- "Byte 0 is the format"
abbrev pub filter_at : List ℕ → Filter
filter_at block = filter_of (get_or block 0 0)

-- "0: the rest is the data"
abbrev pub is_raw : Filter → Bool
is_raw Raw = true
is_raw (Delta width) = false
is_raw (Narrow width) = false
is_raw Follow = false
is_raw Other = false

-- "these six formats"
abbrev pub is_filter : Filter → Bool
is_filter Raw = false
is_filter (Delta width) = true
is_filter (Narrow width) = true
is_filter Follow = true
is_filter Other = false

-- where the data begin: behind the format byte; for 64 to 66 behind the level byte, "66: then two zeros"; for 72 behind
-- "256 follow bytes"
unfoldable pub header_length : Filter → ℕ
header_length Raw = 1
header_length (Delta width) = cond (eqb width 4) 4 2
header_length (Narrow width) = 1
header_length Follow = 257
header_length Other = 1

-- the level byte, the follow bytes, the data
abbrev pub level_at : List ℕ → ℕ
level_at block = get_or block 1 0

abbrev pub follow_at : List ℕ → List ℕ
follow_at block = part 1 256 block

abbrev pub data_at : Filter → List ℕ → List ℕ
data_at filter block = drop (header_length filter) block

-- the data of a block, with their filter undone
unfoldable pub decoded : Filter → ℕ → List ℕ → List ℕ → List ℕ
decoded Raw level follow source = source
decoded (Delta width) level follow source = undelta_bytes width level source
decoded (Narrow width) level follow source = widen width 0 source
decoded Follow level follow source = unfollowed follow source
decoded Other level follow source = []

-- "Undoing a filter gives another block"; of format 0 "the rest is the data"
unfoldable pub undone : Filter → List ℕ → List ℕ
undone filter block = decoded filter (level_at block) (follow_at block) (data_at filter block)

-- "level byte, 1 to 3 here"
abbrev pub bad_level : ℕ → Bool
bad_level level = not (leb 1 level && leb level 3)

-- "42 level or zeros wrong"
unfoldable pub bad_header : Filter → List ℕ → Bool
bad_header Raw block = false
bad_header (Delta width) block =
    bad_level (level_at block) || ltb (first_not is_zero 2 (header_length (Delta width)) block) (header_length (Delta width))
bad_header (Narrow width) block = false
bad_header Follow block = false
bad_header Other block = false

-- "43 data not whole units, or 128 with too few bytes after it"
unfoldable pub bad_data : Filter → List ℕ → Bool
bad_data Raw source = false
bad_data (Delta width) source = not_whole width source
bad_data (Narrow width) source = ltb 0 (lacking width 0 source)
bad_data Follow source = false
bad_data Other source = false

-- "40 header cut short; 42 level or zeros wrong; 43 data not whole units, or 128 with too few bytes after it; 26 a
-- result above the room. Place 0"
unfoldable pub contents_test : Filter → ℕ → List ℕ → Answer
contents_test filter room block =
    when (ltb (length block) (header_length filter)) 40 0
    then when (bad_header filter block) 42 0
    then when (bad_data filter (data_at filter block)) 43 0
    then when (ltb room (length (undone filter block))) 26 0

-- what the code asks of a filter, and every format gives: its units have a width
abbrev pub HasUnitWidth : Filter → Type 0
HasUnitWidth Raw = Unit {0}
HasUnitWidth (Delta width) = IsWidth width
HasUnitWidth (Narrow width) = (IsWidth width) × (2 ≤ width)
HasUnitWidth Follow = Unit {0}
HasUnitWidth Other = Unit {0}
