-- The reasons of document 01 to refuse, and the number that it gives each. Assumes nothing: these are definitions.
use Rattle.std.specs.Prelude.{ℕ}
use Rattle.answers.specs.declared.Cause.{Cause}
use Rattle.answers.specs.declared.Cause.TheVariants.{CutShort, Magic, Version, FormatCode, SectionLength, Character, Padding, IndexFields, Clip, FlowWalk, Base, LeftOver, IndexNotMet, FileLength, Record, Position, OtherName, NewClip, NameTaken, IndexPresent, NoRoom, Counts, ReadCount, NoFlows, NoReadLeft, BlockCutShort, Format, BlockHeader, Units, Layers}

abbrev pub number : Cause → ℕ
number CutShort = 1
number Magic = 2
number Version = 3
number FormatCode = 4
number SectionLength = 5
number Character = 6
number Padding = 7
number IndexFields = 8
number Clip = 9
number FlowWalk = 10
number Base = 11
number LeftOver = 12
number IndexNotMet = 13
number FileLength = 14
number Record = 20
number Position = 21
number OtherName = 22
number NewClip = 23
number NameTaken = 24
number IndexPresent = 25
number NoRoom = 26
number Counts = 30
number ReadCount = 31
number NoFlows = 32
number NoReadLeft = 33
number BlockCutShort = 40
number Format = 41
number BlockHeader = 42
number Units = 43
number Layers = 44
