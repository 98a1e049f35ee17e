-- The lines that structs of their fields stand for. Assumes nothing: these are definitions.
use Rattle.std.specs.Prelude.{ℕ, List}
use Rattle.lines.specs.declared.inner.HeaderLine.{HeaderLine}
use Rattle.lines.specs.declared.inner.ReadLine.{ReadLine}
use Rattle.lines.specs.Lines.{header_line, read_line}

abbrev pub header_text : HeaderLine → List ℕ
header_text line = header_line line.flows line.key.now line.reads

abbrev pub read_text : ReadLine → List ℕ
read_text line = read_line line.position line.name.now line.bases line.first line.last line.insert.now
