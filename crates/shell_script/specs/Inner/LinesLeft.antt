-- What is left of a text's lines.
use Rattle.std.specs.Prelude.{◌+◌, ◌<◌, ◌^◌, List, length}
use Rattle.std.specs.Str.Lines.{lines}
use Rattle.shell_script.specs.Lines.{Line, lines_from}
use Rattle.shell_script.specs.declared.lines.Lines.TheInside.{Inside}

abbrev pub lines_left : Inside → List Line
lines_left l = lines_from l.number (lines l.rest.now)

-- the number of each line fits
abbrev pub NumbersFit : Inside → Type 0
NumbersFit l = l.number + length l.rest.now < 2 ^ 64
