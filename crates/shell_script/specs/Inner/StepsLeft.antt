-- What is left of a script's steps.
use Rattle.std.specs.Prelude.{◌+◌, ◌<◌, ◌^◌, List, length}
use Rattle.std.specs.Str.Lines.{lines}
use Rattle.shell_script.specs.Lines.{lines_from}
use Rattle.shell_script.specs.Steps.{Step}
use Rattle.shell_script.specs.StepsOf.{steps_from}
use Rattle.shell_script.specs.declared.script.Steps.TheInside.{Inside}

abbrev pub steps_left : Inside → List Step
steps_left s = steps_from 0 s.within (lines_from s.number (lines s.rest.now))

-- the number of each line fits
abbrev pub StepsFit : Inside → Type 0
StepsFit s = s.number + length s.rest.now < 2 ^ 64
