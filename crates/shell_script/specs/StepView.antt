-- Lines and steps without where they lie in memory.
use Rattle.shell_script.specs.Lines as lines
use Rattle.shell_script.specs.Steps as steps
use Rattle.shell_script.specs.declared.lines.Line.{Line}
use Rattle.shell_script.specs.declared.script.Step.{Step}
use Rattle.shell_script.specs.declared.script.Step.TheVariants.{Single, Definition, Stray}

abbrev pub line : Line → lines.Line
line l = record { number = l.number; bytes = l.bytes.now }

abbrev pub step : Step → steps.Step
step (Single l) = steps.single (line l)
step (Definition l body) = steps.definition (line l) body
step (Stray l) = steps.stray (line l)
