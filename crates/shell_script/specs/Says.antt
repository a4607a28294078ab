-- What a step of a script says.
use Rattle.std.specs.Prelude.{◌≡◌, ℕ, List, not}
use Rattle.std.specs.List.{filter}
use Rattle.shell_script.specs.Lines.{Line}
use Rattle.shell_script.specs.OpeningLines.{OpeningLine, IsOpeningLine}
use Rattle.shell_script.specs.Grammar.{Statement, define, invalid, IsStatement}
use Rattle.shell_script.specs.Steps.{Step, single, definition, stray}
use Rattle.shell_script.specs.StepsOf.{is_skipped}

-- the lines that are neither empty nor comments
abbrev pub counted_lines : List Line → List Line
counted_lines ls = filter (λ (l : Line). not (is_skipped l.bytes)) ls

-- what a definition says: nothing, where its first line is outside the grammar
abbrev pub IsDefinition : Line → List Line → Statement → Type 0
IsDefinition l body (define head ls) = IsOpeningLine l.bytes head × (ls ≡ counted_lines body)
IsDefinition l body invalid = (head : OpeningLine) → IsOpeningLine l.bytes head → ⊥
IsDefinition l body statement = ⊥

-- what a step says, with its session (0 where it has none)
abbrev pub Says : Step → ℕ → Statement → Type 0
Says (single l) s statement = IsStatement l.bytes s statement
Says (definition l body) s statement = (s ≡ 0) × IsDefinition l body statement
Says (stray l) s statement = (s ≡ 0) × (statement ≡ invalid)

-- the line that a step begins with
abbrev pub line_of : Step → Line
line_of (single l) = l
line_of (definition l body) = l
line_of (stray l) = l
