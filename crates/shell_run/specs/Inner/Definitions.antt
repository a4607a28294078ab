-- What becomes of the lines of a definition.
use Rattle.std.specs.Prelude.{◌≡◌, ◌⊎◌, ℕ, List}
use Rattle.std.specs.List.{All}
use Rattle.ts_config.specs.Mappings.{Mapping}
use Rattle.ts_config.specs.Known.{Known}
use Rattle.shell_script.specs.Lines.{Line}
use Rattle.shell_script.specs.Replies.{Refusal, no_statement, memory}
use Rattle.shell_run.specs.Defining.{FirstIs, bytes_of, LineFails, LinesFail}

-- none of the lines is bad, and this is made of them
pub record IsMadeOf {V : Type 0} (IsBad : Line → Type 0) (Made : List (List ℕ) → V → Type 0) (ls : List Line)
    (kept : V) : Type 0 where
  pub good : All (λ (l : Line). ¬ IsBad l) ls
  pub made : Made (bytes_of ls) kept

-- why nothing is made of one line, and of lines
abbrev pub LineBad : (Line → Type 0) → Line → Refusal → Type 0
LineBad IsBad l why = (why ≡ memory) ⊎ ((why ≡ no_statement l.number) × IsBad l)

abbrev pub LinesBad : (Line → Type 0) → List Line → Refusal → Type 0
LinesBad IsBad ls why = (why ≡ memory) ⊎ ((at : ℕ) × (why ≡ no_statement at) × FirstIs IsBad ls at)

-- why one line, and lines in turn, map nothing
abbrev pub MapFails : Known → Line → Refusal → Type 0
MapFails known l why = (why ≡ memory) ⊎ LineFails known l why

abbrev pub MapsFail : Known → Mapping → List Line → Refusal → Type 0
MapsFail known old ls why = (why ≡ memory) ⊎ LinesFail known old ls why
