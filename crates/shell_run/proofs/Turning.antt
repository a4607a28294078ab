-- What a step is answered, and what is defined then.
use Rattle.std.proofs.Common.{◌≡◌, ℕ, List, refl, sym, subst}
use Rattle.disk_trait.specs.declared.device.Disk.{Ghosts as Disk}
use Rattle.ts_config.specs.Known.{Known}
use Rattle.shell_script.specs.Lines.{Line}
use Rattle.shell_script.specs.OpeningLines.{OpeningLine, IsOpeningLine}
use Rattle.shell_script.specs.Grammar.{define, invalid, IsStatement}
use Rattle.shell_script.specs.Steps.{Step, single, definition}
use Rattle.shell_script.specs.Says.{counted_lines, Says, line_of}
use Rattle.shell_script.specs.Replies.{Reply, refused, no_statement}
use Rattle.shell_script.specs.StatementView.{statement}
use Rattle.shell_script.specs.declared.statement.Statement.{Statement}
use Rattle.shell_script.specs.declared.statement.Statement.TheVariants.{Insert, Update, Delete, Search, Cleanup, Show}
use Rattle.shell_script.specs.declared.statement.Statement.TheVariants.{Vacuum, Ask, Parse, Commits, Invalid}
use Rattle.shell_run.specs.Defining.{IsDefined, Becomes}
use Rattle.shell_run.specs.Inner.Answering.{HasAnswered}
use Rattle.shell_run.specs.Inner.Serving.{HasTurned}
use Rattle.shell_run.specs.declared.serving.RunState.{RunState}

-- a statement of one line defines nothing
defines_none : (known : Known) (asked : Statement) (r : Reply) → Becomes known (statement asked) r known
defines_none known (Insert e) r = refl
defines_none known (Update d e) r = refl
defines_none known (Delete d) r = refl
defines_none known (Search t) r = refl
defines_none known Cleanup r = refl
defines_none known Vacuum r = refl
defines_none known (Show e) r = refl
defines_none known (Ask t) r = refl
defines_none known (Parse t) r = refl
defines_none known Commits r = refl
defines_none known Invalid r = refl

module _ {D : Type 0} (device : Disk D) where
  pub turned_line : (l : Line) (old new : RunState D) (session : ℕ) (asked : Statement) (r : Reply)
      → IsStatement l.bytes session (statement asked)
      → HasAnswered device old.store new.store old.pass new.pass old.configs l.number (statement asked) r
      → new.configs ≡ old.configs
      → HasTurned device (single l) old new session r
  turned_line l old new session asked r says answered same = record {
    statement = statement asked;
    says = says;
    answered = answered;
    becomes = subst (Becomes old.configs (statement asked) r) (sym same) (defines_none old.configs asked r);
  }

  pub turned_nothing : (s : Step) (run_state : RunState D) → Says s 0 invalid
      → HasTurned device s run_state run_state 0 (refused (no_statement (line_of s).number))
  turned_nothing s run_state says =
      record { statement = invalid; says = says; answered = ((refl, refl), refl); becomes = refl }

  pub turned_definition : (l : Line) (body : List Line) (old new : RunState D) (head : OpeningLine) (r : Reply)
      → IsOpeningLine l.bytes head → (new.store ≡ old.store) × (new.pass ≡ old.pass)
      → IsDefined old.configs l.number head (counted_lines body) r
      → Becomes old.configs (define head (counted_lines body)) r new.configs
      → HasTurned device (definition l body) old new 0 r
  turned_definition l body old new head r is same answered becomes = record {
    statement = define head (counted_lines body);
    says = (refl, (is, refl));
    answered = (same, answered);
    becomes = becomes;
  }
