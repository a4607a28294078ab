use Rattle.std.proofs.Common.{◌≡◌, sym, subst}
use Rattle.ts_words.specs.StopLists.{IsBadLine}
use Rattle.shell_script.specs.StepView.{line as shown}
use Rattle.shell_run.specs.Defining.{IsNoLine}
use Rattle.shell_run.specs.Inner.Definitions.{LineBad}
use Rattle.shell_run.proofs.Bodies.{line_bad}
use Rattle.shell_run.proofs.dictionaries.add_stop.Goals as goal

pub returns-in-Err-clause-refused : goal.returns-in-Err-clause-refused
returns-in-Err-clause-refused c =
    let same : c.in-Ok.text.now ≡ c.args.line.bytes.now = c.in-Ok.ensures.cases.0 in
    subst (LineBad (IsNoLine IsBadLine) (shown c.args.line)) (sym c.line_refused.ensures)
    (line_bad IsBadLine c.in-Ok.text.now (shown c.args.line) c.in-Err.error same c.in-Err.ensures.fault)
