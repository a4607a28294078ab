use Rattle.std.proofs.Common.{◌≡◌, sym, subst}
use Rattle.ts_config.specs.Rules.{answer_by, rules_of}
use Rattle.ts_thesaurus.specs.Lines.{IsRefused, Adds}
use Rattle.shell_script.specs.StepView.{line as shown}
use Rattle.shell_run.specs.Defining.{IsNoLine}
use Rattle.shell_run.specs.Inner.Definitions.{LineBad}
use Rattle.shell_run.proofs.Bodies.{fault_bad}
use Rattle.shell_run.proofs.dictionaries.add_rule.Goals as goal

pub returns-in-Err-clause-refused : goal.returns-in-Err-clause-refused
returns-in-Err-clause-refused c =
    let answer = answer_by (rules_of c.args.sub.now) in
    let same : c.in-Ok.text.now ≡ c.args.line.bytes.now = c.in-Ok.ensures.cases.0 in
    subst (LineBad (IsNoLine (IsRefused answer)) (shown c.args.line)) (sym c.line_refused.ensures)
    (fault_bad answer c.in-Ok.text.now (shown c.args.line) c.in-Err.error same c.in-Err.ensures.fault)

pub returns-in-Ok-add_line-clause-added : goal.returns-in-Ok-add_line-clause-added
returns-in-Ok-add_line-clause-added c =
    let same : c.in-Ok.text.now ≡ c.args.line.bytes.now = c.in-Ok.ensures.cases.0 in (
      c.in-Ok.ensures.cases.1,
      subst (λ line. Adds (answer_by (rules_of c.args.sub.now)) line c.args.thesaurus.now c.add_line.new.self)
          same c.in-Ok-add_line.ensures.taken,
    )
