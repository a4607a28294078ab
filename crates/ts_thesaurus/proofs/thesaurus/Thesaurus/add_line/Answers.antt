use Rattle.std.proofs.Common.{Some, None, subst}
use Rattle.ts_thesaurus.specs.Views.{rule_value}
use Rattle.ts_thesaurus.specs.Inner.Reading.{Reads}
use Rattle.ts_thesaurus.proofs.Progress.{rules_pass, rules_more, passed_not_refused, rule_not_refused}
use Rattle.ts_thesaurus.proofs.thesaurus.Thesaurus.add_line.Goals as goal

pub returns-in_default-clause-taken : goal.returns-in_default-clause-taken
returns-in_default-clause-taken g c =
    let answer = g.D.Dictionary.answer c.args.sub.now in
    let line = c.args.line.now in
    let passed : Reads answer line None = subst (Reads answer line) c.in_default.is c.in_ok-rule.ensures.value in
    record {
      fit = passed_not_refused answer line passed;
      each = λ lines h. rules_pass answer lines line c.args.self.now h passed;
    }

pub returns-clause-taken : goal.returns-clause-taken
returns-clause-taken g c =
    let answer = g.D.Dictionary.answer c.args.sub.now in
    let line = c.args.line.now in
    let rule = rule_value c.in-Some.rule in
    let gives : Reads answer line (Some c.in-Some.rule) =
    subst (Reads answer line) c.in-Some.is c.in_ok-rule.ensures.value in
    rw c.in_ok-keep.ensures.kept (record {
      fit = rule_not_refused answer line rule gives;
      each = λ lines h. rules_more answer lines line c.args.self.now rule h gives;
    })
