use Rattle.std.proofs.Common.{refl}
use Rattle.ts_thesaurus.specs.Lines.{IsRefused}
use Rattle.ts_config.specs.Rules.{answer_by, rules_of}
use Rattle.shell_script.specs.Says.{counted_lines}
use Rattle.shell_script.specs.ReplyView.{refusal}
use Rattle.shell_run.specs.Defining.{IsNoLine}
use Rattle.shell_run.proofs.Bodies.{RulesMade, rules_are}
use Rattle.shell_run.proofs.Taking.{made_of, refused_of}
use Rattle.shell_run.proofs.dictionaries.rules_in.Goals as goal

pub returns-in-Ok-clause-rules : goal.returns-in-Ok-clause-rules
returns-in-Ok-clause-rules c =
    let sub = rules_of c.args.sub.now in
    let made = made_of _ _ (IsNoLine (IsRefused (answer_by sub))) (RulesMade sub) (rules_are sub)
    (counted_lines c.args.body) _ _ (refl, c.new.ensures) c.in-Ok.ensures.taken in
    record { good = made.good; made = made.made.1 }

pub returns-in-Err-clause-refused : goal.returns-in-Err-clause-refused
returns-in-Err-clause-refused c =
    let sub = rules_of c.args.sub.now in
    refused_of _ _ (IsNoLine (IsRefused (answer_by sub))) (RulesMade sub) (rules_are sub)
    (counted_lines c.args.body) _ (refusal c.in-Err.why) (refl, c.new.ensures)
    c.in-Err.ensures.refused
