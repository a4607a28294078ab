use Rattle.std.proofs.Common.{◌≡◌, sym, ap}
use Rattle.std.specs.Prelude.{Some}
use Rattle.ts_config.specs.Rules.{rules_of, thesaurus_rules}
use Rattle.ts_config.specs.Known.{sub_named}
use Rattle.shell_script.specs.ReplyView.{refusal}
use Rattle.shell_script.specs.Says.{counted_lines}
use Rattle.shell_run.proofs.Bodies.{thesaurus_good, thesaurus_read, thesaurus_refuses}
use Rattle.shell_run.proofs.dictionaries.thesaurus_of.Goals as goal

pub returns-in-Err-clause-refused : goal.returns-in-Err-clause-refused
returns-in-Err-clause-refused c =
    let is : sub_named c.args.configs.now c.args.sub.now ≡ Some (rules_of c.in-Some.dictionary.now) =
    sym c.in-Some.ensures in
    thesaurus_refuses c.args.configs.now c.args.sub.now (rules_of c.in-Some.dictionary.now) (counted_lines c.args.body)
    (refusal c.in-Err.why) is c.in-Err.ensures.refused

pub returns-in-Ok-from_str-clause-good : goal.returns-in-Ok-from_str-clause-good
returns-in-Ok-from_str-clause-good c =
    let is : sub_named c.args.configs.now c.args.sub.now ≡ Some (rules_of c.in-Some.dictionary.now) =
    sym c.in-Some.ensures in
    thesaurus_good c.args.configs.now c.args.sub.now (rules_of c.in-Some.dictionary.now)
    (counted_lines c.args.body) c.in-Ok.thesaurus is c.in-Ok.ensures.rules

pub returns-in-Ok-from_str-clause-made : goal.returns-in-Ok-from_str-clause-made
returns-in-Ok-from_str-clause-made c =
    let is : sub_named c.args.configs.now c.args.sub.now ≡ Some (rules_of c.in-Some.dictionary.now) =
    sym c.in-Some.ensures in (
      c.in-Ok.thesaurus,
      thesaurus_read c.args.configs.now c.args.sub.now (rules_of c.in-Some.dictionary.now)
          (counted_lines c.args.body) c.in-Ok.thesaurus is c.in-Ok.ensures.rules,
      ap (thesaurus_rules c.in-Ok.thesaurus) c.in-Ok-from_str.ensures.ok,
    )
