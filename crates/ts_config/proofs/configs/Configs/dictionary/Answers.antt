use Rattle.std.proofs.Common.{◌≡◌, ◌∙◌, ap, sym, subst}
use Rattle.std.specs.Prelude.{is_some, true, ◌↔◌}
use Rattle.std.specs.Option.{option_map}
use Rattle.ts_config.specs.Rules.{rules_of}
use Rattle.ts_config.specs.Known.{HasDictionary, rules_named}
use Rattle.ts_config.proofs.Names.{rules_found, has_rules, rules_copied, some_map}
use Rattle.ts_config.proofs.configs.Configs.dictionary.Goals as goal

pub returns-clause-value : goal.returns-clause-value
returns-clause-value c = rules_copied rules_of c.get.result ∙ ap (option_map rules_of) c.get.ensures.value
    ∙ rules_found c.args.name.now c.self.inside.dictionaries.entries
    ∙ ap (λ k. rules_named k c.args.name.now) c.self.view_is

pub returns-clause-found : goal.returns-clause-found
returns-clause-found c =
    let same : is_some (rules_named c.args.self.now c.args.name.now) ≡ is_some c.get.result =
    ap is_some (sym (returns-clause-value c)) ∙ some_map (λ d. rules_of d.now) c.get.result in
    subst (λ b. (b ≡ true) ↔ HasDictionary c.args.self.now c.args.name.now) same
    (has_rules c.args.self.now c.args.name.now)
