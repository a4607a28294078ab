use Rattle.std.proofs.Common.{◌≡◌, ◌∙◌, ap, sym, subst}
use Rattle.std.specs.Prelude.{is_some, true, ◌↔◌}
use Rattle.ts_config.specs.Rules.{rules_of}
use Rattle.ts_config.specs.Known.{HasDictionary, place_of, rules_named}
use Rattle.ts_config.proofs.Names.{place_found, rules_found, has_rules, some_map}
use Rattle.ts_config.proofs.configs.Configs.place.Goals as goal

pub returns-clause-value : goal.returns-clause-value
returns-clause-value c = c.get_index_of.ensures.index ∙ place_found c.args.name.now c.self.inside.dictionaries.entries
    ∙ ap (λ k. place_of k c.args.name.now) c.self.view_is

pub returns-clause-found : goal.returns-clause-found
returns-clause-found c =
    let named = rules_found c.args.name.now c.self.inside.dictionaries.entries
    ∙ ap (λ k. rules_named k c.args.name.now) c.self.view_is in
    let same : is_some (rules_named c.args.self.now c.args.name.now) ≡ is_some c.get_index_of.result =
    ap is_some (sym named) ∙ some_map rules_of _ ∙ sym c.get_index_of.ensures.found in
    subst (λ b. (b ≡ true) ↔ HasDictionary c.args.self.now c.args.name.now) same
    (has_rules c.args.self.now c.args.name.now)
