use Rattle.std.proofs.Common.{◌∙◌, ap, sym, refl, List, ◌++◌, ◌∷◌, []}
use Rattle.std.specs.List.{list_any}
use Rattle.std.specs.Prelude.{bytes_eq}
use Rattle.std.proofs.lemmas.Bool.{true≢false}
use Rattle.ts_config.specs.Rules.{rules_of}
use Rattle.ts_config.specs.Known.{NamedRules}
use Rattle.ts_config.proofs.Names.{rules_key, any_named, named_any, goes_last, rules_added}
use Rattle.ts_config.proofs.configs.Configs.add_dictionary.Goals as goal

pub returns-then-contains_key-clause-refused : goal.returns-then-contains_key-clause-refused
returns-then-contains_key-clause-refused c =
    let name = c.args.name.now in
    let known = ap (λ k. list_any (λ (d : NamedRules). bytes_eq name d.name) k.dictionaries) c.self.view_is in
    let has = any_named (λ (d : NamedRules). d.name) name c.args.self.now.dictionaries
    (sym (rules_key name c.self.inside.dictionaries.entries ∙ known) ∙ sym c.contains_key.ensures
    ∙ c.if-contains_key.true) in
    (((λ l. true≢false (sym (c.lacks_sub.ensures.1 l) ∙ c.if-lacks_sub.false)), has), refl)

pub returns-in-Ok-clause-added : goal.returns-in-Ok-clause-added
returns-in-Ok-clause-added c =
    let name = c.args.name.now in
    let old = c.self.inside.dictionaries in
    let key = c.in_ok-name.name in
    let known = ap (λ k. list_any (λ (d : NamedRules). bytes_eq name d.name) k.dictionaries) c.self.view_is in
    let none = sym c.contains_key.ensures ∙ c.if-contains_key.false in
    let entries = c.in-Ok.ensures.entries ∙ goes_last old key c.args.dictionary name c.in_ok-name.ensures.ok none in
    let added =
    rules_added old.entries c.insert.new.self.entries key c.args.dictionary name entries c.in_ok-name.ensures.ok in
    let one : NamedRules = record { name = name; rules = rules_of c.args.dictionary } in
    let more : List NamedRules → List NamedRules = λ ds. ds ++ one ∷ [] in
    record {
      sub = λ l. true≢false (sym (c.lacks_sub.ensures.1 l) ∙ c.if-lacks_sub.false);
      free = λ h. true≢false (sym (named_any (λ (d : NamedRules). d.name) name c.args.self.now.dictionaries h)
          ∙ sym (rules_key name old.entries ∙ known) ∙ none);
      value = λ i. record {
        dictionaries = (added ∙ ap (λ k. more k.dictionaries) c.self.view_is) i;
        configurations = (c.self.view_is i).configurations;
      };
    }
