use Rattle.std.proofs.Common.{◌∙◌, ap, sym, subst, refl, map, List, ◌++◌, ◌∷◌, []}
use Rattle.std.specs.List.{list_any}
use Rattle.std.specs.Prelude.{All, bytes_eq}
use Rattle.std.proofs.lemmas.Bool.{true≢false}
use Rattle.std.proofs.lemmas.List.Elements.{All-push}
use Rattle.ts_config.specs.Known.{NamedMapping, IsWithin}
use Rattle.ts_config.specs.Inner.Entries.{named_mapping, known_of}
use Rattle.ts_config.proofs.Names.{mapping_key, any_named, named_any, goes_last, mapping_added}
use Rattle.ts_config.proofs.configs.Configs.put_configuration.Goals as goal

pub returns-then-contains_key-clause-refused : goal.returns-then-contains_key-clause-refused
returns-then-contains_key-clause-refused c =
    let name = c.args.name.now in
    let known = ap (λ k. list_any (λ (d : NamedMapping). bytes_eq name d.name) k.configurations) c.self.view_is in (
      any_named (λ (d : NamedMapping). d.name) name c.args.self.now.configurations
          (sym (mapping_key name c.self.inside.configurations.entries ∙ known) ∙ sym c.contains_key.ensures
          ∙ c.if-contains_key.true),
      refl,
    )

pub invariant_of-self : goal.invariant_of-self
invariant_of-self c =
    let name = c.args.name.now in
    let old = c.self.inside.configurations in
    let key = c.in_ok-name.name in
    let none = sym c.contains_key.ensures ∙ c.if-contains_key.false in
    let entries = c.in-Ok.ensures.entries ∙ goes_last old key c.args.config name c.in_ok-name.ensures.ok none in
    let added =
    mapping_added old.entries c.insert.new.self.entries key c.args.config name entries c.in_ok-name.ensures.ok in
    let within : IsWithin (known_of c.self.inside) c.args.config =
    subst (λ k. IsWithin k c.args.config) (sym c.self.view_is) c.requires in
    let P : NamedMapping → Type 0 = λ m. IsWithin (known_of c.self.inside) m.mapping in
    subst (All P) (sym added) (All-push P (map named_mapping old.entries) (record {
      name = name;
      mapping = c.args.config;
    }) c.self.invariant within)

pub returns-in-Ok-clause-added : goal.returns-in-Ok-clause-added
returns-in-Ok-clause-added c =
    let name = c.args.name.now in
    let old = c.self.inside.configurations in
    let key = c.in_ok-name.name in
    let known = ap (λ k. list_any (λ (d : NamedMapping). bytes_eq name d.name) k.configurations) c.self.view_is in
    let none = sym c.contains_key.ensures ∙ c.if-contains_key.false in
    let entries = c.in-Ok.ensures.entries ∙ goes_last old key c.args.config name c.in_ok-name.ensures.ok none in
    let added =
    mapping_added old.entries c.insert.new.self.entries key c.args.config name entries c.in_ok-name.ensures.ok in
    let one : NamedMapping = record { name = name; mapping = c.args.config } in
    let more : List NamedMapping → List NamedMapping = λ cs. cs ++ one ∷ [] in
    record {
      free = λ h. true≢false (sym (named_any (λ (d : NamedMapping). d.name) name c.args.self.now.configurations h)
          ∙ sym (mapping_key name old.entries ∙ known) ∙ none);
      value = λ i. record {
        dictionaries = (c.self.view_is i).dictionaries;
        configurations = (added ∙ ap (λ k. more k.configurations) c.self.view_is) i;
      };
    }
