use Rattle.std.proofs.Common.{◌≡◌, ◌∙◌, ap, sym, subst}
use Rattle.std.specs.Prelude.{is_some, true, ◌↔◌, IfSome}
use Rattle.ts_config.specs.Known.{HasConfiguration, IsWithin, mapping_named}
use Rattle.ts_config.specs.Inner.Entries.{AllWithin}
use Rattle.ts_config.proofs.Names.{mapping_found, has_mapping, named_within, some_copied, all_copied}
use Rattle.ts_config.proofs.configs.Configs.config.Goals as goal

pub returns-clause-value : goal.returns-clause-value
returns-clause-value c = c.get.ensures.value ∙ mapping_found c.args.name.now c.self.inside.configurations.entries
    ∙ ap (λ k. mapping_named k c.args.name.now) c.self.view_is

pub returns-clause-within : goal.returns-clause-within
returns-clause-within c = all_copied (IsWithin c.args.self.now) c.get.result
    (subst (λ o. IfSome o (IsWithin c.args.self.now)) (sym (returns-clause-value c))
    (named_within c.args.self.now c.args.name.now (subst AllWithin c.self.view_is c.self.invariant)))

pub returns-clause-found : goal.returns-clause-found
returns-clause-found c =
    let same : is_some (mapping_named c.args.self.now c.args.name.now) ≡ is_some c.get.result =
    ap is_some (sym (returns-clause-value c)) ∙ sym (some_copied c.get.result) in
    subst (λ b. (b ≡ true) ↔ HasConfiguration c.args.self.now c.args.name.now) same
    (has_mapping c.args.self.now c.args.name.now)
