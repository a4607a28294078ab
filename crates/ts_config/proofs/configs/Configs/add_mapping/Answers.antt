use Rattle.std.proofs.Common.{◌∙◌, ap, sym, subst, map}
use Rattle.std.specs.Prelude.{All, string_bytes, bytes_eq}
use Rattle.std.specs.Map.{set_value}
use Rattle.ts_config.specs.Known.{NamedMapping, HasConfiguration, IsWithin, ArePlaces, remapped}
use Rattle.ts_config.specs.Inner.Entries.{named_mapping, known_of, AllWithin}
use Rattle.ts_config.proofs.Names.{absent}
use Rattle.ts_config.proofs.Within.{places_within}
use Rattle.ts_config.proofs.Remapped.{written, remapped_within}
use Rattle.ts_config.proofs.configs.Configs.add_mapping.Goals as goal
use Rattle.ts_config.proofs.configs.Configs.add_mapping.Goals.{in-Some-get_mut, in_default-get_mut}

pub invariant_of-self : goal.invariant_of-self
invariant_of-self c =
    let name = c.args.name.now in
    let places = c.in-Some.places.items in
    let old = c.self.inside.configurations.entries in
    let known = known_of c.self.inside in
    let names = map string_bytes c.args.dictionaries.now in
    let are = rw c.in-Some.is at c.in_ok-places.ensures in
    let below = places_within known names places (subst (λ k. ArePlaces k names places) (sym c.self.view_is) are) in
    let all = remapped_within name c.args.kind places known (map named_mapping old) below c.self.invariant in
    elim c.match-get_mut.branch [
      | in-Some-get_mut w ↦
          (let found =
          written name c.args.kind places w.in-Some-get_mut.config.now old (sym w.in-Some-get_mut.ensures.value) in
          let new = ap (map named_mapping) (c.get_mut.follows.holds w.set.new.self).0
          ∙ ap (λ m. map named_mapping (set_value (λ k. bytes_eq name (string_bytes k)) old m)) w.set.ensures ∙ found in
          let P : NamedMapping → Type 0 = λ m. IsWithin known m.mapping in
          subst AllWithin (ap known_of (sym w.self-inside-is)) (subst (All P) (sym new) all))
      | in_default-get_mut w ↦ absurd (absent name old w.in_default-get_mut.ensures.value
          (subst (λ k. HasConfiguration k name) (sym c.self.view_is) c.requires))
    ]

pub returns-clause-added : goal.returns-clause-added
returns-clause-added c =
    let name = c.args.name.now in
    let places = c.in-Some.places.items in
    let old = c.self.inside.configurations.entries in
    elim c.match-get_mut.branch [
      | in-Some-get_mut w ↦
          (let found =
          written name c.args.kind places w.in-Some-get_mut.config.now old (sym w.in-Some-get_mut.ensures.value) in
          let new = ap (map named_mapping) (c.get_mut.follows.holds w.set.new.self).0
          ∙ ap (λ m. map named_mapping (set_value (λ k. bytes_eq name (string_bytes k)) old m)) w.set.ensures ∙ found
          ∙ ap (λ k. remapped name c.args.kind places k.configurations) c.self.view_is in
          record {
            places = places;
            are = rw c.in-Some.is at c.in_ok-places.ensures;
            value = ap known_of w.self-inside-is
                ∙ (λ i. record { dictionaries = (c.self.view_is i).dictionaries; configurations = new i });
          })
      | in_default-get_mut w ↦ absurd (absent name old w.in_default-get_mut.ensures.value
          (subst (λ k. HasConfiguration k name) (sym c.self.view_is) c.requires))
    ]
