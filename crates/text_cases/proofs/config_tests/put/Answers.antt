use Rattle.std.proofs.Common.{◌≡◌, ◌∙◌, ◌<◌, [], ◌∷◌, length, sym, subst}
use Rattle.std.proofs.lemmas.List.Elements.{All-nil, All-cons}
use Rattle.ts_config.specs.Known.{IsWithin}
use Rattle.ts_config.proofs.Within.{within_empty, within_mapped}
use Rattle.text_cases.proofs.config_tests.put.Goals as goal
use Rattle.text_cases.proofs.config_tests.put.Goals.{in-Some+in_ok-map, in_default}

pub put_configuration-requires : goal.put_configuration-requires
put_configuration-requires c =
    let known = c.args.configs.now in
    let empty = subst (IsWithin known) (sym c.in_ok-config.ensures) (within_empty known) in
    elim c.match-place.branch [
      | in-Some+in_ok-map w ↦
          (let below = All-cons (λ p. p < length known.dictionaries) w.in-Some.place [] w.in-Some.ensures.within
          (All-nil (λ p. p < length known.dictionaries)) in
          subst (IsWithin known) (sym (w.config-is ∙ w.in_ok-map.ensures.mapped))
          (within_mapped known c.in_ok-config.config (w.type_named.result ∷ []) (w.in-Some.place ∷ []) empty below))
      | in_default w ↦ subst (IsWithin known) (sym w.config-is) empty
    ]
