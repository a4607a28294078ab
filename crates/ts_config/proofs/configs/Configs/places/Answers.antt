use Rattle.std.proofs.Common.{◌≡◌, ◌∙◌, ◌+◌, ap, sym, subst, map, take, get_or, ◌++◌, ◌∷◌, []}
use Rattle.std.proofs.lemmas.List.{take_more, map-append}
use Rattle.ts_config.specs.Known.{HasDictionary, ArePlaces}
use Rattle.ts_config.proofs.Names.{any_here, places_more}
use Rattle.ts_config.proofs.configs.Configs.places.Goals as goal

pub returns-in-None : goal.returns-in-None
returns-in-None g c =
    let text = g.N.AsStr.text in
    let names = c.args.names.now in
    let i = c.loop-name.name-index in
    let same : c.as_str.result.now ≡ text (get_or names i c.name-item.result) =
    c.as_str.ensures ∙ ap text c.name-item.is in
    any_here text (λ n. ¬ HasDictionary c.args.self.now n) names i c.name-item.result c.loop-name-test.true
    (subst (λ n. ¬ HasDictionary c.args.self.now n) same
    (λ h. let e = c.in-None.ensures.found.1 h in let z : ⊥ = cc in z))

pub loop-name-preserved : goal.loop-name-preserved
loop-name-preserved g c =
    let text = g.N.AsStr.text in
    let names = c.args.names.now in
    let i = c.loop-name.name-index in
    let known = c.args.self.now in
    let same : c.as_str.result.now ≡ text (get_or names i c.name-item.result) =
    c.as_str.ensures ∙ ap text c.name-item.is in
    let done = map text (take i names) in
    let more : map text (take (i + 1) names) ≡ done ++ c.as_str.result.now ∷ [] =
    ap (map text) (take_more names i c.name-item.result c.loop-name-test.true)
    ∙ map-append text (take i names) (get_or names i c.name-item.result ∷ []) ∙ ap (λ n. done ++ n ∷ []) (sym same) in
    subst (λ ns. ArePlaces known ns c.push.new.self.items) (sym more)
    (subst (ArePlaces known (done ++ c.as_str.result.now ∷ [])) (sym c.in_ok-push-in-Some.ensures.items)
    (places_more known done c.loop-name.places.items c.as_str.result.now c.in-Some.place c.loop-name.invariant
    (sym c.in-Some.ensures.value)))
