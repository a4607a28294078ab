use Rattle.std.proofs.Common.{◌≡◌, ◌∙◌, ℕ, List, ap, map, subst}
use Rattle.std.specs.Prelude.{IfOk, MatchOption}
use Rattle.std.specs.List.{Any}
use Rattle.ts_config.specs.Known.{HasDictionary, ArePlaces}
use Rattle.shell_run.proofs.defining.places_of.Goals as goal
use denote.Ref.{Bor}

pub returns : goal.returns
returns c =
    let known = c.args.configs.now in
    let text : Bor (List ℕ) → List ℕ = λ n. n.now in
    let same : map text c.deref.result.now ≡ c.args.names =
    ap (map text) c.deref.ensures.value ∙ c.in_ok-texts.ensures in
    subst (λ (ns : List (List ℕ)). IfOk c.places.result (λ found. MatchOption found
    (Any (λ name. ¬ HasDictionary known name) ns) (λ places. ArePlaces known ns places.items))) same c.places.ensures
