-- The mapping that the lines of a configuration make, one after another.
use Rattle.std.proofs.Common.{◌≡◌, inl, inr, List, [], ◌∷◌, ap, sym, subst, ◌∙◌}
use Rattle.ts_config.specs.Known.{Known, IsWithin}
use Rattle.ts_config.proofs.Within.{within_mapped, places_within}
use Rattle.shell_script.specs.Lines.{Line}
use Rattle.shell_script.specs.Replies.{Refusal}
use Rattle.shell_run.specs.Defining.{MapsLine, Maps}
use Rattle.shell_run.specs.Inner.Bodies.{TakesAll, RefusesOne}
use Rattle.shell_run.specs.Inner.Definitions.{MapFails, MapsFail}
use Rattle.shell_run.specs.declared.defining.MappingOver.{MappingOver}

abbrev TakesLine : Line → MappingOver → MappingOver → Type 0
TakesLine l old new = (new.configs ≡ old.configs) × MapsLine old.configs.now old.partial l new.partial

abbrev RefusesLine : Line → MappingOver → Refusal → Type 0
RefusesLine l old why = MapFails old.configs.now l why

-- after a line that was taken what is defined is the same, and the mapping stays within it
next_is : (known : Known) (l : Line) (old new : MappingOver) → old.configs.now ≡ known
    → TakesLine l old new → (new.configs.now ≡ known) × MapsLine known old.partial l new.partial
next_is known l old new is h = (
  ap (λ c. c.now) h.0 ∙ is,
  subst (λ k. MapsLine k old.partial l new.partial) is h.1,
)

pub maps_all : (known : Known) (ls : List Line) (old new : MappingOver) → old.configs.now ≡ known
    → TakesAll TakesLine ls old new → Maps known old.partial ls new.partial
maps_all known [] old new is same = ap (λ (m : MappingOver). m.partial) same
maps_all known (l ∷ ls) old new is h =
    let k = next_is known l old h.0 is h.1 in
    (h.0.partial, k.1, maps_all known ls h.0 new k.0 h.2)

pub within_all : (known : Known) (ls : List Line) (old new : MappingOver) → old.configs.now ≡ known
    → IsWithin known old.partial → TakesAll TakesLine ls old new → IsWithin known new.partial
within_all known [] old new is within same =
    subst (λ (m : MappingOver). IsWithin known m.partial) (sym same) within
within_all known (l ∷ ls) old new is within h =
    let k = next_is known l old h.0 is h.1 in
    let m : MapsLine known old.partial l h.0.partial = k.1 in
    within_all known ls h.0 new k.0
    (subst (IsWithin known) (sym m.value)
    (within_mapped known old.partial m.types m.places within (places_within known m.names m.places m.are))) h.2

pub maps_fail : (known : Known) (ls : List Line) (old : MappingOver) (why : Refusal)
    → old.configs.now ≡ known → RefusesOne TakesLine RefusesLine ls old why
    → MapsFail known old.partial ls why
maps_fail known [] old why is f = absurd f
maps_fail known (l ∷ ls) old why is (inl f) = first (subst (λ k. MapFails k l why) is f)
  where
    first : MapFails known l why → MapsFail known old.partial (l ∷ ls) why
    first (inl e) = inl e
    first (inr h) = inr (inl h)
maps_fail known (l ∷ ls) old why is (inr f) =
    let k = next_is known l old f.0 is f.1 in
    later f.0 k.1 (maps_fail known ls f.0 why k.0 f.2)
  where
    later : (next : MappingOver) → MapsLine known old.partial l next.partial
        → MapsFail known next.partial ls why → MapsFail known old.partial (l ∷ ls) why
    later next h (inl e) = inl e
    later next h (inr g) = inr (inr (next.partial, h, g))
