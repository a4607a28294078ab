-- A way that begins for the items that are left.
use Rattle.std.proofs.Common.{◌≡◌, ◌⊎◌, ◌<◌, ℕ, suc, List, ◌∷◌, length, drop, get_or, sym, ap}
use Rattle.std.proofs.Common.{◌∙◌, inl}
use Rattle.std.proofs.Common.{inr, drop-cons}
use Rattle.std.specs.Prelude.{Option, Some, None, true}
use Rattle.gin_place.specs.Trees.{root_of}
use Rattle.gin_place.specs.Inner.Stepping.{stage_from, has_some}
use Rattle.gin_place.specs.declared.placing.Stage.TheVariants as stage
use Rattle.gin_place.specs.declared.sought.Sought.{Sought}
use Rattle.gin_place.specs.declared.sought.Sought.TheVariants as sought

-- the key, or the first of the items in the tree
abbrev pub IsSoughtIn : Option ℕ → ℕ → Sought → Type 0
IsSoughtIn tree item t =
    ((tree ≡ None) × (t ≡ sought.Key)) ⊎ ((root : ℕ) × (tree ≡ Some root) × (t ≡ sought.Item root item))

stage_is : (tree : Option ℕ) (item : ℕ) (rest : List ℕ) (t : Sought) → IsSoughtIn tree item t
    → stage.At t 0 (root_of t) ≡ stage_from tree (item ∷ rest)
stage_is tree item rest t (inl both) =
    ap (λ (s : Sought). stage.At s 0 (root_of s)) both.1
    ∙ ap (λ (o : Option ℕ). stage_from o (item ∷ rest)) (sym both.0)
stage_is tree item rest t (inr some) =
    ap (λ (s : Sought). stage.At s 0 (root_of s)) some.2
    ∙ ap (λ (o : Option ℕ). stage_from o (item ∷ rest)) (sym some.1)

-- where some are left
pub begins_at : (tree : Option ℕ) (items : List ℕ) (n root : ℕ) (t : Sought) → n < length items
    → IsSoughtIn tree (get_or items n 0) t → root ≡ root_of t
    → (true ≡ has_some (drop n items)) × (stage.At t 0 root ≡ stage_from tree (drop n items))
begins_at tree items n root t less is at =
    let e : drop n items ≡ get_or items n 0 ∷ drop (suc n) items = drop-cons items n 0 less in (
      ap has_some (sym e),
      ap (stage.At t 0) at ∙ stage_is tree (get_or items n 0) (drop (suc n) items) t is
          ∙ ap (stage_from tree) (sym e),
    )
