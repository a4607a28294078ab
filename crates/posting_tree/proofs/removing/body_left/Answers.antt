use Rattle.std.proofs.Common.{◌≡◌, List, ℕ, sym, subst}
use Rattle.std.specs.Prelude.{◌↔◌, Option, None, IfOk}
use Rattle.std.specs.List.{Contains}
use Rattle.page_types.specs.declared.page.Body.{Body}
use Rattle.page_types.specs.declared.page.Body.TheVariants as body
use Rattle.posting_tree.specs.Removing.{IsListed}
use Rattle.posting_tree.proofs.removing.body_left.Goals as goal

pub returns-in-EntryLeaf-clause-none : goal.returns-in-EntryLeaf-clause-none
returns-in-EntryLeaf-clause-none c =
    subst (λ (b : Body). IfOk c.entry_leaf.result (λ (o : Option Body). (o ≡ None)
    ↔ ((i : ℕ) → IsListed b i → Contains c.args.dead.now i → ⊥))) (sym c.in-EntryLeaf.is) c.entry_leaf.ensures.none

pub returns-in-PostLeaf-clause-none : goal.returns-in-PostLeaf-clause-none
returns-in-PostLeaf-clause-none c =
    let high = c.in-PostLeaf.high in
    subst (λ (b : Body). IfOk c.post_leaf.result (λ (o : Option Body). (o ≡ None)
    ↔ ((i : ℕ) → IsListed b i → Contains c.args.dead.now i → ⊥))) (sym c.in-PostLeaf.is)
    (subst (λ (l : List ℕ). IfOk c.post_leaf.result (λ (o : Option Body). (o ≡ None)
    ↔ ((i : ℕ) → IsListed (body.PostLeaf high l) i → Contains c.args.dead.now i → ⊥))) c.as_slice.ensures
    c.post_leaf.ensures.none)
