-- Ways down a tree whose pages are the same, and the pages on them.
use Rattle.std.proofs.Common.{◌≡◌, ℕ, List, ◌∷◌, ◌++◌, sym, ap, subst, ◌∙◌}
use Rattle.ts_base.specs.Keys.{Key}
use Rattle.page_types.specs.declared.page.EntryChild.{EntryChild}
use Rattle.page_types.specs.declared.page.PostChild.{PostChild}
use Rattle.page_types.specs.declared.page.Body.{Body}
use Rattle.page_types.specs.declared.page.Body.TheVariants as body
use Rattle.core_state.specs.Log.{Pages, In}
use Rattle.core_state.specs.Index.{Below, children_in}
use Rattle.core_state.specs.TreeRules.{Toward, TowardItem}
use Rattle.core_state.proofs.Trees.Members.{in_map, in_middle}

-- a child is below a root where its parent is
pub kid_below : (P : Pages) (root p : ℕ) (cs : List EntryChild) (c : EntryChild) → Below P root p
    → (P p).body ≡ body.EntryInner cs → In c cs → Below P root c.page
kid_below P root p cs c below is i =
    Below.child below (subst (λ (b : Body). In c.page (children_in b)) (sym is)
    (in_map (λ (x : EntryChild). x.page) c cs i))

pub post_kid_below : (P : Pages) (root p : ℕ) (cs : List PostChild) (c : PostChild) → Below P root p
    → (P p).body ≡ body.PostInner cs → In c cs → Below P root c.page
post_kid_below P root p cs c below is i =
    Below.child below (subst (λ (b : Body). In c.page (children_in b)) (sym is)
    (in_map (λ (x : PostChild). x.page) c cs i))

module _ (P Q : Pages) (root : ℕ) (same : (p : ℕ) → Below P root p → Q p ≡ P p) where
  pub toward_kept : (k : Key) (p q : ℕ) → Below P root p → Toward P k p q → Toward Q k p q
  toward_kept k p q below Toward.here = Toward.here
  toward_kept k p q below (Toward.down front back c is low high rest) =
      let on = kid_below P root p (front ++ c ∷ back) c below is (in_middle front c back) in
      Toward.down front back c (ap (λ x. x.body) (same p below) ∙ is) low high (toward_kept k c.page q on rest)

  pub toward_item_kept : (i p q : ℕ) → Below P root p → TowardItem P i p q → TowardItem Q i p q
  toward_item_kept i p q below TowardItem.here = TowardItem.here
  toward_item_kept i p q below (TowardItem.down front back c is low high rest) =
      let on = post_kid_below P root p (front ++ c ∷ back) c below is (in_middle front c back) in
      TowardItem.down front back c (ap (λ x. x.body) (same p below) ∙ is) low high (toward_item_kept i c.page q on rest)

-- a way leads to a page below its first
pub toward_below : (P : Pages) (root : ℕ) (k : Key) (p q : ℕ) → Below P root p → Toward P k p q → Below P root q
toward_below P root k p q below Toward.here = below
toward_below P root k p q below (Toward.down front back c is low high rest) =
    toward_below P root k c.page q
    (kid_below P root p (front ++ c ∷ back) c below is (in_middle front c back)) rest

pub toward_item_below : (P : Pages) (root i p q : ℕ) → Below P root p → TowardItem P i p q → Below P root q
toward_item_below P root i p q below TowardItem.here = below
toward_item_below P root i p q below (TowardItem.down front back c is low high rest) =
    toward_item_below P root i c.page q
    (post_kid_below P root p (front ++ c ∷ back) c below is (in_middle front c back)) rest
