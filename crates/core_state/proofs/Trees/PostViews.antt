-- Pages of the posting trees as their nodes: what a page of a kind shows, and the way down for an item.
use Rattle.std.proofs.Common.{◌≡◌, ◌⊎◌, ◌<◌, ◌≤◌, ℕ, suc, List, ◌∷◌, ◌++◌, map, sym, ap, subst, ◌∙◌, inl, inr, arith}
use Rattle.std.proofs.lemmas.List.{map-append}
use Rattle.page_types.specs.Items.{items_of}
use Rattle.page_types.specs.declared.page.Page.{Page}
use Rattle.page_types.specs.declared.page.PostChild.{PostChild}
use Rattle.page_types.specs.declared.page.Body.TheVariants as body
use Rattle.core_state.specs.Log.{Pages, In}
use Rattle.core_state.specs.Changes.{ItemUpTo}
use Rattle.core_state.specs.TreeRules.{TowardItem}
use Rattle.core_state.specs.Trees.Ext.{Ext}
use Rattle.core_state.specs.Trees.Ext.Ext.{least, at, greatest}
use Rattle.core_state.specs.Trees.Nodes.{Child, TreeGhost, AtMost, Sane}
use Rattle.core_state.specs.Trees.Nodes.Node.{leaf, inner}
use Rattle.core_state.specs.Trees.Nodes.TreePlace.{tree}
use Rattle.core_state.specs.Trees.TreeNodes.{high_bound, child_bound, post_child, post_body, post_node, post_nodes}
use Rattle.core_state.specs.Inner.TreePlaces.{PostPlaces}
use Rattle.core_state.proofs.Trees.Members.{of_map, in_middle}
use Rattle.core_state.proofs.Trees.Order.{same_tree, at_most_less}
use Rattle.core_state.proofs.Trees.Kids.{kids_order, kid_below}
use Rattle.core_state.proofs.Trees.Find.{kids_here, child_here}
use Rattle.core_state.proofs.Trees.Growing.{Growing, Stepping}
use Rattle.core_state.proofs.Trees.Orders.{items, nat_order, below_top, high_bound_is, child_bound_is}

-- the posting trees grow from the pages P to the pages Q
abbrev pub PostGrows : Pages → Pages → TreeGhost (Ext ℕ) → TreeGhost (Ext ℕ) → Type 0
PostGrows P Q g g' = Growing items least greatest (post_nodes P) (post_nodes Q) g g'

-- a step of the posting trees, by which no other items leave
abbrev pub PostStep : Pages → Pages → TreeGhost (Ext ℕ) → TreeGhost (Ext ℕ) → List ℕ → Type 0
PostStep P Q g g' removed =
    Stepping items least greatest (post_nodes P) (post_nodes Q) g g' (λ k. In k (map at removed))

-- the node of a page whose body is known
pub leaf_node : (p : Page) (high : ℕ) (is : List ℕ) → p.body ≡ body.PostLeaf high is
    → post_node p ≡ leaf p.right (high_bound high) (map at (items_of is))
leaf_node p high is e = ap (post_body p.right) e

pub inner_node : (p : Page) (cs : List PostChild) → p.body ≡ body.PostInner cs
    → post_node p ≡ inner p.right (map post_child cs)
inner_node p cs e = ap (post_body p.right) e

pub at_most_item : (i j : ℕ) → i ≤ j → AtMost items greatest (at i) (at j)
at_most_item i j l = elim (split i j l) [ inl a ↦ inl a | inr a ↦ inr (ap at a) ]
  where
    split : (i j : ℕ) → i ≤ j → (i < j) ⊎ (i ≡ j)
    split i j l = grind (arith, l)

-- what may be under a high item is at most the bound
pub up_to_item : (i high : ℕ) → ItemUpTo i high → AtMost items greatest (at i) (high_bound high)
up_to_item i high u = elim (high_bound_is high) [
  | inl e ↦ inl (subst (λ (z : Ext ℕ). items.less (at i) z) (sym e.1) tt)
  | inr e ↦ subst (λ (z : Ext ℕ). AtMost items greatest (at i) z) (sym e.1)
      (elim u [ inl z ↦ absurd (e.0 z) | inr l ↦ at_most_item i high l ])
]

-- a bound that isn't the greatest is below an item where its number is
pub item_less : (b i : ℕ) → items.less (child_bound b) greatest → b < i → items.less (child_bound b) (at i)
item_less b i l m = elim (child_bound_is b) [
  | inl e ↦ absurd (subst (λ (z : Ext ℕ). items.less z greatest) e.1 l)
  | inr e ↦ subst (λ (z : Ext ℕ). items.less z (at i)) (sym e.1) m
]

module _ (P : Pages) (since : ℕ) (g : TreeGhost (Ext ℕ)) (S : Sane items greatest (post_nodes P) g)
    (K : PostPlaces P since g) where
  -- the way down for an item leads to a page that begins below it
  pub toward_low : (i p q r h : ℕ) → TowardItem P i p q → g.place p ≡ tree r h → items.less (g.low p) (at i)
      → ((j : ℕ) × (g.place q ≡ tree r j)) × items.less (g.low q) (at i)
  toward_low i p q r h TowardItem.here at_p l = ((h, at_p), l)
  toward_low i p q r h (TowardItem.down front back c e each up rest) at_p l =
      let found = K.inner_at p (front ++ c ∷ back) e in
      let k = found.1 in
      let same = same_tree found.0 r (suc k) h (sym found.2 ∙ at_p) in
      let placed : g.place p ≡ tree r (suc k) = found.2 ∙ ap (λ (z : ℕ). tree z (suc k)) same.0 in
      let node : post_node (P p) ≡ inner (P p).right (map post_child front ++ post_child c ∷ map post_child back) =
      inner_node (P p) (front ++ c ∷ back) e ∙ ap (inner (P p).right) (map-append post_child front (c ∷ back)) in
      let ok = kids_here items greatest (post_nodes P) g S p r k (P p).right _ placed node in
      let span : (y : ℕ) → g.place y ≡ tree r k → items.less (g.low y) (g.high y) = λ y t. S.span y r k t in
      let child = child_here items greatest (post_nodes P) g S p r k (P p).right _ (post_child c) placed node
      (in_middle (map post_child front) (post_child c) (map post_child back)) in
      toward_low i c.page q r k rest child.0
      (kid_below items greatest g r k (g.low p) (g.high p) (at i) (map post_child front) (post_child c)
      (map post_child back) ok l (λ b m.
      let from = of_map post_child b front m in
      let low = kids_order items greatest g r k (g.low p) (g.high p) (map post_child front) (post_child c)
      (map post_child back) span ok b m in
      let below = below_top nat_order b.bound (g.high c.page)
      (at_most_less items greatest b.bound (g.low c.page) (g.high c.page) low (span c.page child.0)) in
      let same : b.bound ≡ child_bound from.0.bound = ap (λ (z : Child (Ext ℕ)). z.bound) from.2 in
      subst (λ (z : Ext ℕ). items.less z (at i)) (sym same)
      (item_less from.0.bound i (subst (λ (z : Ext ℕ). items.less z greatest) same below) (each from.0 from.1))))
