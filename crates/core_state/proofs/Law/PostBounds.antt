-- The way down a posting tree leads to each item, within the bounds on it.
use Rattle.std.proofs.Common.{◌≡◌, ◌<◌, ◌≤◌, ℕ, List, [], ◌∷◌, ◌++◌, map, refl, sym, ap, subst, inl, inr, arith}
use Rattle.page_types.specs.Numbers.{no_bound, item_limit}
use Rattle.page_types.specs.Items.{items_of, AreItemsFrom}
use Rattle.page_types.specs.Pages.{IsPage, IsBody}
use Rattle.page_types.specs.declared.page.PostChild.{PostChild}
use Rattle.page_types.specs.declared.page.Body.{Body}
use Rattle.page_types.specs.declared.page.Body.TheVariants as body
use Rattle.core_state.specs.Log.{Pages, In}
use Rattle.core_state.specs.Changes.{ItemUpTo}
use Rattle.core_state.specs.TreeRules.{TowardItem}
use Rattle.core_state.specs.Trees.Ext.{Ext}
use Rattle.core_state.specs.Trees.Ext.Ext.{least, at, greatest}
use Rattle.core_state.specs.Trees.Nodes.{Child, TreeGhost, AtMost, Sane}
use Rattle.core_state.specs.Trees.Nodes.Node.{inner}
use Rattle.core_state.specs.Trees.Nodes.TreePlace.{tree}
use Rattle.core_state.specs.Trees.TreeNodes.{high_bound, child_bound, post_child, post_body, post_nodes}
use Rattle.core_state.proofs.Trees.Order.{same_inner}
use Rattle.core_state.proofs.Trees.Members.{in_map}
use Rattle.core_state.proofs.Trees.FromNodes.{leaf_shows}
use Rattle.core_state.proofs.Trees.Orders.{items, high_bound_is, child_bound_is}
use Rattle.core_state.proofs.Trees.PostViews.{leaf_node}
use Rattle.core_state.proofs.Trees.Down.{Down, cut_map, reached}
use Rattle.core_state.proofs.Law.Rooted.{AreRooted}

-- a node that is an inner page comes from one
inner_page : (right : ℕ) (b : Body) (a : ℕ) (cs : List (Child (Ext ℕ))) → post_body right b ≡ inner a cs
    → (ds : List PostChild) × (b ≡ body.PostInner ds) × (map post_child ds ≡ cs)
inner_page right (body.PostInner ds) a cs e = (ds, refl, (same_inner _ _ _ _ e).1)
inner_page right (body.PostLeaf h s) a cs e = absurd (cc)
inner_page right (body.Deleted s) a cs e = absurd (cc)
inner_page right (body.EntryLeaf h es) a cs e = absurd (cc)
inner_page right (body.EntryInner ds) a cs e = absurd (cc)
inner_page right body.Free a cs e = absurd (cc)
inner_page right (body.Meta x y z) a cs e = absurd (cc)
inner_page right (body.Heap s) a cs e = absurd (cc)
inner_page right (body.Overflow s) a cs e = absurd (cc)
inner_page right (body.Pending s) a cs e = absurd (cc)

same_at : (i j : ℕ) → at i ≡ at j → i ≡ j
same_at i j e = cc

-- what bounds say of items
at_most : (i j : ℕ) → AtMost items greatest (at i) (at j) → i ≤ j
at_most i j (inl l) = omega (arith, l)
at_most i j (inr e) = let s = same_at i j e in omega (arith, s)

less_item : (b i : ℕ) → items.less (child_bound b) (at i) → b < i
less_item b i l = elim (child_bound_is b) [
  | inl e ↦ absurd (subst (λ (z : Ext ℕ). items.less z (at i)) e.1 l)
  | inr e ↦ subst (λ (z : Ext ℕ). items.less z (at i)) e.1 l
]

to_bound : (i b : ℕ) → i < item_limit → AtMost items greatest (at i) (child_bound b) → i ≤ b
to_bound i b small m = elim (child_bound_is b) [
  | inl e ↦ all_below i b small e.0
  | inr e ↦ at_most i b (subst (λ (z : Ext ℕ). AtMost items greatest (at i) z) e.1 m)
]
  where
    all_below : (i b : ℕ) → i < item_limit → b ≡ no_bound → i ≤ b
    all_below i b l e = omega (arith, l, e)

pub to_item_up_to : (i high : ℕ) → AtMost items greatest (at i) (high_bound high) → ItemUpTo i high
to_item_up_to i high m = elim (high_bound_is high) [
  | inl e ↦ inl e.0
  | inr e ↦ inr (at_most i high (subst (λ (z : Ext ℕ). AtMost items greatest (at i) z) e.1 m))
]

-- items of a list are items
small_items : (last : ℕ) (is : List ℕ) → AreItemsFrom last is → (i : ℕ) → In i is → i < item_limit
small_items last [] a i m = absurd m
small_items last (j ∷ is) a i (inl e) = subst (λ (z : ℕ). z < item_limit) (sym e) a.1
small_items last (j ∷ is) a i (inr m) = small_items j is a.2 i m

to_toward : (P : Pages) (i : ℕ) → i < item_limit → (q p : ℕ) → Down items greatest (post_nodes P) (at i) q p
    → TowardItem P i p q
to_toward P i small q p Down.here = TowardItem.here
to_toward P i small q p (Down.down right front back c node each up rest) =
    let page = inner_page (P p).right (P p).body right (front ++ c ∷ back) node in
    let cut = cut_map post_child page.0 front c back page.2 in
    subst (λ (z : List PostChild). (P p).body ≡ body.PostInner z → TowardItem P i p q) (sym cut.3)
    (λ e. TowardItem.down cut.0 cut.2 cut.1 e
    (λ b m. less_item b.bound i
    (each (post_child b) (subst (λ (l : List (Child (Ext ℕ))). In (post_child b) l) cut.4
    (in_map post_child b cut.0 m))))
    (to_bound i cut.1.bound small
    (subst (λ (z : Child (Ext ℕ)). AtMost items greatest (at i) z.bound) (sym cut.5) up))
    (subst (λ (z : ℕ). TowardItem P i z q) (sym (ap (λ (z : Child (Ext ℕ)). z.page) cut.5))
    (to_toward P i small q c.page rest))) page.1

-- each item is reached from its tree's root, and is within its leaf's bound
pub post_bounded : (P : Pages) (g : TreeGhost (Ext ℕ)) → Sane items greatest (post_nodes P) g
    → AreRooted least greatest (post_nodes P) g
    → (r page high : ℕ) (is : List ℕ) (i : ℕ) → g.place page ≡ tree r 0 → IsPage (P page)
    → (P page).body ≡ body.PostLeaf high is → In i (items_of is) → TowardItem P i r page × ItemUpTo i high
post_bounded P g S A r page high is i at_page ok b m =
    let root = A.trees page r 0 at_page in
    let shows = leaf_shows items least greatest (post_nodes P) (post_nodes P) g S page r (P page).right
    (high_bound high) (map at (items_of is)) at_page (leaf_node (P page) high is b) in
    let within = shows.1 (at i) (in_map at i (items_of is) m) in
    let known : IsBody (P page).right (P page).stamp (body.PostLeaf high is) =
    subst (λ (c : Body). IsBody (P page).right (P page).stamp c) b ok.body in (
      to_toward P i (small_items 0 (items_of is) known.1.items i m) page r
          (reached items greatest (post_nodes P) g S (at i) page r root.0 0
          (A.roots r root.0 root.1) at_page within.0 within.1),
      to_item_up_to i high (subst (λ (z : Ext ℕ). AtMost items greatest (at i) z) (sym shows.0) within.1),
    )
