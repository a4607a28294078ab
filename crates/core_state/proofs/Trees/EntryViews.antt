-- Pages of the entry tree as its nodes: what a page of a kind shows, and the way down for a key.
use Rattle.std.proofs.Common.{◌≡◌, ◌≢◌, ℕ, List, ◌∷◌, ◌++◌, map, sym, ap, subst, ◌∙◌, inl, inr}
use Rattle.std.proofs.lemmas.List.{map-append}
use Rattle.ts_base.specs.Keys.{Key}
use Rattle.page_types.specs.declared.page.Page.{Page}
use Rattle.page_types.specs.declared.page.Entry.{Entry}
use Rattle.page_types.specs.declared.page.EntryChild.{EntryChild}
use Rattle.page_types.specs.declared.page.Body.TheVariants as body
use Rattle.page_types.specs.declared.page.Gone.{Gone}
use Rattle.core_state.specs.Log.{Pages, In}
use Rattle.core_state.specs.Known.{use_in}
use Rattle.core_state.specs.Changes.{IsNew}
use Rattle.core_state.specs.TreeRules.{Toward}
use Rattle.core_state.specs.Trees.Ext.{Ext}
use Rattle.core_state.specs.Trees.Ext.Ext.{least, at, greatest}
use Rattle.core_state.specs.Trees.Nodes.{Child, TreeGhost, AtMost, Sane}
use Rattle.core_state.specs.Trees.Nodes.Node.{leaf, inner}
use Rattle.core_state.specs.Trees.Nodes.TreePlace.{none, tree}
use Rattle.core_state.specs.Trees.TreeNodes.{bound, entry_key, entry_child, entry_body, entry_node, entry_nodes}
use Rattle.core_state.specs.Inner.TreePlaces.{EntryPlaces, HasMeta}
use Rattle.core_state.proofs.LivePages.{new_was}
use Rattle.core_state.proofs.Trees.Members.{in_map, of_map, in_middle}
use Rattle.core_state.proofs.Trees.Order.{same_leaf, at_most_less}
use Rattle.core_state.proofs.Trees.Kids.{kids_order, kid_below}
use Rattle.core_state.proofs.Trees.Find.{kids_here, child_here}
use Rattle.core_state.proofs.Trees.Growing.{Growing}
use Rattle.core_state.proofs.Trees.Orders.{keys, key_order, below_top, bound_less}

-- the entry tree grows from the pages P to the pages Q
abbrev pub EntryGrows : Pages → Pages → TreeGhost (Ext Key) → TreeGhost (Ext Key) → Type 0
EntryGrows P Q g g' = Growing keys least greatest (entry_nodes P) (entry_nodes Q) g g'

-- a new page isn't the metapage
pub new_not_zero : (P : Pages) → HasMeta P → (since p : ℕ) → IsNew (use_in P) since p → p ≢ 0
new_not_zero P m since p n z = elim (new_was P since p n) [
  | inl e ↦ clash (sym meta ∙ e)
  | inr e ↦ clash_too e.0.0 (sym meta ∙ e.0.1)
]
  where
    meta : (P p).body ≡ body.Meta m.0 m.1 m.2
    meta = ap (λ (q : ℕ). (P q).body) z ∙ m.3

    clash : body.Meta m.0 m.1 m.2 ≡ body.Free → ⊥
    clash e = cc

    clash_too : (c : Gone) → body.Meta m.0 m.1 m.2 ≡ body.Deleted c → ⊥
    clash_too c e = cc

-- the node of a page whose body is known
pub leaf_node : (p : Page) (high : Key) (es : List Entry) → p.body ≡ body.EntryLeaf high es
    → entry_node p ≡ leaf p.right (bound high) (map entry_key es)
leaf_node p high es e = ap (entry_body p.right) e

pub inner_node : (p : Page) (cs : List EntryChild) → p.body ≡ body.EntryInner cs
    → entry_node p ≡ inner p.right (map entry_child cs)
inner_node p cs e = ap (entry_body p.right) e

module _ (P : Pages) (g : TreeGhost (Ext Key)) (S : Sane keys greatest (entry_nodes P) g) (K : EntryPlaces P g) where
  -- a page that may be taken is in no tree of entries
  pub new_apart : (since p : ℕ) → IsNew (use_in P) since p → g.place p ≡ none
  new_apart since p n = K.none_at p (elim (new_was P since p n) [
    | inl e ↦ rw e tt
    | inr e ↦ rw e.0.1 tt
  ])

  -- a leaf's high key is its high bound, and its keys lie within its bounds
  pub leaf_high : (p : ℕ) (high : Key) (es : List Entry) → (P p).body ≡ body.EntryLeaf high es → bound high ≡ g.high p
  leaf_high p high es e = (same_leaf _ _ _ _ _ _ (sym (leaf_node (P p) high es e)
      ∙ (S.leaves p 1 (K.leaf_at p high es e)).node)).1

  pub leaf_keys : (p : ℕ) (high : Key) (es : List Entry) → (P p).body ≡ body.EntryLeaf high es → (e : Entry) → In e es
      → keys.less (g.low p) (at e.key) × AtMost keys greatest (at e.key) (g.high p)
  leaf_keys p high es b e m =
      let ok = S.leaves p 1 (K.leaf_at p high es b) in
      ok.within (at e.key) (subst (λ (l : List (Ext Key)). In (at e.key) l)
      (same_leaf _ _ _ _ _ _ (sym (leaf_node (P p) high es b) ∙ ok.node)).2 (in_map entry_key e es m))

  -- the way down for a key leads to a page that begins below it
  pub toward_low : (k : Key) (p q h : ℕ) → Toward P k p q → g.place p ≡ tree 1 h → keys.less (g.low p) (at k)
      → ((i : ℕ) × (g.place q ≡ tree 1 i)) × keys.less (g.low q) (at k)
  toward_low k p q h Toward.here at_p l = ((h, at_p), l)
  toward_low k p q h (Toward.down front back c e each up rest) at_p l =
      let placed = K.inner_at p (front ++ c ∷ back) e in
      let node : entry_node (P p) ≡ inner (P p).right (map entry_child front ++ entry_child c ∷ map entry_child back) =
      inner_node (P p) (front ++ c ∷ back) e ∙ ap (inner (P p).right) (map-append entry_child front (c ∷ back)) in
      let ok = kids_here keys greatest (entry_nodes P) g S p 1 placed.0 (P p).right _ placed.1 node in
      let span : (y : ℕ) → g.place y ≡ tree 1 placed.0 → keys.less (g.low y) (g.high y) =
      λ y t. S.span y 1 placed.0 t in
      let child = child_here keys greatest (entry_nodes P) g S p 1 placed.0 (P p).right _ (entry_child c) placed.1 node
      (in_middle (map entry_child front) (entry_child c) (map entry_child back)) in
      toward_low k c.page q placed.0 rest child.0
      (kid_below keys greatest g 1 placed.0 (g.low p) (g.high p) (at k) (map entry_child front) (entry_child c)
      (map entry_child back) ok l (λ b i.
      let from = of_map entry_child b front i in
      let low = kids_order keys greatest g 1 placed.0 (g.low p) (g.high p) (map entry_child front) (entry_child c)
      (map entry_child back) span ok b i in
      let below = below_top key_order b.bound (g.high c.page)
      (at_most_less keys greatest b.bound (g.low c.page) (g.high c.page) low (span c.page child.0)) in
      let same : b.bound ≡ bound from.0.bound = ap (λ (z : Child (Ext Key)). z.bound) from.2 in
      subst (λ (z : Ext Key). keys.less z (at k)) (sym same)
      (bound_less from.0.bound k (subst (λ (z : Ext Key). keys.less z greatest) same below)
      (each from.0 from.1))))
