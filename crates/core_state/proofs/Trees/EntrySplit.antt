-- The rule of a divided page, as a step of the entry tree.
use Rattle.std.proofs.Common.{◌≡◌, ◌≢◌, ℕ, suc, List, [], ◌∷◌, ◌++◌, map, refl, sym, ap, subst, ◌∙◌, inl, inr}
use Rattle.std.proofs.lemmas.List.{map-append}
use Rattle.ts_base.specs.Keys.{Key}
use Rattle.page_types.specs.Keys.{KeyLess, IsKey}
use Rattle.page_types.specs.Pages.{IsPage, IsBody}
use Rattle.page_types.specs.declared.page.Entry.{Entry}
use Rattle.page_types.specs.declared.page.EntryChild.{EntryChild}
use Rattle.page_types.specs.declared.page.Body.{Body}
use Rattle.page_types.specs.declared.page.Body.TheVariants as body
use Rattle.page_types.specs.declared.record.Record.{Record}
use Rattle.core_state.specs.Log.{Pages, In}
use Rattle.core_state.specs.TreeRules.{EntryHalves, EntryParent}
use Rattle.core_state.specs.Changes.{made_with, KeyAtMost}
use Rattle.core_state.specs.Trees.Ext.{Ext}
use Rattle.core_state.specs.Trees.Ext.Ext.{least, at, greatest}
use Rattle.core_state.specs.Trees.Nodes.{Child, TreeGhost, AtMost, Sane, split_ghost}
use Rattle.core_state.specs.Trees.Nodes.Node.{inner}
use Rattle.core_state.specs.Trees.Nodes.TreePlace.{none, tree}
use Rattle.core_state.specs.Trees.TreeNodes.{bound, entry_key, entry_child, entry_body, entry_node, entry_nodes}
use Rattle.core_state.specs.Inner.TreePlaces.{EntryPlaces}
use Rattle.core_state.proofs.Trees.Members.{some_map, of_map}
use Rattle.core_state.proofs.Trees.FromNodes.{split_leaf_nodes, split_inner_nodes}
use Rattle.core_state.proofs.Trees.EntryViews.{EntryGrows, leaf_node, inner_node}
use Rattle.core_state.proofs.Trees.Orders.{keys, bound_at}

-- the high key of a leaf with a right link has bytes
high_some : (right stamp : ℕ) (high : Key) (es : List Entry) → right ≢ 0 → IsBody right stamp (body.EntryLeaf high es)
    → high ≢ []
high_some right stamp high es n b e = elim b.0 [ inl z ↦ n z.0 | inr z ↦ subst IsKey e z.1 ]

-- keys on both sides of the dividing one
at_most_all : (mid : Key) (es : List Entry) → ((e : Entry) → In e es → KeyAtMost e.key mid) → (k : Ext Key)
    → In k (map entry_key es) → AtMost keys greatest k (at mid)
at_most_all mid es each k m =
    let e = of_map entry_key k es m in
    subst (λ (z : Ext Key). AtMost keys greatest z (at mid)) (sym e.2)
    (elim (each e.0 e.1) [ inl l ↦ inl l | inr s ↦ inr (ap at s) ])

above_all : (mid : Key) (es : List Entry) → ((e : Entry) → In e es → KeyLess mid e.key) → (k : Ext Key)
    → In k (map entry_key es) → keys.less (at mid) k
above_all mid es each k m =
    let e = of_map entry_key k es m in
    subst (λ (z : Ext Key). keys.less (at mid) z) (sym e.2) (each e.0 e.1)

module _ (P Q : Pages) (r : Record) (page new parent : ℕ) (g : TreeGhost (Ext Key))
    (S : Sane keys greatest (entry_nodes P) g) (K : EntryPlaces P g) (fresh : g.place new ≡ none) (not_zero : new ≢ 0)
    (else : (x : ℕ) → x ≢ page → x ≢ new → x ≢ parent → Q x ≡ P x) (mid : Key) (pb pa : Body)
    (V : EntryParent page new mid pb pa) (was_parent : (P parent).body ≡ pb)
    (now_parent : Q parent ≡ made_with r (P parent).right pa) where
  abbrev front : List (Child (Ext Key))
  front = map entry_child V.front

  abbrev back : List (Child (Ext Key))
  back = map entry_child V.back

  placed : (i : ℕ) × (g.place parent ≡ tree 1 (suc i))
  placed = K.inner_at parent _ (was_parent ∙ V.before)

  node_was : entry_node (P parent)
      ≡ inner (P parent).right (front ++ record { page = page; bound = bound V.bound } ∷ back)
  node_was = inner_node (P parent) _ (was_parent ∙ V.before)
      ∙ ap (inner (P parent).right) (map-append entry_child V.front (record { page = page; bound = V.bound } ∷ V.back))

  node_now : entry_node (Q parent) ≡ inner (P parent).right
      (front ++ record { page = page; bound = bound mid } ∷ record { page = new; bound = bound V.bound } ∷ back)
  node_now = ap entry_node now_parent ∙ ap (entry_body (P parent).right) V.after
      ∙ ap (inner (P parent).right) (map-append entry_child V.front
      (record { page = page; bound = mid } ∷ record { page = new; bound = V.bound } ∷ V.back))

  abbrev Divided : Type 0
  Divided = (h : ℕ) × (g.place page ≡ tree 1 h)
      × EntryGrows P Q g (split_ghost keys greatest g page new 1 h (bound mid))

  divided_leaf : (high : Key) (es fs : List Entry) → es ≢ [] → fs ≢ [] → ((e : Entry) → In e es → KeyAtMost e.key mid)
      → ((e : Entry) → In e fs → KeyLess mid e.key) → mid ≢ [] → (P page).body ≡ body.EntryLeaf high (es ++ fs)
      → Q page ≡ made_with r new (body.EntryLeaf mid es)
      → Q new ≡ made_with r (P page).right (body.EntryLeaf high fs) → Divided
  divided_leaf high es fs some_es some_fs at_most above some_mid was now now_new =
      let at_page = K.leaf_at page high (es ++ fs) was in
      let mid_is = bound_at mid some_mid in (
        0,
        at_page,
        split_leaf_nodes keys least greatest (entry_nodes P)
            (entry_nodes Q) g S page new parent 1 0 1 placed.0
            (P parent).right front back (bound V.bound) (bound mid) at_page fresh not_zero placed.1 node_was node_now
            (λ x a b c. ap entry_node (else x a b c)) refl (P page).right (bound high) (map entry_key (es ++ fs))
            (map entry_key es) (map entry_key fs) (leaf_node (P page) high (es ++ fs) was) (ap entry_node now)
            (ap entry_node now_new) (map-append entry_key es fs) (some_map entry_key es some_es)
            (some_map entry_key fs some_fs)
            (subst (λ (z : Ext Key). (k : Ext Key) → In k (map entry_key es) → AtMost keys greatest k z) (sym mid_is)
            (at_most_all mid es at_most))
            (subst (λ (z : Ext Key). (k : Ext Key) → In k (map entry_key fs) → keys.less z k) (sym mid_is)
            (above_all mid fs above)),
      )

  divided_inner : (last : EntryChild) (cs ds : List EntryChild) → ds ≢ [] → last.bound ≡ mid
      → (P page).body ≡ body.EntryInner (cs ++ last ∷ ds)
      → Q page ≡ made_with r new (body.EntryInner (cs ++ last ∷ []))
      → Q new ≡ made_with r (P page).right (body.EntryInner ds) → Divided
  divided_inner last cs ds some_ds last_is was now now_new =
      let at_page = K.inner_at page (cs ++ last ∷ ds) was in (
        suc at_page.0,
        at_page.1,
        split_inner_nodes keys least greatest (entry_nodes P) (entry_nodes Q) g S page new parent
            1 (suc at_page.0) 1 placed.0 (P parent).right front back (bound V.bound)
            (bound mid) at_page.1 fresh not_zero
            placed.1 node_was node_now (λ x a b c. ap entry_node (else x a b c)) at_page.0 refl (P page).right
            (map entry_child cs) (entry_child last) (map entry_child ds)
            (inner_node (P page) (cs ++ last ∷ ds) was
            ∙ ap (inner (P page).right) (map-append entry_child cs (last ∷ ds)))
            (ap entry_node now ∙ ap (inner new) (map-append entry_child cs (last ∷ []))) (ap entry_node now_new)
            (some_map entry_child ds some_ds) (ap bound last_is),
      )

  -- 17, of a page of the entry tree
  pub split_entries : (whole left right : Body) → EntryHalves mid whole left right → (P page).body ≡ whole
      → Q page ≡ made_with r new left → Q new ≡ made_with r (P page).right right → IsPage (Q page) → Divided
  split_entries whole left right (EntryHalves.leaves high es fs some_es some_fs at_most above) was now now_new page_ok =
      divided_leaf high es fs some_es some_fs at_most above
      (high_some new r.number mid es not_zero (subst IsPage now page_ok).body) was now now_new
  split_entries whole left right (EntryHalves.inners last cs ds some_ds last_is) was now now_new page_ok =
      divided_inner last cs ds some_ds last_is was now now_new
