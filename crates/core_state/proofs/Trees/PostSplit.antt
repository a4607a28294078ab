-- The rule of a divided page, as a step of the posting trees.
use Rattle.std.proofs.Common.{◌≡◌, ◌≢◌, ◌<◌, ◌≤◌, ℕ, suc, List, [], ◌∷◌, ◌++◌, map, refl, sym, ap, subst, ◌∙◌, inl, inr}
use Rattle.std.proofs.Common.{arith}
use Rattle.std.proofs.lemmas.List.{map-append}
use Rattle.page_types.specs.Items.{items_of}
use Rattle.page_types.specs.Numbers.{no_bound, item_limit}
use Rattle.page_types.specs.Pages.{IsPage, IsBody}
use Rattle.page_types.specs.declared.page.PostChild.{PostChild}
use Rattle.page_types.specs.declared.page.Body.{Body}
use Rattle.page_types.specs.declared.page.Body.TheVariants as body
use Rattle.page_types.specs.declared.record.Record.{Record}
use Rattle.core_state.specs.Log.{Pages, In}
use Rattle.core_state.specs.TreeRules.{PostHalves, PostParent}
use Rattle.core_state.specs.Changes.{made_with}
use Rattle.core_state.specs.Trees.Ext.{Ext}
use Rattle.core_state.specs.Trees.Ext.Ext.{least, at, greatest}
use Rattle.core_state.specs.Trees.Nodes.{Child, TreeGhost, AtMost, Sane, split_ghost}
use Rattle.core_state.specs.Trees.Nodes.Node.{leaf, inner}
use Rattle.core_state.specs.Trees.Nodes.TreePlace.{none, tree}
use Rattle.core_state.specs.Trees.TreeNodes.{high_bound, child_bound, post_child, post_body, post_node, post_nodes}
use Rattle.core_state.specs.Inner.TreePlaces.{PostPlaces}
use Rattle.core_state.proofs.Trees.Members.{some_map, of_map}
use Rattle.core_state.proofs.Trees.FromNodes.{split_leaf_nodes, split_inner_nodes}
use Rattle.core_state.proofs.Trees.PostViews.{PostGrows, leaf_node, inner_node, at_most_item}
use Rattle.core_state.proofs.Trees.Orders.{items, high_bound_is, child_bound_is}

-- the high item of a leaf with a right link is one, and no child's bound is greater
bound_is : (right stamp high : ℕ) (is : List ℕ) → right ≢ 0 → IsBody right stamp (body.PostLeaf high is)
    → (high_bound high ≡ at high) × (child_bound high ≡ at high)
bound_is right stamp high is n b = (
  elim (high_bound_is high) [ inl e ↦ absurd (b.0.some n e.0) | inr e ↦ e.1 ],
  elim (child_bound_is high) [ inl e ↦ absurd (below high b.0.item e.0) | inr e ↦ e.1 ],
)
  where
    below : (high : ℕ) → high < item_limit → high ≢ no_bound
    below high l e = omega (arith, l, e)

-- items on both sides of the dividing one
at_most_all : (mid : ℕ) (is : List ℕ) → ((i : ℕ) → In i is → i ≤ mid) → (k : Ext ℕ) → In k (map at is)
    → AtMost items greatest k (at mid)
at_most_all mid is each k m =
    let i = of_map at k is m in
    subst (λ (z : Ext ℕ). AtMost items greatest z (at mid)) (sym i.2) (at_most_item i.0 mid (each i.0 i.1))

above_all : (mid : ℕ) (is : List ℕ) → ((i : ℕ) → In i is → mid < i) → (k : Ext ℕ) → In k (map at is)
    → items.less (at mid) k
above_all mid is each k m =
    let i = of_map at k is m in
    subst (λ (z : Ext ℕ). items.less (at mid) z) (sym i.2) (each i.0 i.1)

module _ (P Q : Pages) (r : Record) (page new parent since : ℕ) (g : TreeGhost (Ext ℕ))
    (S : Sane items greatest (post_nodes P) g) (K : PostPlaces P since g) (fresh : g.place new ≡ none)
    (not_zero : new ≢ 0)
    (else : (x : ℕ) → x ≢ page → x ≢ new → x ≢ parent → Q x ≡ P x) (mid : ℕ) (pb pa : Body)
    (V : PostParent page new mid pb pa) (was_parent : (P parent).body ≡ pb)
    (now_parent : Q parent ≡ made_with r (P parent).right pa) where
  abbrev front : List (Child (Ext ℕ))
  front = map post_child V.front

  abbrev back : List (Child (Ext ℕ))
  back = map post_child V.back

  placed : (t : ℕ) × (i : ℕ) × (g.place parent ≡ tree t (suc i))
  placed = K.inner_at parent _ (was_parent ∙ V.before)

  node_was : post_node (P parent)
      ≡ inner (P parent).right (front ++ record { page = page; bound = child_bound V.bound } ∷ back)
  node_was = inner_node (P parent) _ (was_parent ∙ V.before)
      ∙ ap (inner (P parent).right) (map-append post_child V.front (record { page = page; bound = V.bound } ∷ V.back))

  node_now : post_node (Q parent) ≡ inner (P parent).right (front ++ record { page = page; bound = child_bound mid }
      ∷ record { page = new; bound = child_bound V.bound } ∷ back)
  node_now = ap post_node now_parent ∙ ap (post_body (P parent).right) V.after
      ∙ ap (inner (P parent).right) (map-append post_child V.front
      (record { page = page; bound = mid } ∷ record { page = new; bound = V.bound } ∷ V.back))

  abbrev Divided : Type 0
  Divided = (t : ℕ) × (h : ℕ) × (g.place page ≡ tree t h)
      × PostGrows P Q g (split_ghost items greatest g page new t h (child_bound mid))

  divided_leaf : (high : ℕ) (whole is js : List ℕ) → items_of is ≢ [] → items_of js ≢ []
      → items_of whole ≡ items_of is ++ items_of js → ((i : ℕ) → In i (items_of is) → i ≤ mid)
      → ((i : ℕ) → In i (items_of js) → mid < i) → (high_bound mid ≡ at mid) × (child_bound mid ≡ at mid)
      → (P page).body ≡ body.PostLeaf high whole
      → Q page ≡ made_with r new (body.PostLeaf mid is)
      → Q new ≡ made_with r (P page).right (body.PostLeaf high js) → Divided
  divided_leaf high whole is js some_is some_js both at_most above mid_is was now now_new =
      let at_page = K.leaf_at page high whole was in (
        at_page.0,
        0,
        at_page.1,
        split_leaf_nodes items least greatest (post_nodes P) (post_nodes Q) g S page new parent
            at_page.0 0 placed.0 placed.1 (P parent).right front back (child_bound V.bound)
            (child_bound mid) at_page.1 fresh
            not_zero placed.2 node_was node_now (λ x a b c. ap post_node (else x a b c)) refl (P page).right
            (high_bound high)
            (map at (items_of whole)) (map at (items_of is)) (map at (items_of js)) (leaf_node (P page) high whole was)
            (ap post_node now ∙ ap (λ (z : Ext ℕ). leaf new z (map at (items_of is))) (mid_is.0 ∙ sym mid_is.1))
            (ap post_node now_new) (ap (map at) both ∙ map-append at (items_of is) (items_of js))
            (some_map at (items_of is) some_is) (some_map at (items_of js) some_js)
            (subst (λ (z : Ext ℕ). (k : Ext ℕ) → In k (map at (items_of is)) → AtMost items greatest k z) (sym mid_is.1)
            (at_most_all mid (items_of is) at_most))
            (subst (λ (z : Ext ℕ). (k : Ext ℕ) → In k (map at (items_of js)) → items.less z k) (sym mid_is.1)
            (above_all mid (items_of js) above)),
      )

  divided_inner : (last : PostChild) (cs ds : List PostChild) → ds ≢ [] → last.bound ≡ mid
      → (P page).body ≡ body.PostInner (cs ++ last ∷ ds)
      → Q page ≡ made_with r new (body.PostInner (cs ++ last ∷ []))
      → Q new ≡ made_with r (P page).right (body.PostInner ds) → Divided
  divided_inner last cs ds some_ds last_is was now now_new =
      let at_page = K.inner_at page (cs ++ last ∷ ds) was in (
        at_page.0,
        suc at_page.1,
        at_page.2,
        split_inner_nodes items least greatest (post_nodes P) (post_nodes Q) g S page new
            parent at_page.0 (suc at_page.1) placed.0 placed.1 (P parent).right front back (child_bound V.bound)
            (child_bound mid)
            at_page.2 fresh not_zero placed.2 node_was node_now (λ x a b c. ap post_node (else x a b c)) at_page.1 refl
            (P page).right (map post_child cs) (post_child last) (map post_child ds)
            (inner_node (P page) (cs ++ last ∷ ds) was
            ∙ ap (inner (P page).right) (map-append post_child cs (last ∷ ds)))
            (ap post_node now ∙ ap (inner new) (map-append post_child cs (last ∷ []))) (ap post_node now_new)
            (some_map post_child ds some_ds) (ap child_bound last_is),
      )

  -- 17, of a page of a posting tree
  pub split_postings : (whole left right : Body) → PostHalves mid whole left right → (P page).body ≡ whole
      → Q page ≡ made_with r new left → Q new ≡ made_with r (P page).right right → IsPage (Q page) → Divided
  split_postings whole left right (PostHalves.leaves high all is js some_is some_js both at_most above) was now now_new
      page_ok =
      divided_leaf high all is js some_is some_js both at_most above
      (bound_is new r.number mid is not_zero (subst IsPage now page_ok).body) was now now_new
  split_postings whole left right (PostHalves.inners last cs ds some_ds last_is) was now now_new page_ok =
      divided_inner last cs ds some_ds last_is was now now_new
