-- The rule of a deleted leaf, as a step of the posting trees.
use Rattle.std.proofs.Common.{◌≡◌, ◌≢◌, ℕ, suc, List, [], ◌∷◌, ◌++◌, map, refl, sym, ap, ap₂, subst, ◌∙◌, inl, inr}
use Rattle.std.proofs.lemmas.List.{map-append}
use Rattle.page_types.specs.Items.{items_of}
use Rattle.page_types.specs.declared.page.Page.{Page}
use Rattle.page_types.specs.declared.page.Body.{Body}
use Rattle.page_types.specs.declared.page.Body.TheVariants as body
use Rattle.page_types.specs.declared.page.Gone.TheVariants as gone
use Rattle.page_types.specs.declared.record.Record.{Record}
use Rattle.core_state.specs.Log.{Log, Pages, In, changed}
use Rattle.core_state.specs.TreeRules.{IsLeftLeaf, IsDeletePost}
use Rattle.core_state.specs.Changes.{made_with}
use Rattle.core_state.specs.Trees.Ext.{Ext}
use Rattle.core_state.specs.Trees.Ext.Ext.{least, at, greatest}
use Rattle.core_state.specs.Trees.Nodes.{TreeGhost, Sane, delete_ghost}
use Rattle.core_state.specs.Trees.Nodes.Node.{leaf, inner}
use Rattle.core_state.specs.Trees.Nodes.TreePlace.{tree}
use Rattle.core_state.specs.Trees.TreeNodes.{high_bound, child_bound, post_child, post_body, post_node, post_nodes}
use Rattle.core_state.specs.Inner.TreePlaces.{PostPlaces, IsNoEntryPage, HasMeta}
use Rattle.core_state.proofs.PageLists.{of_two, of_three, LeftLeaf, Unlinked, unlinked_pages}
use Rattle.core_state.proofs.Trees.Members.{off_two, off_three}
use Rattle.core_state.proofs.Trees.Order.{same_leaf}
use Rattle.core_state.proofs.Trees.FromNodes.{LedTo, delete_nodes}
use Rattle.core_state.proofs.Trees.PostViews.{PostStep, leaf_node, inner_node}
use Rattle.core_state.proofs.Trees.Orders.{items}

no_items : items_of [] ≡ []
unfolding items_of
no_items = refl

-- a node that is a leaf comes from a leaf
leaf_page : (right : ℕ) (b : Body) (a : ℕ) (h : Ext ℕ) (ks : List (Ext ℕ)) → post_body right b ≡ leaf a h ks
    → (right ≡ a) × ((high : ℕ) × (is : List ℕ) × (b ≡ body.PostLeaf high is))
leaf_page right (body.PostLeaf high is) a h ks e = ((same_leaf _ _ _ _ _ _ e).0, (high, is, refl))
leaf_page right (body.PostInner cs) a h ks e = absurd (cc)
leaf_page right (body.Deleted g) a h ks e = absurd (cc)
leaf_page right (body.EntryInner cs) a h ks e = absurd (cc)
leaf_page right (body.EntryLeaf high es) a h ks e = absurd (cc)
leaf_page right body.Free a h ks e = absurd (cc)
leaf_page right (body.Meta x y z) a h ks e = absurd (cc)
leaf_page right (body.Heap s) a h ks e = absurd (cc)
leaf_page right (body.Overflow s) a h ks e = absurd (cc)
leaf_page right (body.Pending s) a h ks e = absurd (cc)

module _ (R : Log) (P Q : Pages) (r : Record) (since : ℕ) (g : TreeGhost (Ext ℕ))
    (S : Sane items greatest (post_nodes P) g)
    (K : PostPlaces P since g) (elsewhere : (q : ℕ) → (In q (changed r) → ⊥) → Q q ≡ P q) (meta : HasMeta P)
    (V : IsDeletePost R P Q r) where
  abbrev page : ℕ
  page = V.here.page

  abbrev parent : ℕ
  parent = V.here.parent

  row : Unlinked P Q r page parent V.here.old.right V.here.lefts V.here.old
      (made_with r V.here.old.right (body.Deleted (gone.PostLeaf V.here.high []))) V.here.old_parent
      (made_with r V.here.old_parent.right (body.PostInner (V.here.front ++ V.here.next ∷ V.here.back)))
  row = unlinked_pages P Q r page parent V.here.old.right V.here.lefts V.here.lefts_before V.here.lefts_after V.here.old
      _
      V.here.old_parent _ (changed r) V.here.unlinked V.here.pages V.here.before_is V.here.after_is

  was_leaf : (P page).body ≡ body.PostLeaf V.here.high []
  was_leaf = ap (λ (p : Page). p.body) row.was ∙ V.here.empty

  at_page : (t : ℕ) × (g.place page ≡ tree t 0)
  at_page = K.leaf_at page V.here.high [] was_leaf

  not_zero : page ≢ 0
  not_zero z = clash (sym was_leaf ∙ ap (λ (q : ℕ). (P q).body) z ∙ meta.3)
    where
      clash : body.PostLeaf V.here.high [] ≡ body.Meta meta.0 meta.1 meta.2 → ⊥
      clash e = cc

  node_page : post_node (P page) ≡ leaf (P page).right (high_bound V.here.high) []
  node_page = leaf_node (P page) V.here.high [] was_leaf
      ∙ ap (λ (is : List ℕ). leaf (P page).right (high_bound V.here.high) (map at is)) no_items

  parent_body : (P parent).body ≡ body.PostInner
      (V.here.front ++ record { page = page; bound = V.here.bound } ∷ V.here.next ∷ V.here.back)
  parent_body = ap (λ (p : Page). p.body) row.parent_was ∙ V.here.child

  at_parent : (t : ℕ) × (i : ℕ) × (g.place parent ≡ tree t (suc i))
  at_parent = K.inner_at parent _ parent_body

  node_parent : post_node (P parent) ≡ inner (P parent).right (map post_child V.here.front
      ++ record { page = page; bound = child_bound V.here.bound } ∷ post_child V.here.next ∷ map post_child V.here.back)
  node_parent = inner_node (P parent) _ parent_body ∙ ap (inner (P parent).right)
      (map-append post_child V.here.front (record { page = page; bound = V.here.bound } ∷ V.here.next ∷ V.here.back))

  -- a leaf whose node leads to the page is its left leaf
  leads : (x : ℕ) (h : Ext ℕ) (ks : List (Ext ℕ)) → post_node (P x) ≡ leaf page h ks → IsLeftLeaf P x page
  leads x h ks e =
      let l = leaf_page (P x).right (P x).body page h ks e in
      record { high = l.1.0; items = l.1.1; body_is = l.1.2; link = l.0 }

  abbrev right : ℕ
  right = V.here.old.right

  led_to : (q : ℕ) → LeftLeaf P Q r page right q → LedTo (post_nodes P) (post_nodes Q) g page right
  led_to q l = record {
    page = q;
    root = (K.leaf_at q l.high l.items l.was).0;
    high = high_bound l.high;
    keys = map at (items_of l.items);
    at = (K.leaf_at q l.high l.items l.was).1;
    was = ap₂ post_body l.link l.was;
    now = ap post_node l.after;
  }

  with_lefts : (ls : List ℕ) → V.here.lefts ≡ ls → changed r ≡ page ∷ (ls ++ parent ∷ [])
  with_lefts ls e = V.here.pages ∙ ap (λ (l : List ℕ). page ∷ (l ++ parent ∷ [])) e

  -- none of the pages is one of the entry tree
  pub no_entries : (q : ℕ) → In q (changed r) → IsNoEntryPage (P q).body
  no_entries = elim row.leaf [
    | inl e ↦ of_two (λ q. IsNoEntryPage (P q).body) (changed r) page parent (with_lefts [] e) on_page on_parent
    | inr l ↦ of_three (λ q. IsNoEntryPage (P q).body) (changed r) page l.0 parent (with_lefts (l.0 ∷ []) l.1) on_page
        (subst IsNoEntryPage (sym l.2.was) tt) on_parent
  ]
    where
      on_page : IsNoEntryPage (P page).body
      on_page = subst IsNoEntryPage (sym was_leaf) tt

      on_parent : IsNoEntryPage (P parent).body
      on_parent = subst IsNoEntryPage (sym parent_body) tt

  pub delete_post : (t : ℕ) × (g.place page ≡ tree t 0)
      × PostStep P Q g (delete_ghost items greatest g page V.here.next.page t) []
  delete_post = (
    at_page.0,
    at_page.1,
    delete_nodes items least greatest (post_nodes P) (post_nodes Q) g S page parent
        at_page.0 at_parent.0 at_parent.1 right (P parent).right (map post_child V.here.front)
        (map post_child V.here.back)
        (post_child V.here.next) (child_bound V.here.bound) (high_bound V.here.high) at_page.1 not_zero at_parent.2
        (node_page ∙ ap (λ (p : Page). leaf p.right (high_bound V.here.high) []) row.was)
        (ap post_node row.is) node_parent
        (ap post_node row.parent_is
        ∙ ap (λ (p : Page). inner p.right (map post_child (V.here.front ++ V.here.next ∷ V.here.back)))
        (sym row.parent_was)
        ∙ ap (inner (P parent).right) (map-append post_child V.here.front (V.here.next ∷ V.here.back)))
        (elim row.leaf [
          | inl none_led ↦ inl (λ x h ks px e. V.rest none_led x (leads x h ks e))
          | inr l ↦ inr (led_to l.0 l.2)
        ])
        (λ x a b c. ap post_node (elsewhere x (elim row.leaf [
          | inl e ↦ off_two x page parent a b (changed r) (with_lefts [] e)
          | inr l ↦ off_three x page l.0 parent a (λ z. c _ _ (ap (post_nodes P) z ∙ ap₂ post_body l.2.link l.2.was)) b
              (changed r)
              (with_lefts (l.0 ∷ []) l.1)
        ]))) (λ k. In k (map at [])),
  )
