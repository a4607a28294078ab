-- The rules of added and removed items, of a new posting tree and of a grown root, as steps of the posting trees.
use Rattle.std.proofs.Common.{◌≡◌, ◌≢◌, ℕ, suc, List, [], ◌∷◌, ◌++◌, map, refl, sym, ap, subst, ◌∙◌, inl, inr}
use Rattle.page_types.specs.Items.{items_of}
use Rattle.page_types.specs.declared.page.Page.{Page}
use Rattle.page_types.specs.declared.page.Postings.TheVariants.{Root}
use Rattle.page_types.specs.declared.page.Body.{Body}
use Rattle.page_types.specs.declared.page.Body.TheVariants as body
use Rattle.page_types.specs.declared.record.Record.{Record}
use Rattle.core_state.specs.Log.{Log, Pages, In, changed}
use Rattle.core_state.specs.TreeRules.{IsAddItems, IsMakeTree, IsAddPostings, IsGrowRoot, OneChild}
use Rattle.core_state.specs.VacuumRules.{ItemsLeave, ListsLose, IsRemoveItems}
use Rattle.core_state.specs.Changes.{made_with}
use Rattle.core_state.specs.Trees.Ext.{Ext}
use Rattle.core_state.specs.Trees.Ext.Ext.{least, at, greatest}
use Rattle.core_state.specs.Trees.Nodes.{TreeGhost, AtMost, Sane}
use Rattle.core_state.specs.Trees.Nodes.Node.{leaf, inner}
use Rattle.core_state.specs.Trees.Nodes.TreePlace.{none, tree}
use Rattle.core_state.specs.Trees.TreeNodes.{high_bound, post_body, post_node, post_nodes}
use Rattle.core_state.specs.Inner.TreePlaces.{PostPlaces, IsNoPostPage, HasMeta, AreNamed}
use Rattle.core_state.proofs.PageLists.{same_or_not, one_page, two_pages}
use Rattle.core_state.proofs.Trees.Members.{in_map, of_map, off_one, off_two}
use Rattle.core_state.proofs.Trees.Order.{tree_not_none}
use Rattle.core_state.proofs.Trees.Find.{right_in}
use Rattle.core_state.proofs.Trees.Grow.{grow_ghost}
use Rattle.core_state.proofs.Law.Rooted.{AreRooted}
use Rattle.core_state.proofs.Trees.Roots.{IsRootAt, root_at}
use Rattle.core_state.proofs.Trees.FromNodes.{unlinked, leaf_shows, grow_nodes}
use Rattle.core_state.proofs.Trees.Lists.{make_ghost}
use Rattle.core_state.proofs.Trees.Steps.{Grows, Step}
use Rattle.core_state.proofs.Trees.Growing.{quiet_here, as_step}
use Rattle.core_state.proofs.Trees.EntryViews.{new_not_zero}
use Rattle.core_state.proofs.Trees.PostViews.{PostGrows, PostStep, leaf_node, up_to_item, toward_low}
use Rattle.core_state.proofs.Trees.Orders.{items, nat_order, ext_top}

-- a grown root has one child, without bound; what was on it moves without its right link
grown_nodes : (new : ℕ) (a b : Body) → OneChild new a b → (IsNoPostPage a → ⊥) → (x : ℕ)
    → (right_in (post_body x a) ≡ x)
    × (post_body x b ≡ inner x (record { page = new; bound = greatest } ∷ []))
    × (post_body 0 a ≡ unlinked (post_body x a))
grown_nodes new a b (OneChild.of_leaf h es) n x = absurd (n tt)
grown_nodes new a b (OneChild.of_inner cs) n x = absurd (n tt)
grown_nodes new a b (OneChild.of_post_leaf h is) n x = (refl, refl, refl)
grown_nodes new a b (OneChild.of_post_inner cs) n x = (refl, refl, refl)

-- items that leave, in the order of items with a least and a greatest
leave_all : (removed old new : List ℕ) → ItemsLeave removed old new → (k : Ext ℕ) → (In k (map at removed) → ⊥)
    → In k (map at (items_of old)) → In k (map at (items_of new))
leave_all removed old new l k off m =
    let i = of_map at k (items_of old) m in
    elim (l.each i.0 i.1) [
      | inl a ↦ subst (λ (z : Ext ℕ). In z (map at (items_of new))) (sym i.2) (in_map at i.0 (items_of new) a)
      | inr a ↦ absurd (off (subst (λ (z : Ext ℕ). In z (map at removed)) (sym i.2) (in_map at i.0 removed a)))
    ]

all_old : (removed old new : List ℕ) → ItemsLeave removed old new → (k : Ext ℕ) → In k (map at (items_of new))
    → In k (map at (items_of old))
all_old removed old new l k m =
    let i = of_map at k (items_of new) m in
    subst (λ (z : Ext ℕ). In z (map at (items_of old))) (sym i.2) (in_map at i.0 (items_of old) (l.no_other i.0 i.1))

module _ (R : Log) (P Q : Pages) (r : Record) (since : ℕ) (g : TreeGhost (Ext ℕ))
    (S : Sane items greatest (post_nodes P) g)
    (K : PostPlaces P since g)
    (elsewhere : (q : ℕ) → (In q (changed r) → ⊥) → Q q ≡ P q) where
  -- the items of a leaf become others within its bounds
  module _ (page : ℕ) (old : Page) (high : ℕ) (is js removed : List ℕ) (only : changed r ≡ page ∷ [])
      (was : P page ≡ old) (was_body : old.body ≡ body.PostLeaf high is)
      (now : Q page ≡ made_with r old.right (body.PostLeaf high js)) where
    at_page : (t : ℕ) × (g.place page ≡ tree t 0)
    at_page = K.leaf_at page high is (ap (λ (p : Page). p.body) was ∙ was_body)

    node_was : post_node (P page) ≡ leaf old.right (high_bound high) (map at (items_of is))
    node_was = ap post_node was ∙ leaf_node old high is was_body

    shows : (high_bound high ≡ g.high page)
        × ((k : Ext ℕ) → In k (map at (items_of is)) → items.less (g.low page) k
        × AtMost items greatest k (g.high page))
    shows = leaf_shows items least greatest (post_nodes P) (post_nodes Q) g S page at_page.0 old.right
        (high_bound high) _ at_page.1 node_was

    other_items : ((k : Ext ℕ) → In k (map at (items_of js)) → items.less (g.low page) k
        × AtMost items greatest k (g.high page))
        → ((k : Ext ℕ) → (In k (map at removed) → ⊥) → In k (map at (items_of is)) → In k (map at (items_of js)))
        → PostStep P Q g g removed
    other_items within kept = (
      Step.grows (Grows.new_keys page at_page.0 (record {
        at = at_page.1;
        right = old.right;
        keys = map at (items_of is);
        then = map at (items_of js);
        before = node_was ∙ ap (λ (z : Ext ℕ). leaf old.right z (map at (items_of is))) shows.0;
        after = ap post_node now ∙ ap (λ (z : Ext ℕ). leaf old.right z (map at (items_of js))) shows.0;
        within = within;
        else = λ x n. ap post_node (elsewhere x (off_one x page n (changed r) only));
      }) refl),
      kept,
    )

  none_on : (p : ℕ) (b : Body) → (P p).body ≡ b → IsNoPostPage b → g.place p ≡ none
  none_on p b e n = K.none_at p (subst IsNoPostPage (sym e) n)

  -- 13: a page of entries is in no posting tree
  pub add_items : IsAddItems R P Q r → PostGrows P Q g g
  add_items V = quiet_here items least greatest (post_nodes P) (post_nodes Q) g (changed r)
      (λ q n. ap post_node (elsewhere q n)) (λ q m n. absurd (here q n (subst (In q) V.here.pages m)))
    where
      was : P V.here.page ≡ V.here.old
      was = one_page P (changed r) V.here.page V.here.old V.here.pages V.here.before_is

      here : (q : ℕ) → g.place q ≢ none → In q (V.here.page ∷ []) → ⊥
      here q n (inl e) = n (ap g.place e
          ∙ none_on V.here.page (body.EntryLeaf V.here.high V.here.entries) (ap (λ (p : Page). p.body) was
          ∙ V.here.was) tt)
      here q n (inr e) = e

  -- 14: a new tree
  pub make_tree : AreRooted least greatest (post_nodes P) g → HasMeta P → (V : IsMakeTree R P Q r since)
      → PostGrows P Q g (make_ghost g least greatest V.here.new)
  make_tree A meta V = (
    Grows.make V.here.new (record {
      new = fresh;
      not_zero = new_not_zero P meta since V.here.new V.here.is_new;
      no_tree = λ x h e. let k = A.trees x V.here.new h e in none_there k.0 k.1;
      no_left = λ x e. let k = A.lefts x V.here.new e in none_there (suc k.0) k.1;
      keys = map at (items_of V.here.items);
      after_new = ap post_node now.1;
      within = λ k m. let i = of_map at k (items_of V.here.items) m in
          subst (λ (z : Ext ℕ). items.less least z × AtMost items greatest z greatest) (sym i.2) (tt, inl tt);
      else = λ x n. elim (same_or_not V.here.page x) [
        | inl e ↦ ap (post_nodes Q) e ∙ ap post_node now.0
            ∙ sym (ap (post_nodes P) e ∙ ap post_node was.0 ∙ ap (post_body V.here.old.right) V.here.inline)
        | inr m ↦ ap post_node (elsewhere x (off_two x V.here.page V.here.new m n (changed r) V.here.pages))
      ];
    }) refl,
    λ k. tt,
  )
    where
      fresh : g.place V.here.new ≡ none
      fresh = K.new_at V.here.new V.here.is_new

      none_there : (h : ℕ) → g.place V.here.new ≡ tree V.here.new h → ⊥
      none_there h e = tree_not_none V.here.new h (sym e ∙ fresh)

      was : (P V.here.page ≡ V.here.old) × (P V.here.new ≡ V.here.was)
      was = two_pages P (changed r) V.here.page V.here.new V.here.old V.here.was V.here.pages V.here.before_is

      now : (Q V.here.page ≡ made_with r V.here.old.right
          (body.EntryLeaf V.here.high
          (V.here.front ++ record { key = V.here.key; postings = Root V.here.new } ∷ V.here.back)))
          × (Q V.here.new ≡ made_with r 0 (body.PostLeaf 0 V.here.items))
      now = two_pages Q (changed r) V.here.page V.here.new _ _ V.here.pages V.here.after_is

  -- 15: items come
  pub add_postings : AreRooted least greatest (post_nodes P) g → AreNamed P g → IsAddPostings R P Q r
      → PostStep P Q g g []
  add_postings A T V = other_items V.here.page V.here.old V.here.high V.here.old_list V.here.new_list [] V.here.pages
      was V.here.was
      (one_page Q (changed r) V.here.page _ V.here.pages V.here.after_is) within
      (λ k n m. let i = of_map at k (items_of V.here.old_list) m in
      subst (λ (z : Ext ℕ). In z (map at (items_of V.here.new_list))) (sym i.2)
      (in_map at i.0 (items_of V.here.new_list) ((V.here.added.just i.0).1 (inl i.1))))
    where
      was : P V.here.page ≡ V.here.old
      was = one_page P (changed r) V.here.page V.here.old V.here.pages V.here.before_is

      is_shown : (high_bound V.here.high ≡ g.high V.here.page)
          × ((k : Ext ℕ) → In k (map at (items_of V.here.old_list)) → items.less (g.low V.here.page) k
          × AtMost items greatest k (g.high V.here.page))
      is_shown = shows V.here.page V.here.old V.here.high V.here.old_list V.here.new_list [] V.here.pages was V.here.was
          (one_page Q (changed r) V.here.page _ V.here.pages V.here.after_is)

      named : (h : ℕ) × (g.place V.rest.root ≡ tree V.rest.root h)
      named = T V.rest.key V.rest.root V.rest.named

      root : IsRootAt g V.rest.root named.0
      root = root_at (post_nodes P) g A V.rest.root named.0 named.1

      low : (i : ℕ) → In i V.here.items → items.less (g.low V.here.page) (at i)
      low i m = (toward_low P since g S K i V.rest.root V.here.page V.rest.root named.0 (V.rest.place i m) root.at_root
          (subst (λ (z : Ext ℕ). items.less z (at i)) (sym root.low) tt)).1

      within : (k : Ext ℕ) → In k (map at (items_of V.here.new_list)) → items.less (g.low V.here.page) k
          × AtMost items greatest k (g.high V.here.page)
      within k m =
          let i = of_map at k (items_of V.here.new_list) m in
          subst (λ (z : Ext ℕ). items.less (g.low V.here.page) z × AtMost items greatest z (g.high V.here.page))
          (sym i.2) (elim ((V.here.added.just i.0).0 i.1) [
            | inl a ↦ is_shown.1 (at i.0) (in_map at i.0 (items_of V.here.old_list) a)
            | inr b ↦ (
              low i.0 b,
              subst (λ (z : Ext ℕ). AtMost items greatest (at i.0) z) is_shown.0
                  (up_to_item i.0 V.here.high (V.here.within i.0 b)),
            )
          ])

  -- 16, of a root of another tree
  pub grow_other : (V : IsGrowRoot R P Q r since) → IsNoPostPage (P V.here.root).body → PostGrows P Q g g
  grow_other V other = quiet_here items least greatest (post_nodes P) (post_nodes Q) g (changed r)
      (λ q n. ap post_node (elsewhere q n)) (λ q m n. absurd (here q n (subst (In q) V.here.pages m)))
    where
      here : (q : ℕ) → g.place q ≢ none → In q (V.here.root ∷ V.here.new ∷ []) → ⊥
      here q n (inl e) = n (ap g.place e ∙ K.none_at V.here.root other)
      here q n (inr (inl e)) = n (ap g.place e ∙ K.new_at V.here.new V.here.is_new)
      here q n (inr (inr e)) = e

  -- 16, of a posting tree's root
  pub grow_root : (top : ℕ) (V : IsGrowRoot R P Q r since) → IsRootAt g V.here.root top → HasMeta P
      → (IsNoPostPage (P V.here.root).body → ⊥)
      → PostGrows P Q g (grow_ghost g least greatest V.here.root V.here.new top)
  grow_root top V T meta post =
      grow_nodes items least greatest (λ x l. l) (ext_top nat_order) tt (post_nodes P)
      (post_nodes Q) g S V.here.root top
      T.at_root T.low T.high T.highest T.left_low
      V.here.new (K.new_at V.here.new V.here.is_new) (new_not_zero P meta since V.here.new V.here.is_new)
      (ap post_node now.0 ∙ nodes.1
      ∙ ap (λ (z : ℕ). inner z (record { page = V.here.new; bound = greatest } ∷ [])) (sym nodes.0
      ∙ sym (ap right_in node_was)))
      (ap post_node now.1 ∙ nodes.2 ∙ sym (ap unlinked node_was))
      (λ x m n. ap post_node (elsewhere x (off_two x V.here.root V.here.new m n (changed r) V.here.pages)))
    where
      was : (P V.here.root ≡ V.here.old) × (P V.here.new ≡ V.here.was)
      was = two_pages P (changed r) V.here.root V.here.new V.here.old V.here.was V.here.pages V.here.before_is

      now : (Q V.here.root ≡ made_with r V.here.old.right V.here.inner) × (Q V.here.new ≡ made_with r 0 V.here.old.body)
      now = two_pages Q (changed r) V.here.root V.here.new _ _ V.here.pages V.here.after_is

      node_was : post_node (P V.here.root) ≡ post_body V.here.old.right V.here.old.body
      node_was = ap post_node was.0

      nodes : (right_in (post_body V.here.old.right V.here.old.body) ≡ V.here.old.right)
          × (post_body V.here.old.right V.here.inner ≡ inner V.here.old.right
          (record { page = V.here.new; bound = greatest } ∷ []))
          × (post_body 0 V.here.old.body ≡ unlinked (post_body V.here.old.right V.here.old.body))
      nodes = grown_nodes V.here.new V.here.old.body V.here.inner V.here.one_child
          (λ n. post (subst IsNoPostPage (sym (ap (λ (p : Page). p.body) was.0)) n)) V.here.old.right

  -- 18: items leave
  lists_lose : (page : ℕ) (old : Page) (removed : List ℕ) (a b : Body) → changed r ≡ page ∷ [] → P page ≡ old
      → ListsLose removed a b → old.body ≡ a
      → Q page ≡ made_with r old.right b → PostStep P Q g g removed
  lists_lose page old removed a b only was (ListsLose.entries high es fs l) e now =
      as_step items least greatest (post_nodes P) (post_nodes Q) g g (λ k. In k (map at removed))
      (quiet_here items least greatest (post_nodes P) (post_nodes Q) g (changed r)
      (λ q n. ap post_node (elsewhere q n)) (λ q m n. absurd (here q n (subst (In q) only m))))
    where
      here : (q : ℕ) → g.place q ≢ none → In q (page ∷ []) → ⊥
      here q n (inl f) = n (ap g.place f ∙ none_on page (body.EntryLeaf high es) (ap (λ (p : Page). p.body) was ∙ e) tt)
      here q n (inr f) = f
  lists_lose page old removed a b only was (ListsLose.postings high is js l) e now =
      other_items page old high is js removed only was e now
      (λ k m. (shows page old high is js removed only was e now).1 k (all_old removed is js l k m))
      (leave_all removed is js l)

  pub remove_items : (floor : ℕ) (V : IsRemoveItems R P Q r floor) → PostStep P Q g g V.here.removed
  remove_items floor V = lists_lose V.here.page V.here.old V.here.removed V.here.old.body V.here.content V.here.pages
      (one_page P (changed r) V.here.page V.here.old V.here.pages V.here.before_is) V.here.lists refl
      (one_page Q (changed r) V.here.page _ V.here.pages V.here.after_is)
