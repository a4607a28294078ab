-- The bounds of the trees of a legal log: children and leaves.
use Rattle.std.proofs.Common.{◌≡◌, ◌≢◌, ◌<◌, ◌==◌, cond, Bool, false, ℕ, zero, suc, List, [], ◌∷◌, ◌++◌, map, refl, sym}
use Rattle.std.proofs.Common.{ap, subst, ◌∙◌, inl, inr, arith}
use Rattle.ts_base.specs.Keys.{Key}
use Rattle.page_types.specs.Numbers.{no_bound}
use Rattle.page_types.specs.Keys.{KeyLess}
use Rattle.page_types.specs.Items.{items_of}
use Rattle.page_types.specs.Views.{entries_in, posting_items_in}
use Rattle.page_types.specs.declared.page.EntryChild.{EntryChild}
use Rattle.page_types.specs.declared.page.PostChild.{PostChild}
use Rattle.page_types.specs.declared.page.Body.{Body}
use Rattle.page_types.specs.declared.page.Body.TheVariants as body
use Rattle.core_state.specs.Log.{Log, Pages, In, Shows}
use Rattle.core_state.specs.TreeRules.{IsRoot}
use Rattle.core_state.specs.PagesTold.{HasHighKey, HasHighItem, LeavesInOrder, IsEntryLeaf, OnEntryLeaf, UpEntryLeaf}
use Rattle.core_state.specs.PagesTold.{IsPostLeaf, OnPostLeaf, UpPostLeaf, BoundsStand}
use Rattle.core_state.specs.Trees.Ext.{Ext, ext_less}
use Rattle.core_state.specs.Trees.Ext.Ext.{least, at, greatest}
use Rattle.core_state.specs.Trees.Nodes as nodes
use Rattle.core_state.specs.Trees.Nodes.{AtMost, Kids}
use Rattle.core_state.specs.Trees.TreeNodes.{bound, entry_child, entry_nodes, high_bound, child_bound, post_child}
use Rattle.core_state.specs.Trees.TreeNodes.{post_nodes}
use Rattle.core_state.specs.Inner.Ghosts.{Place, Ghost, entry_place, post_place, entry_ghost, post_ghost}
use Rattle.core_state.specs.Inner.Ghosts.Place.{entry, post}
use Rattle.core_state.specs.Inner.Kinds.{Fits}
use Rattle.core_state.proofs.PageLists.{same_or_not}
use Rattle.core_state.proofs.Trees.Members.{in_map}
use Rattle.core_state.proofs.Trees.FromNodes.{leaf_shows}
use Rattle.core_state.proofs.Trees.Find.{right_in, kids_here, child_here}
use Rattle.core_state.proofs.Trees.Orders.{keys, items, up_to_bound, high_bound_is, child_bound_is}
use Rattle.core_state.proofs.Trees.EntryViews as entries
use Rattle.core_state.proofs.Trees.PostViews as posts
use Rattle.core_state.proofs.Trees.LeafOrder.{kids_last, leaves_in_order}
use Rattle.core_state.proofs.Law.Invariant.{Inv}
use Rattle.core_state.proofs.Law.Places.{place_for}
use Rattle.core_state.proofs.Law.TreeFields.{entry_is, entry_places}
use Rattle.core_state.proofs.Law.Belows.{post_is, below_place}
use Rattle.core_state.proofs.Law.EntryBounds.{to_up_to}
use Rattle.core_state.proofs.Law.PostBounds.{to_item_up_to}
use Rattle.core_state.proofs.Law.Bounded.{posts_hold, tree_of}
use Rattle.core_state.proofs.Law.Lists.{zero_place}
use Rattle.core_state.proofs.Law.OneStep.{page_0}

-- bounds that are the same come from the same keys and numbers
same_at : {A : Type 0} (a b : A) → at a ≡ at b → a ≡ b
same_at a b e = cc

same_bound : (a b : Key) → bound a ≡ bound b → a ≡ b
same_bound [] [] e = refl
same_bound [] (c ∷ b) e = absurd (cc)
same_bound (c ∷ a) [] e = absurd (cc)
same_bound (c ∷ a) (d ∷ b) e = same_at (c ∷ a) (d ∷ b) e

not_top : {A : Type 0} (a : A) → greatest ≡ at a → ⊥
not_top a e = cc

same_child_bound : (a b : ℕ) → child_bound a ≡ child_bound b → a ≡ b
same_child_bound a b e = elim (child_bound_is a) [
  | inl x ↦ elim (child_bound_is b) [
    | inl y ↦ x.0 ∙ sym y.0
    | inr y ↦ absurd (not_top b (sym x.1 ∙ e ∙ y.1))
  ]
  | inr x ↦ elim (child_bound_is b) [
    | inl y ↦ absurd (not_top a (sym y.1 ∙ sym e ∙ x.1))
    | inr y ↦ same_at a b (sym x.1 ∙ e ∙ y.1)
  ]
]

-- a child's bound says the high item of a leaf
high_told : (high b : ℕ) → high_bound high ≡ child_bound b → cond (high == 0) no_bound high ≡ b
high_told high b e = elim (same_or_not 0 high) [
  | inl z ↦ elim (child_bound_is b) [
    | inl y ↦ subst (λ (n : ℕ). cond (n == 0) no_bound n ≡ b) (sym z) (sym y.0)
    | inr y ↦ absurd (not_top b (subst (λ (n : ℕ). greatest ≡ high_bound n) (sym z) refl ∙ e ∙ y.1))
  ]
  | inr off ↦ ap (λ (c : Bool). cond c no_bound high) (not_zero high off) ∙ (elim (high_bound_is high) [
    | inl x ↦ absurd (off x.0)
    | inr x ↦ elim (child_bound_is b) [
      | inl y ↦ absurd (not_top high (sym y.1 ∙ sym e ∙ x.1))
      | inr y ↦ same_at high b (sym x.1 ∙ e ∙ y.1)
    ]
  ])
]
  where
    not_zero : (n : ℕ) → n ≢ 0 → (n == 0) ≡ false
    not_zero n h = grind (arith, h)

no_less : {A : Type 0} (less : A → A → Type 0) (x : Ext A) → ext_less less x least → ⊥
no_less less least l = l
no_less less (at a) l = l
no_less less greatest l = l

no_more : {A : Type 0} (less : A → A → Type 0) (x : Ext A) → ext_less less greatest x → ⊥
no_more less least l = l
no_more less (at a) l = l
no_more less greatest l = l

module _ (n L : ℕ) (R : Log) (P : Pages) (g : Ghost) (v : Inv n L R P g) (shown : Shows R P) where
  -- a page of the entry tree has the high key that bounds it
  high_key : (q h : ℕ) (b : Key) → g.place q ≡ entry h → g.high_key q ≡ bound b → HasHighKey (P q).body b
  high_key q zero b e high =
      let f : Fits L (entry 0) (P q) = subst (λ (x : Place). Fits L x (P q)) e (v.kinds q) in
      let same = same_bound f.0 b (entries.leaf_high P (entry_ghost g) v.entries (entry_places L P g v.kinds) q f.0 f.1
      f.2 ∙ high) in
      subst (λ (x : Body). HasHighKey x b) (sym f.2) (subst (HasHighKey (body.EntryLeaf f.0 f.1)) same
      (HasHighKey.leaf f.0 f.1))
  high_key q (suc h) b e high =
      let f : Fits L (entry (suc h)) (P q) = subst (λ (x : Place). Fits L x (P q)) e (v.kinds q) in
      by f.0 f.1
    where
      by : (cs : List EntryChild) → (P q).body ≡ body.EntryInner cs → HasHighKey (P q).body b
      by cs is = go cs is (kids_here keys greatest (entry_nodes P) (entry_ghost g) v.entries q 1 h (P q).right
          (map entry_child cs) (ap entry_place e) (entries.inner_node (P q) cs is))
        where
          go : (ds : List EntryChild) → (P q).body ≡ body.EntryInner ds
              → Kids keys greatest (entry_ghost g) 1 h (g.low_key q) (map entry_child ds) (g.high_key q)
              → HasHighKey (P q).body b
          go [] is k = absurd (keys.irrefl (g.high_key q) (subst (λ (z : Ext Key). keys.less z (g.high_key q)) k
              (v.entries.span q 1 (suc h) (ap entry_place e))))
          go (d ∷ ds) is k =
              let last = kids_last keys greatest (entry_ghost g) entry_child 1 h (g.low_key q) (g.high_key q) d ds k in
              let same = same_bound last.1.bound b (last.3 ∙ high) in
              subst (λ (x : Body). HasHighKey x b) (sym (is ∙ ap body.EntryInner last.2))
              (subst (HasHighKey (body.EntryInner (last.0 ++ last.1 ∷ []))) same (HasHighKey.inner last.0 last.1))

  child_keys : (p : ℕ) (cs : List EntryChild) (c : EntryChild) → (P p).body ≡ body.EntryInner cs → In c cs
      → HasHighKey (P c.page).body c.bound
  child_keys p cs c is i =
      let h = place_for L (g.place p) (P p) (body.EntryInner cs) (v.kinds p) is in
      let there = child_here keys greatest (entry_nodes P) (entry_ghost g) v.entries p 1 h.0 (P p).right
      (map entry_child cs) (entry_child c) (ap entry_place h.1) (entries.inner_node (P p) cs is)
      (in_map entry_child c cs i) in
      high_key c.page h.0 c.bound (entry_is (g.place c.page) 1 h.0 there.0) there.1

  post_leaf : (q r high : ℕ) (is : List ℕ) → g.place q ≡ post r 0 → (P q).body ≡ body.PostLeaf high is
      → (high_bound high ≡ g.high_item q) × ((k : Ext ℕ) → In k (map at (items_of is))
      → items.less (g.low_item q) k × AtMost items greatest k (g.high_item q))
  post_leaf q r high is e b = leaf_shows items least greatest (post_nodes P) (post_nodes P) (post_ghost g) v.posts q r
      (P q).right (high_bound high) (map at (items_of is)) (ap post_place e) (posts.leaf_node (P q) high is b)

  -- likewise of a posting tree
  high_item : (q r h b : ℕ) → g.place q ≡ post r h → g.high_item q ≡ child_bound b → HasHighItem (P q).body b
  high_item q r zero b e high =
      let f : Fits L (post r 0) (P q) = subst (λ (x : Place). Fits L x (P q)) e (v.kinds q) in
      let same = high_told f.0 b ((post_leaf q r f.0 f.1 e f.2).0 ∙ high) in
      subst (λ (x : Body). HasHighItem x b) (sym f.2) (subst (HasHighItem (body.PostLeaf f.0 f.1)) same
      (HasHighItem.leaf f.0 f.1))
  high_item q r (suc h) b e high =
      let f : Fits L (post r (suc h)) (P q) = subst (λ (x : Place). Fits L x (P q)) e (v.kinds q) in
      go f.0 f.1 (kids_here items greatest (post_nodes P) (post_ghost g) v.posts q r h (P q).right
      (map post_child f.0) (ap post_place e) (posts.inner_node (P q) f.0 f.1))
    where
      go : (ds : List PostChild) → (P q).body ≡ body.PostInner ds
          → Kids items greatest (post_ghost g) r h (g.low_item q) (map post_child ds) (g.high_item q)
          → HasHighItem (P q).body b
      go [] is k = absurd (items.irrefl (g.high_item q) (subst (λ (z : Ext ℕ). items.less z (g.high_item q)) k
          (v.posts.span q r (suc h) (ap post_place e))))
      go (d ∷ ds) is k =
          let last = kids_last items greatest (post_ghost g) post_child r h (g.low_item q) (g.high_item q) d ds k in
          let same = same_child_bound last.1.bound b (last.3 ∙ high) in
          subst (λ (x : Body). HasHighItem x b) (sym (is ∙ ap body.PostInner last.2))
          (subst (HasHighItem (body.PostInner (last.0 ++ last.1 ∷ []))) same (HasHighItem.inner last.0 last.1))

  child_items : (p : ℕ) (cs : List PostChild) (c : PostChild) → (P p).body ≡ body.PostInner cs → In c cs
      → HasHighItem (P c.page).body c.bound
  child_items p cs c is i =
      let h = place_for L (g.place p) (P p) (body.PostInner cs) (v.kinds p) is in
      let there = child_here items greatest (post_nodes P) (post_ghost g) v.posts p h.0 h.1 (P p).right
      (map post_child cs) (post_child c) (ap post_place h.2) (posts.inner_node (P p) cs is)
      (in_map post_child c cs i) in
      high_item c.page h.0 h.1 c.bound (post_is (g.place c.page) h.0 h.1 there.0) there.1

  -- the leaves of the entry tree
  entry_at : (p : ℕ) → IsEntryLeaf P p → entry_place (g.place p) ≡ nodes.TreePlace.tree 1 0
  entry_at p l = ap entry_place (place_for L (g.place p) (P p) (body.EntryLeaf l.0 l.1) (v.kinds p) l.2)

  at_entry : (p : ℕ) → entry_place (g.place p) ≡ nodes.TreePlace.tree 1 0 → IsEntryLeaf P p
  at_entry p e = subst (λ (x : Place). Fits L x (P p)) (entry_is (g.place p) 1 0 e) (v.kinds p)

  entry_within : (p : ℕ) (k : Key) → IsEntryLeaf P p → OnEntryLeaf P p k
      → keys.less (g.low_key p) (at k) × AtMost keys greatest (at k) (g.high_key p)
  entry_within p k l on =
      subst (λ (z : Key). keys.less (g.low_key p) (at z) × AtMost keys greatest (at z) (g.high_key p)) on.2
      (entries.leaf_keys P (entry_ghost g) v.entries (entry_places L P g v.kinds) p l.0 l.1 l.2 on.0
      (subst (In on.0) (ap entries_in l.2) on.1))

  entry_high : (p : ℕ) (l : IsEntryLeaf P p) → bound l.0 ≡ g.high_key p
  entry_high p l = entries.leaf_high P (entry_ghost g) v.entries (entry_places L P g v.kinds) p l.0 l.1 l.2

  entry_up : (p : ℕ) (k : Key) → IsEntryLeaf P p → UpEntryLeaf P p k → AtMost keys greatest (at k) (g.high_key p)
  entry_up p k l up = subst (AtMost keys greatest (at k)) (entry_high p (up.0, up.1, up.2)) (up_to_bound k up.0 up.3)

  up_entry : (p : ℕ) (k : Key) → IsEntryLeaf P p → AtMost keys greatest (at k) (g.high_key p) → UpEntryLeaf P p k
  up_entry p k l m = (
    l.0,
    l.1,
    l.2,
    to_up_to k l.0 (subst (AtMost keys greatest (at k)) (sym (entry_high p l)) m),
  )

  entry_leaves : R ≢ [] → LeavesInOrder P (IsEntryLeaf P) (OnEntryLeaf P) (UpEntryLeaf P)
  entry_leaves some =
      let root = v.starts.page_1 some in
      leaves_in_order keys least greatest (no_less KeyLess) (no_more KeyLess) (entry_nodes P) (entry_ghost g) v.entries
      v.entries_rooted 1 root.0 (ap entry_place root.1) P (IsEntryLeaf P) (OnEntryLeaf P) (UpEntryLeaf P) at
      (zero_place g (page_0 n L R P g v shown)).0 entry_at at_entry
      (λ p l. ap right_in (entries.leaf_node (P p) l.0 l.1 l.2)) entry_within entry_up up_entry (λ k. tt)

  -- the leaves of a posting tree
  module _ (root top : ℕ) (is_root : IsRoot P root) (at_root : g.place root ≡ post root top) where
    post_at : (p : ℕ) → IsPostLeaf P root p → post_place (g.place p) ≡ nodes.TreePlace.tree root 0
    post_at p l = ap post_place (tree_of n L R P g v shown root p l.1.0 l.1.1 is_root l.0 l.1.2)

    at_post : (p : ℕ) → post_place (g.place p) ≡ nodes.TreePlace.tree root 0 → IsPostLeaf P root p
    at_post p e =
        let place = post_is (g.place p) root 0 e in (
          below_place L P g (posts_hold n L R P g v) p root 0 place,
          subst (λ (x : Place). Fits L x (P p)) place (v.kinds p),
        )

    shows : (p : ℕ) (l : IsPostLeaf P root p) → (high_bound l.1.0 ≡ g.high_item p)
        × ((k : Ext ℕ) → In k (map at (items_of l.1.1))
        → items.less (g.low_item p) k × AtMost items greatest k (g.high_item p))
    shows p l = post_leaf p root l.1.0 l.1.1 (post_is (g.place p) root 0 (post_at p l)) l.1.2

    post_within : (p i : ℕ) → IsPostLeaf P root p → OnPostLeaf P p i
        → items.less (g.low_item p) (at i) × AtMost items greatest (at i) (g.high_item p)
    post_within p i l on = (shows p l).1 (at i) (in_map at i (items_of l.1.1)
        (subst (In i) (ap posting_items_in l.1.2) on))

    post_up : (p i : ℕ) → IsPostLeaf P root p → UpPostLeaf P p i → AtMost items greatest (at i) (g.high_item p)
    post_up p i l up = subst (AtMost items greatest (at i)) (shows p (l.0, (up.0, up.1, up.2))).0
        (posts.up_to_item i up.0 up.3)

    up_post : (p i : ℕ) → IsPostLeaf P root p → AtMost items greatest (at i) (g.high_item p) → UpPostLeaf P p i
    up_post p i l m = (
      l.1.0,
      l.1.1,
      l.1.2,
      to_item_up_to i l.1.0 (subst (AtMost items greatest (at i)) (sym (shows p l).0) m),
    )

    post_order : LeavesInOrder P (IsPostLeaf P root) (OnPostLeaf P) (UpPostLeaf P)
    post_order = leaves_in_order items least greatest (no_less (λ i j. i < j)) (no_more (λ i j. i < j)) (post_nodes P)
        (post_ghost g) v.posts
        v.posts_rooted root top (ap post_place at_root) P (IsPostLeaf P root) (OnPostLeaf P) (UpPostLeaf P) at
        (zero_place g (page_0 n L R P g v shown)).1 post_at at_post
        (λ p l. ap right_in (posts.leaf_node (P p) l.1.0 l.1.1 l.1.2)) post_within post_up up_post (λ k. tt)

  post_leaves : (root : ℕ) → IsRoot P root → root ≢ 1
      → LeavesInOrder P (IsPostLeaf P root) (OnPostLeaf P) (UpPostLeaf P)
  post_leaves root IsRoot.of_entries off = absurd (off refl)
  post_leaves root (IsRoot.of_postings k is) off =
      let top = v.named.is_root is.page root is.entry is.on is.names in
      post_order root top.0 (IsRoot.of_postings k is) top.1

  pub bounds_stand : BoundsStand R P
  bounds_stand = record {
    keys = child_keys;
    items = child_items;
    entry_leaves = entry_leaves;
    post_leaves = post_leaves;
  }
