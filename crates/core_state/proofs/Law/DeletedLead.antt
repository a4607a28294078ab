-- A leaf that was deleted since a kept pin leads along right links to what was after it.
use Rattle.std.proofs.Common.{◌≡◌, ◌⊎◌, ◌<◌, ◌≤◌, ℕ, suc, List, [], ◌∷◌, ◌++◌, length, map, refl, sym, ap, subst, ◌∙◌}
use Rattle.std.proofs.Common.{inl, inr}
use Rattle.page_types.specs.Items.{items_of}
use Rattle.page_types.specs.declared.page.Page.{Page}
use Rattle.page_types.specs.declared.page.Body.{Body}
use Rattle.page_types.specs.declared.page.Body.TheVariants as body
use Rattle.page_types.specs.declared.page.Gone.{Gone}
use Rattle.page_types.specs.declared.page.Gone.TheVariants as gone
use Rattle.page_types.specs.declared.record.Record.{Record}
use Rattle.core_state.specs.Log.{Log, Pages, In, Shows, changed}
use Rattle.core_state.specs.Index.{Below, children_in}
use Rattle.core_state.specs.Changes.{made_with}
use Rattle.core_state.specs.TreeRules.{TowardItem, IsDeletePost}
use Rattle.core_state.specs.Bullets.{Rightward, StoodFrom}
use Rattle.core_state.specs.Trees.Ext.{Ext}
use Rattle.core_state.specs.Trees.Ext.Ext.{least, at, greatest}
use Rattle.core_state.specs.Trees.Nodes as nodes
use Rattle.core_state.specs.Trees.Nodes.{AtMost}
use Rattle.core_state.specs.Trees.TreeNodes.{high_bound, post_nodes}
use Rattle.core_state.specs.Inner.Ghosts.{Place, Ghost, post_place, post_ghost}
use Rattle.core_state.specs.Inner.Ghosts.Place.{unused, meta, heap, line, past, shifted, left, entry, post, overflow_of}
use Rattle.core_state.specs.Inner.Ghosts.Place.{private_of}
use Rattle.core_state.specs.Inner.Kinds.{Fits}
use Rattle.core_state.proofs.PageLists.{Unlinked, unlinked_pages}
use Rattle.core_state.proofs.Trees.Order.{same_tree, at_most_less}
use Rattle.core_state.proofs.Trees.FromNodes.{leaf_shows}
use Rattle.core_state.proofs.Trees.Orders.{items, nat_order, ext_top}
use Rattle.core_state.proofs.Trees.PostViews.{leaf_node, toward_low}
use Rattle.core_state.proofs.Trees.Walk.{IsIn}
use Rattle.core_state.proofs.Trees.Steps.{step_stays}
use Rattle.core_state.proofs.Trees.InnerStays.{step_inner, step_left}
use Rattle.core_state.proofs.Trees.Behinds.{behind, forward_falls}
use Rattle.core_state.proofs.Law.Places.{place_for}
use Rattle.core_state.proofs.Law.Invariant.{Inv}
use Rattle.core_state.proofs.Law.Steps.{After}
use Rattle.core_state.proofs.Law.OneStep.{page_0}
use Rattle.core_state.proofs.Law.Belows.{post_is}
use Rattle.core_state.proofs.Law.BelowBounds.{child_step, descend}
use Rattle.core_state.proofs.Law.EntryBounds.{entry_below}
use Rattle.core_state.proofs.Law.TreeFields.{post_places}
use Rattle.core_state.proofs.Law.Lists.{Listed, zero_place}
use Rattle.core_state.proofs.Law.Bounded.{posts_hold}
use Rattle.core_state.proofs.Law.LeavesLead.{above_high, item_leaf, begins_leads}

left_is : (x : Place) (r : ℕ) → post_place x ≡ nodes.TreePlace.left r → x ≡ left r
left_is (left s) r e = cc
left_is (post s k) r e = absurd (cc)
left_is (entry k) r e = absurd (cc)
left_is unused r e = absurd (cc)
left_is meta r e = absurd (cc)
left_is heap r e = absurd (cc)
left_is line r e = absurd (cc)
left_is past r e = absurd (cc)
left_is shifted r e = absurd (cc)
left_is (overflow_of i) r e = absurd (cc)
left_is (private_of i) r e = absurd (cc)

-- the leaf p is left of a tree and begins at `low` at most; the page above it is one of the tree, and begins where it
-- did
pub record IsLeft (g : Ghost) (p root : ℕ) (low low_root : Ext ℕ) : Type 0 where
  pub tree : ℕ
  pub at_page : g.place p ≡ left tree
  pub low_page : AtMost items greatest (g.low_item p) low
  pub above : (root ≡ p) ⊎ ((h : ℕ) × (g.place root ≡ post tree (suc h)) × (g.low_item root ≡ low_root))

-- what is known since the leaf was deleted
pub record LeftSince (then : Pages) (g : Ghost) (p root : ℕ) : Type 0 where
  pub low : Ext ℕ
  pub low_root : Ext ℕ
  pub is_left : IsLeft g p root low low_root
  pub stood : (i : ℕ) → StoodFrom then root p i → items.less low_root (at i) → items.less low (at i)

-- nothing is below a deleted page but itself
no_below : (P : Pages) (r q : ℕ) (c : Gone) → (P r).body ≡ body.Deleted c → Below P r q → q ≡ r
no_below P r q c e Below.root = refl
no_below P r q c e (Below.child {p = y} b i) =
    let same = no_below P r y c e b in
    absurd (subst (λ (x : Body). In q (children_in x)) (ap (λ (z : ℕ). (P z).body) same ∙ e) i)

module _ (n L : ℕ) (R : Log) (P : Pages) (g : Ghost) (v : Inv n L R P g) where
  -- the parent of a page of a posting tree is an inner page of it, and so is what is above
  one_up : (y q t k : ℕ) → In q (children_in (P y).body) → g.place q ≡ post t k → (h : ℕ) × (g.place y ≡ post t (suc h))
  one_up y q t k i e = go (P y).body refl
    where
      go : (c : Body) → (P y).body ≡ c → (h : ℕ) × (g.place y ≡ post t (suc h))
      go (body.PostInner cs) f =
          let x = place_for L (g.place y) (P y) (body.PostInner cs) (v.kinds y) f in
          let c = child_step L P g (posts_hold n L R P g v) y q x.0 (suc x.1) x.2 i in
          let same = (same_tree x.0 t c.0 k (sym (ap post_place c.2) ∙ ap post_place e)).0 in
          (x.1, x.2 ∙ ap (λ (z : ℕ). post z (suc x.1)) same)
      go (body.EntryInner cs) f =
          let x = place_for L (g.place y) (P y) (body.EntryInner cs) (v.kinds y) f in
          let z = entry_below L P g v.kinds v.entries v.entries_rooted y (suc x.0) q x.1 (Below.child Below.root i) in
          absurd (clash z.0 (sym z.1 ∙ e))
        where
          clash : (a : ℕ) → entry a ≡ post t k → ⊥
          clash a e = cc
      go body.Free f = absurd (subst (λ (x : Body). In q (children_in x)) f i)
      go (body.Meta a c d) f = absurd (subst (λ (x : Body). In q (children_in x)) f i)
      go (body.Heap a) f = absurd (subst (λ (x : Body). In q (children_in x)) f i)
      go (body.Overflow a) f = absurd (subst (λ (x : Body). In q (children_in x)) f i)
      go (body.Pending a) f = absurd (subst (λ (x : Body). In q (children_in x)) f i)
      go (body.EntryLeaf a c) f = absurd (subst (λ (x : Body). In q (children_in x)) f i)
      go (body.PostLeaf a c) f = absurd (subst (λ (x : Body). In q (children_in x)) f i)
      go (body.Deleted a) f = absurd (subst (λ (x : Body). In q (children_in x)) f i)

  pub ascend : (r q t k : ℕ) → Below P r q → g.place q ≡ post t k → (r ≡ q) ⊎ ((h : ℕ) × (g.place r ≡ post t (suc h)))
  ascend r q t k Below.root e = inl refl
  ascend r q t k (Below.child {p = y} b i) e =
      let u = one_up y q t k i e in
      elim (ascend r y t (suc u.0) b u.1) [ inl z ↦ inr (u.0, ap g.place z ∙ u.1) | inr z ↦ inr z ]

  -- a leaf that is left leads to each item that was after it
  pub left_leads : Listed P g → (then : Pages) (p root : ℕ) → LeftSince then g p root → (q i high : ℕ) (is : List ℕ)
      → Below P root q → (P q).body ≡ body.PostLeaf high is
      → In i (items_of is) → StoodFrom then root p i → Rightward P p q
  left_leads l then p root k q i high is below b m stood = elim k.is_left.above [
    | inl e ↦ absurd (no_page (subst (λ (z : ℕ). Below P z q) e below))
    | inr a ↦
        let down = descend L P g (posts_hold n L R P g v) root q k.is_left.tree (suc a.0) a.1 below in
        let leaf = place_for L (g.place q) (P q) (body.PostLeaf high is) (v.kinds q) b in
        let at_q : (post_ghost g).place q ≡ nodes.TreePlace.tree k.is_left.tree 0 = ap post_place leaf.1
        ∙ ap (λ (z : ℕ). nodes.TreePlace.tree z 0)
        (same_tree leaf.0 k.is_left.tree 0 down.0 (sym (ap post_place leaf.1) ∙ ap post_place down.1)).0 in
        let on_q = item_leaf n L R P g v k.is_left.tree q high is i at_q b m in
        let low_root = subst (λ (z : Ext ℕ). items.less z (at i)) a.2
        (at_most_less items greatest (g.low_item root) (g.low_item q) (at i) down.2 on_q.0) in
        begins_leads n L R P g v (behind l.post_list) (forward_falls (post_nodes P) (post_ghost g) l.post_list l.posts)
        k.is_left.tree p q high is i at_q b m
        (record {
          leaf = inr (ap post_place k.is_left.at_page);
          low =
              at_most_less items greatest (g.low_item p) k.low (at i) k.is_left.low_page (k.stood i stood low_root);
        })
  ]
    where
      deleted : Fits L (left k.is_left.tree) (P p)
      deleted = subst (λ (x : Place). Fits L x (P p)) k.is_left.at_page (v.kinds p)

      no_page : Below P p q → ⊥
      no_page c = clash (sym deleted.1
          ∙ ap (λ (z : ℕ). (P z).body) (sym (no_below P p q (gone.PostLeaf deleted.0 []) deleted.1 c)) ∙ b)
        where
          clash : body.Deleted (gone.PostLeaf deleted.0 []) ≡ body.PostLeaf high is → ⊥
          clash e = cc

-- one record more
module _ (n L : ℕ) (R : Log) (P Q : Pages) (r : Record) (g : Ghost) (v : Inv n L R P g) (shown : Shows R P)
    (a : After n L R P Q r g) where
  nil : (post_ghost g).place 0 ≡ nodes.TreePlace.none
  nil = (zero_place g (page_0 n L R P g v shown)).1

  root_on : (root t h : ℕ) → g.place root ≡ post t (suc h) → (i : ℕ) × (a.ghost.place root ≡ post t (suc i))
      × (a.ghost.low_item root ≡ g.low_item root)
  root_on root t h e =
      let s = step_inner items least greatest (ext_top nat_order) tt (post_nodes P) (post_nodes Q)
      (post_ghost g) v.posts nil (post_ghost a.ghost) a.case.trees.posts.0 root t h (ap post_place e) in
      (s.0, post_is (a.ghost.place root) t (suc s.0) s.1, s.2)

  left_on : (p root : ℕ) (low low_root : Ext ℕ) → IsLeft g p root low low_root → IsLeft a.ghost p root low low_root
  left_on p root low low_root k =
      let s = step_left items least greatest (ext_top nat_order) tt (post_nodes P) (post_nodes Q)
      (post_ghost g) v.posts nil (post_ghost a.ghost) a.case.trees.posts.0 p k.tree (ap post_place k.at_page) in
      record {
        tree = k.tree;
        at_page = left_is (a.ghost.place p) k.tree s.0;
        low_page = subst (λ (z : Ext ℕ). AtMost items greatest z low) (sym s.1) k.low_page;
        above = elim k.above [
          | inl e ↦ inl e
          | inr x ↦ let y = root_on root k.tree x.0 x.1 in inr (y.0, y.1, y.2 ∙ x.2)
        ];
      }

  pub since_on : (then : Pages) (p root : ℕ) → LeftSince then g p root → LeftSince then a.ghost p root
  since_on then p root k = record {
    low = k.low;
    low_root = k.low_root;
    is_left =
        left_on p root k.low k.low_root k.is_left;
    stood = k.stood;
  }

  -- the leaf is deleted by this record
  module _ (V : IsDeletePost R P Q r) (since : ℕ) (bound : (since ≤ L) ⊎ (L ≡ length R)) (root : ℕ)
      (below : Below P root V.here.page) where
    abbrev page : ℕ
    page = V.here.page

    row : Unlinked P Q r page V.here.parent V.here.old.right V.here.lefts V.here.old
        (made_with r V.here.old.right (body.Deleted (gone.PostLeaf V.here.high []))) V.here.old_parent
        (made_with r V.here.old_parent.right (body.PostInner (V.here.front ++ V.here.next ∷ V.here.back)))
    row = unlinked_pages P Q r page V.here.parent V.here.old.right V.here.lefts V.here.lefts_before V.here.lefts_after
        V.here.old _
        V.here.old_parent _ (changed r) V.here.unlinked V.here.pages V.here.before_is V.here.after_is

    was_leaf : (P page).body ≡ body.PostLeaf V.here.high []
    was_leaf = ap (λ (x : Page). x.body) row.was ∙ V.here.empty

    at_leaf : (t : ℕ) × (g.place page ≡ post t 0)
    at_leaf = place_for L (g.place page) (P page) (body.PostLeaf V.here.high []) (v.kinds page) was_leaf

    above : (root ≡ page) ⊎ ((h : ℕ) × (g.place root ≡ post at_leaf.0 (suc h)))
    above = ascend n L R P g v root page at_leaf.0 0 below at_leaf.1

    now_place : IsIn (post_ghost a.ghost) at_leaf.0 page → a.ghost.place page ≡ left at_leaf.0
    now_place (inr e) = left_is (a.ghost.place page) at_leaf.0 e
    now_place (inl e) =
        absurd (not_live (a.ghost.place page) at_leaf.0 e.0 (post_is (a.ghost.place page) at_leaf.0 e.0 e.1)
        (place_for L (a.ghost.place page) (Q page) (body.Deleted (gone.PostLeaf V.here.high [])) (a.inv.kinds page)
        (ap (λ (x : Page). x.body) row.is)))
      where
        not_live : (x : Place) (t h : ℕ) → x ≡ post t h → (x ≡ past)
            ⊎ (((x ≡ shifted) ⊎ ((s : ℕ) × (x ≡ left s))) × (L < (Q page).stamp)) → ⊥
        not_live x t h e (inl f) = cc
        not_live x t h e (inr (inl f, s)) = cc
        not_live x t h e (inr (inr (s, f), l)) = cc

    is_left : IsLeft a.ghost page root (g.low_item page) (g.low_item root)
    is_left =
        let s = step_stays items least greatest (ext_top nat_order) tt (post_nodes P) (post_nodes Q)
        (post_ghost g) v.posts nil (post_ghost a.ghost) a.case.trees.posts.0 page at_leaf.0
        (inl (0, ap post_place at_leaf.1)) in
        record {
          tree = at_leaf.0;
          at_page = now_place s.0;
          low_page = s.1;
          above = elim above [ inl e ↦ inl e | inr x ↦ inr (root_on root at_leaf.0 x.0 x.1) ];
        }

    shows : (high_bound V.here.high ≡ g.high_item page)
    shows = (leaf_shows items least greatest (post_nodes P) (post_nodes P) (post_ghost g) v.posts page at_leaf.0
        (P page).right (high_bound V.here.high) (map at (items_of [])) (ap post_place at_leaf.1)
        (leaf_node (P page) V.here.high [] was_leaf)).0

    same_high : (high : ℕ) (is : List ℕ) → (P page).body ≡ body.PostLeaf high is → high ≡ V.here.high
    same_high high is e = same high V.here.high is [] (sym e ∙ was_leaf)
      where
        same : (x y : ℕ) (xs ys : List ℕ) → body.PostLeaf x xs ≡ body.PostLeaf y ys → x ≡ y
        same x y xs ys e = cc

    toward_stood : (i : ℕ) → TowardItem P i root page → items.less (g.low_item root) (at i) → (root ≡ page)
        ⊎ ((h : ℕ) × (g.place root ≡ post at_leaf.0 (suc h))) → items.less (g.low_item page) (at i)
    toward_stood i w l (inl e) = subst (λ (z : ℕ). items.less (g.low_item z) (at i)) e l
    toward_stood i w l (inr x) =
        (toward_low P since (post_ghost g) v.posts (post_places L P g v.kinds R since v.starts bound) i root page
        at_leaf.0 (suc x.0) w (ap post_place x.1) l).1

    stood : (i : ℕ) → StoodFrom P root page i → items.less (g.low_item root) (at i)
        → items.less (g.low_item page) (at i)
    stood i (inl w) l = toward_stood i w l above
    stood i (inr (high, is, e, off)) l =
        items.trans (g.low_item page) (g.high_item page) (at i)
        (v.posts.span page at_leaf.0 0 (ap post_place at_leaf.1))
        (subst (λ (z : Ext ℕ). items.less z (at i)) (ap high_bound (same_high high is e) ∙ shows)
        (above_high i high off))

    pub now_left : LeftSince P a.ghost page root
    now_left = record { low = g.low_item page; low_root = g.low_item root; is_left = is_left; stood = stood }
