-- The case of an empty posting leaf that is deleted.
use Rattle.std.proofs.Common.{◌≡◌, ◌≢◌, ◌<◌, ℕ, suc, List, [], ◌∷◌, ◌++◌, refl, sym, ap, subst, ◌∙◌, inl, inr, arith}
use Rattle.page_types.specs.Views.{entries_of, entries_in, posting_items_in}
use Rattle.page_types.specs.declared.page.Page.{Page}
use Rattle.page_types.specs.declared.page.PostChild.{PostChild}
use Rattle.page_types.specs.declared.page.Body.{Body}
use Rattle.page_types.specs.declared.page.Body.TheVariants as body
use Rattle.page_types.specs.declared.page.Gone.TheVariants as gone
use Rattle.page_types.specs.declared.record.Record.{Record}
use Rattle.page_types.specs.declared.record.Kind.TheVariants as kind
use Rattle.core_state.specs.Log.{Log, Pages, In, changed}
use Rattle.core_state.specs.Index.{children_in}
use Rattle.core_state.specs.Changes.{made_with}
use Rattle.core_state.specs.TreeRules.{IsDeletePost}
use Rattle.core_state.specs.Inner.Ghosts.{Place, Ghost, post_place}
use Rattle.core_state.specs.Inner.Ghosts.Place.{unused, left, post}
use Rattle.core_state.specs.Inner.GhostSteps.{deleted_leaf}
use Rattle.core_state.specs.Inner.Kinds.{Fits}
use Rattle.core_state.proofs.PageLists.{same_or_not, in_or_not, in_back, Unlinked, unlinked_pages}
use Rattle.core_state.proofs.Trees.Members.{in_map}
use Rattle.core_state.proofs.Trees.Order.{put_here, put_else}
use Rattle.core_state.proofs.Law.MainPlaces.{MainAt, PostsHold}
use Rattle.core_state.proofs.Law.Places.{place_for}
use Rattle.core_state.proofs.Law.Belows.{step_down}
use Rattle.core_state.proofs.Law.Steps.{Before, Left, CaseOf}
use Rattle.core_state.proofs.Law.SamePages.{not_first}
use Rattle.core_state.proofs.Law.TreeCases.{delete_post_trees}
use Rattle.core_state.proofs.Law.TreeKinds.{TreePage, TreeMoves, tree_case, Taken, Given}
use Rattle.core_state.proofs.Law.TreeViews.{no_items, same_was, same_now, leaf_same, leaf_stays, same_post}
use Rattle.core_state.proofs.Law.TreeViews.{entry_not_post}

-- a posting leaf that keeps its items
pub record LeafKept (P Q : Pages) (p : ℕ) : Type 0 where
  pub high : ℕ
  pub items : List ℕ
  pub was : (P p).body ≡ body.PostLeaf high items
  pub is : (Q p).body ≡ body.PostLeaf high items

left_not_post : (t s k : ℕ) → left t ≡ post s k → ⊥
left_not_post t s k e = cc

module _ (n L : ℕ) (R : Log) (P Q : Pages) (r : Record) (floor since : ℕ) (g : Ghost)
    (b : Before n L R P Q r floor since g) (l : Left n since R P Q r) (some : R ≢ []) (x : IsDeletePost R P Q r)
    (t : ℕ) (at_page : g.place x.here.page ≡ post t 0) where
  abbrev page : ℕ
  page = x.here.page

  abbrev parent : ℕ
  parent = x.here.parent

  abbrev g' : Ghost
  g' = deleted_leaf g page x.here.next.page t

  abbrev u : Unlinked P Q r page parent x.here.old.right x.here.lefts x.here.old
      (made_with r x.here.old.right (body.Deleted (gone.PostLeaf x.here.high []))) x.here.old_parent
      (made_with r x.here.old_parent.right (body.PostInner (x.here.front ++ x.here.next ∷ x.here.back)))
  u = unlinked_pages P Q r page parent x.here.old.right x.here.lefts x.here.lefts_before x.here.lefts_after
      x.here.old _ x.here.old_parent _ (changed r) x.here.unlinked x.here.pages x.here.before_is x.here.after_is

  page_was : (P page).body ≡ body.PostLeaf x.here.high []
  page_was = ap (λ (p : Page). p.body) u.was ∙ x.here.empty

  page_is : (Q page).body ≡ body.Deleted (gone.PostLeaf x.here.high [])
  page_is = ap (λ (p : Page). p.body) u.is

  parent_was : (P parent).body ≡ body.PostInner
      (x.here.front ++ record { page = page; bound = x.here.bound } ∷ x.here.next ∷ x.here.back)
  parent_was = ap (λ (p : Page). p.body) u.parent_was ∙ x.here.child

  parent_is : (Q parent).body ≡ body.PostInner (x.here.front ++ x.here.next ∷ x.here.back)
  parent_is = ap (λ (p : Page). p.body) u.parent_is

  -- what becomes of each page
  data PageBy (p : ℕ) : Type 0 where
    is_page : p ≡ page → PageBy p
    is_parent : p ≡ parent → PageBy p
    is_leaf : LeafKept P Q p → PageBy p
    same : Q p ≡ P p → PageBy p

  leaf_by : (p : ℕ) → In p (page ∷ (x.here.lefts ++ parent ∷ [])) → PageBy p
  leaf_by p i = elim u.leaf [
    | inl none ↦ elim (subst (λ (qs : List ℕ). In p (page ∷ (qs ++ parent ∷ []))) none i)
        [ inl e ↦ PageBy.is_page e | inr (inl e) ↦ PageBy.is_parent e | inr (inr z) ↦ absurd z ]
    | inr k ↦ elim (subst (λ (qs : List ℕ). In p (page ∷ (qs ++ parent ∷ []))) k.1 i) [
      | inl e ↦ PageBy.is_page e
      | inr (inl e) ↦ subst PageBy (sym e)
          (PageBy.is_leaf (record {
            high = k.2.high;
            items = k.2.items;
            was = k.2.was;
            is = ap
                (λ (q : Page). q.body) k.2.after;
          }))
      | inr (inr (inl e)) ↦ PageBy.is_parent e
      | inr (inr (inr z)) ↦ absurd z
    ]
  ]

  by : (p : ℕ) → PageBy p
  by p = elim (in_or_not p (changed r)) [
    | inl i ↦ leaf_by p (subst (In p) x.here.pages i)
    | inr off ↦ PageBy.same
        (l.elsewhere p off)
  ]

  at_parent : (s : ℕ) × (k : ℕ) × (g.place parent ≡ post s (suc k))
  at_parent = place_for L (g.place parent) (P parent) _ (b.inv.kinds parent) parent_was

  not_page : (p s k : ℕ) → g.place p ≡ post s (suc k) → p ≢ page
  not_page p s k at e = let z : suc k ≡ 0 = (same_post _ _ _ _ (sym at ∙ ap g.place e ∙ at_page)).1 in omega
      (arith, z)

  page_now : g'.place page ≡ left t
  page_now = put_here g.place page (left t)

  else_now : (p : ℕ) → p ≢ page → g'.place p ≡ g.place p
  else_now p off = put_else g.place page (left t) p off

  late : L < (Q page).stamp
  late =
      let e : (Q page).stamp ≡ r.number = ap (λ (p : Page). p.stamp) u.is in
      omega (arith, e, b.number, b.within)

  page_taken : TreePage L P Q g g' page
  page_taken = TreePage.taken (subst Taken (sym at_page) tt) (subst Given (sym page_now) tt)
      (subst (λ (y : Place). Fits L y (Q page)) (sym page_now) (x.here.high, page_is, late))

  each_by : (p : ℕ) → p ≢ page → PageBy p → TreePage L P Q g g' p
  each_by p off (PageBy.is_page e) = absurd (off e)
  each_by p off (PageBy.is_parent e) =
      let at : g.place p ≡ post at_parent.0 (suc at_parent.1) = ap g.place e ∙ at_parent.2 in
      let now : g'.place p ≡ post at_parent.0 (suc at_parent.1) = else_now p off ∙ at in
      TreePage.taken (subst Taken (sym at) tt) (subst Given (sym now) tt)
      (subst (λ (y : Place). Fits L y (Q p)) (sym now)
      (x.here.front ++ x.here.next ∷ x.here.back, ap (λ (z : ℕ). (Q z).body) e ∙ parent_is))
  each_by p off (PageBy.is_leaf k) =
      let at = place_for L (g.place p) (P p) _ (b.inv.kinds p) k.was in
      let now : g'.place p ≡ post at.0 0 = else_now p off ∙ at.1 in
      TreePage.taken (subst Taken (sym at.1) tt) (subst Given (sym now) tt)
      (subst (λ (y : Place). Fits L y (Q p)) (sym now) (k.high, k.items, k.is))
  each_by p off (PageBy.same s) = TreePage.same (else_now p off) s

  each : (p : ℕ) → TreePage L P Q g g' p
  each p = elim (same_or_not page p) [
    | inl e ↦ subst (TreePage L P Q g g')
        (sym e) page_taken
    | inr off ↦ each_by p off (by p)
  ]

  -- entries stay
  entries_by : (q : ℕ) → PageBy q → entries_of (Q q) ≡ entries_of (P q)
  entries_by q (PageBy.is_page e) = subst (λ (z : ℕ). entries_of (Q z) ≡ entries_of (P z)) (sym e)
      (ap entries_in page_is ∙ sym (ap entries_in page_was))
  entries_by q (PageBy.is_parent e) = subst (λ (z : ℕ). entries_of (Q z) ≡ entries_of (P z)) (sym e)
      (ap entries_in parent_is ∙ sym (ap entries_in parent_was))
  entries_by q (PageBy.is_leaf k) = ap entries_in k.is ∙ sym (ap entries_in k.was)
  entries_by q (PageBy.same s) = ap entries_of s

  -- so do items
  items_by : (q : ℕ) → PageBy q → posting_items_in (Q q).body ≡ posting_items_in (P q).body
  items_by q (PageBy.is_page e) = subst (λ (z : ℕ). posting_items_in (Q z).body ≡ posting_items_in (P z).body)
      (sym e) (ap posting_items_in page_is ∙ sym (ap posting_items_in page_was ∙ no_items))
  items_by q (PageBy.is_parent e) = subst (λ (z : ℕ). posting_items_in (Q z).body ≡ posting_items_in (P z).body)
      (sym e) (ap posting_items_in parent_is ∙ sym (ap posting_items_in parent_was))
  items_by q (PageBy.is_leaf k) = ap posting_items_in k.is ∙ sym (ap posting_items_in k.was)
  items_by q (PageBy.same s) = ap (λ (p : Page). posting_items_in p.body) s

  post_back : (q s k : ℕ) → g'.place q ≡ post s k → g.place q ≡ post s k
  post_back q s k at = elim (same_or_not page q) [
    | inl e ↦ absurd (left_not_post t s k (sym page_now ∙ ap g'.place (sym e) ∙ at))
    | inr off ↦ sym (else_now q off) ∙ at
  ]

  leaf_now : (q s i : ℕ) → g.place q ≡ post s 0 → In i (posting_items_in (P q).body) → MainAt Q g' (g.key_of s) i
  leaf_now q s i at m = elim (same_or_not page q) [
    | inl e ↦ absurd (subst (In i) (ap posting_items_in page_was ∙ no_items)
        (subst (λ (z : ℕ). In i (posting_items_in (P z).body)) e m))
    | inr off ↦ leaf_stays n R P Q g g' q s i (else_now q off ∙ at) refl (items_by q (by q)) m
  ]

  -- the leaf is no root: its parent is above it, in its tree
  hold : PostsHold L P g
  hold = record { kinds = b.inv.kinds; posts = b.inv.posts; rooted = b.inv.posts_rooted; named = b.inv.named }

  child_there : In page (children_in (P parent).body)
  child_there = subst (λ (c : Body). In page (children_in c)) (sym parent_was)
      (in_map (λ (c : PostChild). c.page) (record { page = page; bound = x.here.bound })
      (x.here.front ++ record { page = page; bound = x.here.bound } ∷ x.here.next ∷ x.here.back)
      (in_back _ x.here.front (record { page = page; bound = x.here.bound } ∷ x.here.next ∷ x.here.back) (inl refl)))

  not_root : (k : ℕ) → g.place page ≡ post page k → ⊥
  not_root k at =
      let down = step_down L P g hold parent page at_parent.0 (suc at_parent.1) at_parent.2 child_there in
      let tree : at_parent.0 ≡ page = (same_post _ _ _ _ (sym down.1 ∙ at)).0 in
      let zero_k : k ≡ 0 = (same_post _ _ _ _ (sym at ∙ at_page)).1 in
      let above = (b.inv.posts_rooted.roots page k (ap post_place at)).highest parent (suc at_parent.1)
      (ap post_place (at_parent.2 ∙ ap (λ (s : ℕ). post s (suc at_parent.1)) tree)) in
      omega (arith, above, zero_k)

  root_on : (s k : ℕ) → g.place s ≡ post s k → (j : ℕ) × (g'.place s ≡ post s j)
  root_on s k at = elim (same_or_not page s) [
    | inl e ↦ absurd (not_root k (subst (λ (z : ℕ). g.place z ≡ post z k) e at))
    | inr off ↦ (k, else_now s off ∙ at)
  ]

  moves : TreeMoves n since L R P Q r g b.inv l g'
  moves = record {
    some = some;
    kind = kind.DeletePost;
    kind_is = x.here.kind_is;
    overflows = tt;
    privates = tt;
    same_line = refl;
    each = each;
    page_1 =
        let h = b.inv.starts.page_1 some in
        (h.0, else_now 1 (λ e. entry_not_post h.0 t 0 (sym h.1 ∙ ap g.place e ∙ at_page)) ∙ h.1);
    lowest = λ p q low free e. else_now p (λ s. unused_not_post (sym e ∙ ap g.place s ∙ at_page)) ∙ e;
    entry_was = λ q e i. same_was n R P Q g g' q e (entries_by q (by q)) i;
    entry_now = λ q e i. same_now n R P Q g g' r q e (entries_by q (by q)) i;
    leaf_was = λ q s i at m. inl (leaf_same n R P Q g g' q s i (post_back q s 0 at) refl (items_by q (by q)) m);
    leaf_now = λ q s i at m. inl (leaf_now q s i at m);
    root_on = root_on;
    root_back = λ s k at. inl (k, post_back s s k at);
  }
    where
      unused_not_post : unused ≡ post t 0 → ⊥
      unused_not_post e = cc

pub delete_post_case : CaseOf (λ R P Q r floor since. IsDeletePost R P Q r)
delete_post_case n L R P Q r floor since g b l x =
    let some = not_first R r kind.DeletePost b.started x.here.kind_is (λ e. cc) in
    let k = delete_post_trees n L R P Q r floor since g b l x in (
      deleted_leaf g x.here.page x.here.next.page k.0,
      tree_case n since L R P Q r g b.inv l
          (deleted_leaf g x.here.page x.here.next.page k.0) k.2 (moves n L R P Q r floor since g b l some x k.0 k.1),
    )
