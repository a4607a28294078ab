-- The case of items that come to a leaf of a posting tree.
use Rattle.std.proofs.Common.{◌≡◌, ◌≢◌, ◌⊎◌, ℕ, refl, sym, ap, subst, ◌∙◌, inl, inr}
use Rattle.ts_base.specs.Keys.{Key}
use Rattle.page_types.specs.Items.{items_of}
use Rattle.page_types.specs.Views.{entries_of, posting_items_in}
use Rattle.page_types.specs.declared.page.Page.{Page}
use Rattle.page_types.specs.declared.page.Body.TheVariants as body
use Rattle.page_types.specs.declared.record.Record.{Record}
use Rattle.page_types.specs.declared.record.Kind.TheVariants as kind
use Rattle.core_state.specs.Log.{Log, Pages, In, changed}
use Rattle.core_state.specs.Index.{Pending}
use Rattle.core_state.specs.Changes.{made_with}
use Rattle.core_state.specs.TreeRules.{IsAddPostings}
use Rattle.core_state.specs.Trees.Ext.{Ext}
use Rattle.core_state.specs.Trees.Ext.Ext.{at}
use Rattle.core_state.specs.Inner.Ghosts.{Place, Ghost, post_place, post_ghost}
use Rattle.core_state.specs.Inner.Ghosts.Place.{post}
use Rattle.core_state.specs.Inner.Kinds.{Fits}
use Rattle.core_state.proofs.PageLists.{same_or_not, one_page}
use Rattle.core_state.proofs.Trees.Orders.{items}
use Rattle.core_state.proofs.Trees.PostViews.{toward_low}
use Rattle.core_state.proofs.Law.MainPlaces.{MainAt}
use Rattle.core_state.proofs.Law.Places.{place_for}
use Rattle.core_state.proofs.Law.Belows.{post_is}
use Rattle.core_state.proofs.Law.Steps.{Before, Left, CaseOf}
use Rattle.core_state.proofs.Law.SamePages.{not_first}
use Rattle.core_state.proofs.Law.TreeFields.{post_places}
use Rattle.core_state.proofs.Law.TreeCases.{add_postings_trees}
use Rattle.core_state.proofs.Law.TreeKinds.{TreePage, TreeMoves, tree_case, Taken, Given}
use Rattle.core_state.proofs.Law.TreeViews.{body_items, post_entries, same_was, same_now, leaf_same, leaf_stays}
use Rattle.core_state.proofs.Law.TreeViews.{same_post}

module _ (n L : ℕ) (R : Log) (P Q : Pages) (r : Record) (floor since : ℕ) (g : Ghost)
    (b : Before n L R P Q r floor since g) (l : Left n since R P Q r) (x : IsAddPostings R P Q r) where
  abbrev page : ℕ
  page = x.here.page

  was : P page ≡ x.here.old
  was = one_page P (changed r) page x.here.old x.here.pages x.here.before_is

  is : Q page ≡ made_with r x.here.old.right (body.PostLeaf x.here.high x.here.new_list)
  is = one_page Q (changed r) page _ x.here.pages x.here.after_is

  body_was : (P page).body ≡ body.PostLeaf x.here.high x.here.old_list
  body_was = ap (λ (p : Page). p.body) was ∙ x.here.was

  items_were : posting_items_in (P page).body ≡ items_of x.here.old_list
  items_were = body_items (P page) _ body_was

  items_are : posting_items_in (Q page).body ≡ items_of x.here.new_list
  items_are = ap (λ (p : Page). posting_items_in p.body) is

  -- the leaf is one of the root's tree
  root_at : (h : ℕ) × (g.place x.rest.root ≡ post x.rest.root h)
  root_at = b.inv.named.is_root x.rest.named.page x.rest.root x.rest.named.entry x.rest.named.on x.rest.named.names

  root_key : g.key_of x.rest.root ≡ x.rest.key
  root_key = b.inv.named.key x.rest.named.page x.rest.root x.rest.named.entry x.rest.named.on x.rest.named.names
      ∙ x.rest.named.key

  at_leaf : (s : ℕ) × (g.place page ≡ post s 0)
  at_leaf = place_for L (g.place page) (P page) _ (b.inv.kinds page) body_was

  below_root : (j : ℕ) × (g.place page ≡ post x.rest.root j)
  below_root =
      let some = x.here.added.adds in
      let low = b.inv.posts_rooted.low x.rest.root root_at.0 (ap post_place root_at.1) in
      let found = toward_low P since (post_ghost g) b.inv.posts
      (post_places L P g b.inv.kinds R since b.inv.starts b.since_is) some.0 x.rest.root page x.rest.root
      root_at.0
      (x.rest.place some.0 some.1) (ap post_place root_at.1)
      (subst (λ (z : Ext ℕ). items.less z (at some.0)) (sym low) tt) in
      (found.0.0, post_is (g.place page) x.rest.root found.0.0 found.0.1)

  at_page : g.place page ≡ post x.rest.root 0
  at_page = at_leaf.1 ∙ ap (λ (s : ℕ). post s 0) (same_post _ _ _ _ (sym at_leaf.1 ∙ below_root.1)).0

  others : (q : ℕ) → q ≢ page → Q q ≡ P q
  others q off = l.elsewhere q (λ i. elim (subst (In q) x.here.pages i) [ inl e ↦ off e | inr z ↦ z ])

  fits_now : Fits L (post x.rest.root 0) (Q page)
  fits_now = (x.here.high, x.here.new_list, ap (λ (p : Page). p.body) is)

  each : (p : ℕ) → TreePage L P Q g g p
  each p = elim (same_or_not page p) [
    | inr off ↦ TreePage.same refl (others p off)
    | inl e ↦ subst (TreePage L P Q g g) (sym e)
        (TreePage.taken (subst Taken (sym at_page) tt) (subst Given (sym at_page) tt)
        (subst (λ (y : Place). Fits L y (Q page)) (sym at_page) fits_now))
  ]

  -- entries stay
  entries_same : (q : ℕ) → entries_of (Q q) ≡ entries_of (P q)
  entries_same q = elim (same_or_not page q) [
    | inr off ↦ ap entries_of (others q off)
    | inl e ↦ subst (λ (z : ℕ). entries_of (Q z) ≡ entries_of (P z)) (sym e)
        (post_entries L x.rest.root 0 (Q page) fits_now
        ∙ sym (post_entries L x.rest.root 0 (P page)
        (subst (λ (y : Place). Fits L y (P page)) at_page (b.inv.kinds page))))
  ]

  one_tree : (q s : ℕ) → q ≡ page → g.place q ≡ post s 0 → x.rest.root ≡ s
  one_tree q s e place = (same_post _ _ _ _ (sym at_page ∙ ap g.place (sym e) ∙ place)).0

  leaf_was : (q s i : ℕ) → g.place q ≡ post s 0 → In i (posting_items_in (Q q).body)
      → MainAt P g (g.key_of s) i ⊎ Pending P (g.key_of s) i
  leaf_was q s i place m = elim (same_or_not page q) [
    | inr off ↦ inl (leaf_same n R P Q g g q s i place refl
        (ap (λ (p : Page). posting_items_in p.body) (others q off)) m)
    | inl e ↦ elim ((x.here.added.just i).0
        (subst (In i) items_are (subst (λ (z : ℕ). In i (posting_items_in (Q z).body)) e m))) [
          | inl old ↦ inl (MainAt.posted q s place refl
              (subst (λ (z : ℕ). In i (posting_items_in (P z).body)) (sym e) (subst (In i) (sym items_were) old)))
          | inr new ↦ inr (subst (λ (k : Key). Pending P k i) (sym root_key ∙ ap g.key_of (one_tree q s e place))
              (x.rest.rows i new))
        ]
  ]

  leaf_now : (q s i : ℕ) → g.place q ≡ post s 0 → In i (posting_items_in (P q).body) → MainAt Q g (g.key_of s) i
  leaf_now q s i place m = elim (same_or_not page q) [
    | inr off ↦ leaf_stays n R P Q g g q s i place refl (ap (λ (p : Page). posting_items_in p.body) (others q off)) m
    | inl e ↦ MainAt.posted q s place refl
        (subst (λ (z : ℕ). In i (posting_items_in (Q z).body)) (sym e) (subst (In i) (sym items_are)
        ((x.here.added.just i).1
        (inl (subst (In i) items_were (subst (λ (z : ℕ). In i (posting_items_in (P z).body)) e m))))))
  ]

  moves : TreeMoves n since L R P Q r g b.inv l g
  moves =
      let some = not_first R r kind.AddPostings b.started x.here.kind_is (λ e. cc) in
      record {
        some = some;
        kind = kind.AddPostings;
        kind_is = x.here.kind_is;
        overflows = tt;
        privates = tt;
        same_line = refl;
        each = each;
        page_1 = b.inv.starts.page_1 some;
        lowest = λ p q low free e. e;
        entry_was = λ q e i. same_was n R P Q g g q e (entries_same q) i;
        entry_now = λ q e i. same_now n R P Q g g r q e (entries_same q) i;
        leaf_was = leaf_was;
        leaf_now = λ q s i place m. inl (leaf_now q s i place m);
        root_on = λ s h place. (h, place);
        root_back = λ s h place. inl (h, place);
      }

pub add_postings_case : CaseOf (λ R P Q r floor since. IsAddPostings R P Q r)
add_postings_case n L R P Q r floor since g b l x = (
  g,
  tree_case n since L R P Q r g b.inv l g (add_postings_trees n L R P Q r floor since g b l x)
      (moves n L R P Q r floor since g b l x),
)
