-- The case of an entry whose list becomes a posting tree.
use Rattle.std.proofs.Common.{◌≡◌, ◌≢◌, ◌⊎◌, ◌<◌, ℕ, [], ◌∷◌, ◌++◌, refl, sym, ap, subst, ◌∙◌, inl, inr}
use Rattle.page_types.specs.Items.{items_of}
use Rattle.page_types.specs.Views.{entries_of, posting_items_in}
use Rattle.page_types.specs.declared.page.Page.{Page}
use Rattle.page_types.specs.declared.page.Entry.{Entry}
use Rattle.page_types.specs.declared.page.Postings.TheVariants.{Inline, Root}
use Rattle.page_types.specs.declared.page.Body.TheVariants as body
use Rattle.page_types.specs.declared.record.Record.{Record}
use Rattle.page_types.specs.declared.record.Kind.TheVariants as kind
use Rattle.core_state.specs.Log.{Log, Pages, In, changed}
use Rattle.core_state.specs.Changes.{made_with}
use Rattle.core_state.specs.TreeRules.{IsMakeTree}
use Rattle.core_state.specs.Inner.Ghosts.{Place, Ghost}
use Rattle.core_state.specs.Inner.Ghosts.Place.{unused, entry, post}
use Rattle.core_state.specs.Inner.GhostSteps.{made_tree}
use Rattle.core_state.specs.Inner.Kinds.{Fits}
use Rattle.core_state.proofs.PageLists.{same_or_not, two_pages, in_front, in_back, in_either}
use Rattle.core_state.proofs.Trees.Order.{put_here, put_else}
use Rattle.core_state.proofs.Law.MainPlaces.{MainAt, PostsHold}
use Rattle.core_state.proofs.Law.Places.{place_for}
use Rattle.core_state.proofs.Law.Belows.{root_of}
use Rattle.core_state.proofs.Law.Steps.{Before, Left, CaseOf}
use Rattle.core_state.proofs.Law.SamePages.{not_first}
use Rattle.core_state.proofs.Law.NewPlaces.{Nowhere, nowhere_loose, nowhere_not, new_nowhere, new_not_1, none_lower}
use Rattle.core_state.proofs.Law.LooseSteps.{no_entries}
use Rattle.core_state.proofs.Law.TreeCases.{make_tree_trees}
use Rattle.core_state.proofs.Law.TreeKinds.{TreePage, EntryWas, EntryNow, TreeMoves, tree_case, Taken, Given}
use Rattle.core_state.proofs.Law.TreeViews.{body_entries, same_was, same_now, leaf_same, leaf_stays, same_post}
use Rattle.core_state.proofs.Law.TreeViews.{entry_not_post}

pub nowhere_taken : (x : Place) → Nowhere x → Taken x
nowhere_taken x (inl e) = subst Taken (sym e) tt
nowhere_taken x (inr e) = subst Taken (sym e) tt

module _ (n L : ℕ) (R : Log) (P Q : Pages) (r : Record) (floor since : ℕ) (g : Ghost)
    (b : Before n L R P Q r floor since g) (l : Left n since R P Q r) (some : R ≢ [])
    (x : IsMakeTree R P Q r since) where
  abbrev page : ℕ
  page = x.here.page

  abbrev new : ℕ
  new = x.here.new

  abbrev g' : Ghost
  g' = made_tree g new x.here.key

  abbrev old_entry : Entry
  old_entry = record { key = x.here.key; postings = Inline x.here.items }

  abbrev new_entry : Entry
  new_entry = record { key = x.here.key; postings = Root new }

  was : (P page ≡ x.here.old) × (P new ≡ x.here.was)
  was = two_pages P (changed r) page new x.here.old x.here.was x.here.pages x.here.before_is

  is : (Q page ≡ made_with r x.here.old.right (body.EntryLeaf x.here.high (x.here.front ++ new_entry ∷ x.here.back)))
      × (Q new ≡ made_with r 0 (body.PostLeaf 0 x.here.items))
  is = two_pages Q (changed r) page new _ _ x.here.pages x.here.after_is

  body_was : (P page).body ≡ body.EntryLeaf x.here.high (x.here.front ++ old_entry ∷ x.here.back)
  body_was = ap (λ (p : Page). p.body) was.0 ∙ x.here.inline

  entries_were : entries_of (P page) ≡ x.here.front ++ old_entry ∷ x.here.back
  entries_were = body_entries (P page) _ body_was

  entries_are : entries_of (Q page) ≡ x.here.front ++ new_entry ∷ x.here.back
  entries_are = ap entries_of is.0

  items_are : posting_items_in (Q new).body ≡ items_of x.here.items
  items_are = ap (λ (p : Page). posting_items_in p.body) is.1

  at_page : g.place page ≡ entry 0
  at_page = place_for L (g.place page) (P page) _ (b.inv.kinds page) body_was

  nowhere : Nowhere (g.place new)
  nowhere = new_nowhere L since R P g b.inv.kinds b.inv.starts b.since_is new x.here.is_new

  not_page : page ≢ new
  not_page e = nowhere_not (g.place new) (entry 0) nowhere (λ z. cc) (λ z. cc) (ap g.place (sym e) ∙ at_page)

  others : (q : ℕ) → q ≢ page → q ≢ new → Q q ≡ P q
  others q off new_off = l.elsewhere q
      (λ i. elim (subst (In q) x.here.pages i) [ inl e ↦ off e | inr (inl e) ↦ new_off e | inr (inr z) ↦ z ])

  -- a page of a posting tree isn't the new one, nor the leaf
  post_off : (q s h : ℕ) → g.place q ≡ post s h → (q ≢ page) × (q ≢ new)
  post_off q s h at = (
    λ e. entry_not_post 0 s h (sym at_page ∙ ap g.place (sym e) ∙ at),
    λ e. nowhere_not (g.place new) (post s h) nowhere (λ z. cc) (λ z. cc) (ap g.place (sym e) ∙ at),
  )

  post_on : (q s h : ℕ) → g.place q ≡ post s h → g'.place q ≡ post s h
  post_on q s h at = put_else g.place new (post new 0) q (post_off q s h at).1 ∙ at

  hold : PostsHold L P g
  hold = record { kinds = b.inv.kinds; posts = b.inv.posts; rooted = b.inv.posts_rooted; named = b.inv.named }

  key_on : (q s h : ℕ) → g.place q ≡ post s h → g'.key_of s ≡ g.key_of s
  key_on q s h at = let top = root_of L P g hold q s h at in put_else g.key_of new x.here.key s
      (post_off s s top.0 top.1).1

  new_at : g'.place new ≡ post new 0
  new_at = put_here g.place new (post new 0)

  new_key : g'.key_of new ≡ x.here.key
  new_key = put_here g.key_of new x.here.key

  page_at : g'.place page ≡ entry 0
  page_at = put_else g.place new (post new 0) page not_page ∙ at_page

  each : (p : ℕ) → TreePage L P Q g g' p
  each p = elim (same_or_not page p) [
    | inl e ↦ subst (TreePage L P Q g g') (sym e)
        (TreePage.taken (subst Taken (sym at_page) tt) (subst Given (sym page_at) tt)
        (subst (λ (y : Place). Fits L y (Q page)) (sym page_at)
        (x.here.high, x.here.front ++ new_entry ∷ x.here.back, ap (λ (q : Page). q.body) is.0)))
    | inr off ↦ elim (same_or_not new p) [
      | inl e ↦ subst (TreePage L P Q g g') (sym e)
          (TreePage.taken (nowhere_taken (g.place new) nowhere) (subst Given (sym new_at) tt)
          (subst (λ (y : Place). Fits L y (Q new)) (sym new_at) (0, x.here.items, ap (λ (q : Page). q.body) is.1)))
      | inr fresh ↦ TreePage.same (put_else g.place new (post new 0) p fresh) (others p off fresh)
    ]
  ]

  -- the new page has no entries, before and after
  new_entries : (e : Entry) → In e (entries_of (Q new)) → ⊥
  new_entries e i = subst (In e) (ap entries_of is.1) i

  new_had_none : (e : Entry) → In e (entries_of (P new)) → ⊥
  new_had_none e i = subst (In e)
      (no_entries L (g.place new) (P new) (b.inv.kinds new) (nowhere_loose (g.place new) nowhere).entry) i

  in_now : In new_entry (entries_of (Q page))
  in_now = subst (In new_entry) (sym entries_are)
      (in_back new_entry x.here.front (new_entry ∷ x.here.back) (inl refl))

  was_in : (e : Entry) → In e x.here.front ⊎ In e x.here.back → In e (entries_of (P page))
  was_in e i = subst (In e) (sym entries_were)
      (elim i [ inl f ↦ in_front e x.here.front _ f | inr k ↦ in_back e x.here.front _ (inr k) ])

  is_in : (e : Entry) → In e x.here.front ⊎ In e x.here.back → In e (entries_of (Q page))
  is_in e i = subst (In e) (sym entries_are)
      (elim i [ inl f ↦ in_front e x.here.front _ f | inr k ↦ in_back e x.here.front _ (inr k) ])

  entry_was : (q : ℕ) (e : Entry) → In e (entries_of (Q q)) → EntryWas P g g' e
  entry_was q e i = elim (same_or_not page q) [
    | inl s ↦ elim (in_either e x.here.front (new_entry ∷ x.here.back)
        (subst (In e) entries_are (subst (λ (z : ℕ). In e (entries_of (Q z))) s i))) [
          | inl f ↦ EntryWas.was page e (was_in e (inl f)) refl refl
          | inr (inl f) ↦ subst (EntryWas P g g') (sym f) (EntryWas.rooted new 0 refl new_at new_key)
          | inr (inr k) ↦ EntryWas.was page e (was_in e (inr k)) refl refl
        ]
    | inr off ↦ elim (same_or_not new q) [
      | inl s ↦ absurd (new_entries e (subst (λ (z : ℕ). In e (entries_of (Q z))) s i))
      | inr fresh ↦ same_was n R P Q g g' q e (ap entries_of (others q off fresh)) i
    ]
  ]

  entry_now : (q : ℕ) (e : Entry) → In e (entries_of (P q)) → EntryNow n R P Q r g' e
  entry_now q e i = elim (same_or_not page q) [
    | inl s ↦ elim (in_either e x.here.front (old_entry ∷ x.here.back)
        (subst (In e) entries_were (subst (λ (z : ℕ). In e (entries_of (P z))) s i))) [
          | inl f ↦ EntryNow.now page e (is_in e (inl f)) refl refl
          | inr (inl f) ↦ subst (EntryNow n R P Q r g') (sym f)
              (EntryNow.listed x.here.items refl
              (λ j m. inl (MainAt.posted new new new_at new_key (subst (In j) (sym items_are) m))))
          | inr (inr k) ↦ EntryNow.now page e (is_in e (inr k)) refl refl
        ]
    | inr off ↦ elim (same_or_not new q) [
      | inl s ↦ absurd (new_had_none e (subst (λ (z : ℕ). In e (entries_of (P z))) s i))
      | inr fresh ↦ same_now n R P Q g g' r q e (ap entries_of (others q off fresh)) i
    ]
  ]

  in_was : In old_entry (entries_of (P page))
  in_was = subst (In old_entry) (sym entries_were)
      (in_back old_entry x.here.front (old_entry ∷ x.here.back) (inl refl))

  leaf_was : (q s i : ℕ) → g'.place q ≡ post s 0 → In i (posting_items_in (Q q).body) → MainAt P g (g'.key_of s) i
  leaf_was q s i at m = elim (same_or_not new q) [
    | inl e ↦
        let root : new ≡ s = (same_post _ _ _ _ (sym new_at ∙ ap g'.place (sym e) ∙ at)).0 in
        MainAt.listed page old_entry x.here.items in_was (sym new_key ∙ ap g'.key_of root) refl
        (subst (In i) items_are (subst (λ (z : ℕ). In i (posting_items_in (Q z).body)) e m))
    | inr fresh ↦
        let old : g.place q ≡ post s 0 = sym (put_else g.place new (post new 0) q fresh) ∙ at in
        leaf_same n R P Q g g' q s i old (sym (key_on q s 0 old))
        (ap (λ (p : Page). posting_items_in p.body) (others q (post_off q s 0 old).0 fresh)) m
  ]

  leaf_now : (q s i : ℕ) → g.place q ≡ post s 0 → In i (posting_items_in (P q).body) → MainAt Q g' (g.key_of s) i
  leaf_now q s i at m =
      let off = post_off q s 0 at in
      leaf_stays n R P Q g g' q s i (post_on q s 0 at) (key_on q s 0 at)
      (ap (λ (p : Page). posting_items_in p.body) (others q off.0 off.1)) m

  root_back : (s h : ℕ) → g'.place s ≡ post s h → ((k : ℕ) × (g.place s ≡ post s k))
      ⊎ ((q : ℕ) × (e : Entry) × In e (entries_of (Q q)) × (e.postings ≡ Root s))
  root_back s h at = elim (same_or_not new s) [
    | inl e ↦ inr (page, new_entry, in_now, ap (λ (z : ℕ). Root z) (sym e))
    | inr fresh ↦ inl (h, sym (put_else g.place new (post new 0) s fresh) ∙ at)
  ]

  lowest : (p q : ℕ) → q < p → g.place q ≡ unused → g.place p ≡ unused → g'.place p ≡ unused
  lowest p q low free e = elim (same_or_not new p) [
    | inl s ↦ absurd (none_lower L since R P Q r g b.inv.kinds b.inv.starts b.since_is some new x.here.is_new q
        (subst (λ (z : ℕ). q < z) s low) free)
    | inr fresh ↦ put_else g.place new (post new 0) p fresh ∙ e
  ]

  moves : TreeMoves n since L R P Q r g b.inv l g'
  moves = record {
    some = some;
    kind = kind.MakeTree;
    kind_is = x.here.kind_is;
    overflows = tt;
    privates = tt;
    same_line = refl;
    each = each;
    page_1 =
        let h = b.inv.starts.page_1 some in (
          h.0,
          put_else g.place new (post new 0) 1
              (λ e. new_not_1 L since R P Q r g b.inv.kinds b.inv.starts b.since_is some new x.here.is_new (sym e))
              ∙ h.1,
        );
    lowest = lowest;
    entry_was = entry_was;
    entry_now = entry_now;
    leaf_was = λ q s i at m. inl (leaf_was q s i at m);
    leaf_now = λ q s i at m. inl (leaf_now q s i at m);
    root_on = λ s h at. (h, post_on s s h at);
    root_back = root_back;
  }

pub make_tree_case : CaseOf (λ R P Q r floor since. IsMakeTree R P Q r since)
make_tree_case n L R P Q r floor since g b l x =
    let some = not_first R r kind.MakeTree b.started x.here.kind_is (λ e. cc) in (
      made_tree g x.here.new x.here.key,
      tree_case n since L R P Q r g b.inv l (made_tree g x.here.new x.here.key)
          (make_tree_trees n L R P Q r floor since g b l x) (moves n L R P Q r floor since g b l some x),
    )
