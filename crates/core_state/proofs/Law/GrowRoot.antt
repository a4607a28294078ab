-- The case of a root that grows.
use Rattle.std.proofs.Common.{◌≡◌, ◌≢◌, ◌<◌, ℕ, zero, suc, List, [], refl, sym, ap, subst, ◌∙◌, inl, inr, arith}
use Rattle.std.specs.Prelude.{⊤}
use Rattle.page_types.specs.Views.{entries_of, posting_items_in}
use Rattle.page_types.specs.declared.page.Page.{Page}
use Rattle.page_types.specs.declared.page.Entry.{Entry}
use Rattle.page_types.specs.declared.page.EntryChild.{EntryChild}
use Rattle.page_types.specs.declared.page.PostChild.{PostChild}
use Rattle.page_types.specs.declared.page.Body.{Body}
use Rattle.page_types.specs.declared.page.Body.TheVariants as body
use Rattle.page_types.specs.declared.record.Record.{Record}
use Rattle.page_types.specs.declared.record.Kind.TheVariants as kind
use Rattle.core_state.specs.Log.{Log, Pages, In, changed}
use Rattle.core_state.specs.Changes.{made_with}
use Rattle.core_state.specs.TreeRules.{OneChild, IsGrowRoot}
use Rattle.core_state.specs.Trees.Nodes.{put}
use Rattle.core_state.specs.Inner.Ghosts.{Place, Ghost}
use Rattle.core_state.specs.Inner.Ghosts.Place.{unused, past, entry, post}
use Rattle.core_state.specs.Inner.GhostSteps.{grown_entries, grown_posts}
use Rattle.core_state.specs.Inner.Kinds.{Fits}
use Rattle.core_state.proofs.PageLists.{same_or_not, two_pages}
use Rattle.core_state.proofs.Trees.Order.{put_here, put_else}
use Rattle.core_state.proofs.Law.MainPlaces.{MainAt}
use Rattle.core_state.proofs.Law.Steps.{Before, Left, TreesStep, Case, CaseOf}
use Rattle.core_state.proofs.Law.SamePages.{not_first}
use Rattle.core_state.proofs.Law.NewPlaces.{Nowhere, nowhere_loose, nowhere_not, new_nowhere, new_not_1, none_lower}
use Rattle.core_state.proofs.Law.LooseSteps.{no_entries}
use Rattle.core_state.proofs.Law.MakeTree.{nowhere_taken}
use Rattle.core_state.proofs.Law.TreeCases.{grow_root_trees}
use Rattle.core_state.proofs.Law.TreeKinds.{TreePage, EntryWas, EntryNow, TreeMoves, tree_case, Taken, Given}
use Rattle.core_state.proofs.Law.TreeViews.{fits_entry, fits_post, post_entries, body_items, body_entries, same_was}
use Rattle.core_state.proofs.Law.TreeViews.{same_now, leaf_same, leaf_stays, same_post, entry_not_post}

-- content of the entry tree, and of a posting tree
abbrev EntryBody : Body → Type 0
EntryBody (body.EntryLeaf high entries) = ⊤
EntryBody (body.EntryInner children) = ⊤
EntryBody _ = ⊥

abbrev PostBody : Body → Type 0
PostBody (body.PostLeaf high is) = ⊤
PostBody (body.PostInner children) = ⊤
PostBody _ = ⊥

entry_body_of : (L h : ℕ) (p : Page) → Fits L (entry h) p → EntryBody p.body
entry_body_of L zero p f = subst EntryBody (sym f.2) tt
entry_body_of L (suc h) p f = subst EntryBody (sym f.1) tt

post_body_of : (L s h : ℕ) (p : Page) → Fits L (post s h) p → PostBody p.body
post_body_of L s zero p f = subst PostBody (sym f.2) tt
post_body_of L s (suc h) p f = subst PostBody (sym f.1) tt

-- the page that the root becomes
entry_inner : (new : ℕ) (a c : Body) → OneChild new a c → EntryBody a
    → (cs : List EntryChild) × (c ≡ body.EntryInner cs)
entry_inner new a c (OneChild.of_leaf high es) e = (_, refl)
entry_inner new a c (OneChild.of_inner cs) e = (_, refl)
entry_inner new a c (OneChild.of_post_leaf high is) e = absurd e
entry_inner new a c (OneChild.of_post_inner cs) e = absurd e

post_inner : (new : ℕ) (a c : Body) → OneChild new a c → PostBody a → (cs : List PostChild) × (c ≡ body.PostInner cs)
post_inner new a c (OneChild.of_leaf high es) e = absurd e
post_inner new a c (OneChild.of_inner cs) e = absurd e
post_inner new a c (OneChild.of_post_leaf high is) e = (_, refl)
post_inner new a c (OneChild.of_post_inner cs) e = (_, refl)

suc_not_zero : (h : ℕ) → suc h ≡ 0 → ⊥
suc_not_zero h e = omega arith

module _ (n L : ℕ) (R : Log) (P Q : Pages) (r : Record) (floor since : ℕ) (g : Ghost)
    (b : Before n L R P Q r floor since g) (l : Left n since R P Q r) (some : R ≢ [])
    (x : IsGrowRoot R P Q r since) where
  abbrev root : ℕ
  root = x.here.root

  abbrev new : ℕ
  new = x.here.new

  was : (P root ≡ x.here.old) × (P new ≡ x.here.was)
  was = two_pages P (changed r) root new x.here.old x.here.was x.here.pages x.here.before_is

  is : (Q root ≡ made_with r x.here.old.right x.here.inner) × (Q new ≡ made_with r 0 x.here.old.body)
  is = two_pages Q (changed r) root new _ _ x.here.pages x.here.after_is

  root_body : (P root).body ≡ x.here.old.body
  root_body = ap (λ (p : Page). p.body) was.0

  moved : (Q new).body ≡ (P root).body
  moved = ap (λ (p : Page). p.body) is.1 ∙ sym root_body

  others : (q : ℕ) → q ≢ root → q ≢ new → Q q ≡ P q
  others q off fresh = l.elsewhere q
      (λ i. elim (subst (In q) x.here.pages i) [ inl e ↦ off e | inr (inl e) ↦ fresh e | inr (inr z) ↦ z ])

  nowhere : Nowhere (g.place new)
  nowhere = new_nowhere L since R P g b.inv.kinds b.inv.starts b.since_is new x.here.is_new

  new_had_none : (e : Entry) → In e (entries_of (P new)) → ⊥
  new_had_none e i = subst (In e)
      (no_entries L (g.place new) (P new) (b.inv.kinds new) (nowhere_loose (g.place new) nowhere).entry) i

  not_1 : 1 ≢ new
  not_1 e = new_not_1 L since R P Q r g b.inv.kinds b.inv.starts b.since_is some new x.here.is_new (sym e)

  -- the root is in y then, and the new page where the root was
  module _ (y y' : Place) (at_root : g.place root ≡ y) (taken : Taken y) (given : Given y) (given' : Given y')
      (not_unused : unused ≢ y) (not_past : past ≢ y)
      (fits_new : Fits L y (Q new)) (fits_root : Fits L y' (Q root)) where
    abbrev f : ℕ → Place
    f = put (put g.place new y) root y'

    not_new : root ≢ new
    not_new e = nowhere_not (g.place new) y nowhere not_unused not_past (ap g.place (sym e) ∙ at_root)

    f_root : f root ≡ y'
    f_root = put_here (put g.place new y) root y'

    f_new : f new ≡ y
    f_new = put_else (put g.place new y) root y' new (λ e. not_new (sym e)) ∙ put_here g.place new y

    f_else : (p : ℕ) → p ≢ root → p ≢ new → f p ≡ g.place p
    f_else p off fresh = put_else (put g.place new y) root y' p off ∙ put_else g.place new y p fresh

    lowest : (p q : ℕ) → q < p → g.place q ≡ unused → g.place p ≡ unused → f p ≡ unused
    lowest p q low free e = elim (same_or_not new p) [
      | inl s ↦ absurd (none_lower L since R P Q r g b.inv.kinds b.inv.starts b.since_is some new x.here.is_new q
          (subst (λ (z : ℕ). q < z) s low) free)
      | inr fresh ↦ elim (same_or_not root p) [
        | inl s ↦ absurd (not_unused (sym e ∙ ap g.place s ∙ at_root))
        | inr off ↦ f_else p off fresh ∙ e
      ]
    ]

    each : (g' : Ghost) → ((p : ℕ) → g'.place p ≡ f p) → (p : ℕ) → TreePage L P Q g g' p
    each g' same p = elim (same_or_not root p) [
      | inl s ↦ subst (TreePage L P Q g g') (sym s)
          (TreePage.taken (subst Taken (sym at_root) taken) (subst Given (sym (same root ∙ f_root)) given')
          (subst (λ (z : Place). Fits L z (Q root)) (sym (same root ∙ f_root)) fits_root))
      | inr off ↦ elim (same_or_not new p) [
        | inl s ↦ subst (TreePage L P Q g g') (sym s)
            (TreePage.taken (nowhere_taken (g.place new) nowhere) (subst Given (sym (same new ∙ f_new)) given)
            (subst (λ (z : Place). Fits L z (Q new)) (sym (same new ∙ f_new)) fits_new))
        | inr fresh ↦ TreePage.same (same p ∙ f_else p off fresh) (others p off fresh)
      ]
    ]

  -- the root of the entry tree
  module _ (h : ℕ) (one : root ≡ 1) (at_1 : g.place 1 ≡ entry h)
      (t : TreesStep n R P Q g (grown_entries g new h)) where
    at_entry : g.place root ≡ entry h
    at_entry = ap g.place one ∙ at_1

    fits_was : Fits L (entry h) (P root)
    fits_was = subst (λ (z : Place). Fits L z (P root)) at_entry (b.inv.kinds root)

    inner_is : (cs : List EntryChild) × ((Q root).body ≡ body.EntryInner cs)
    inner_is =
        let k = entry_inner new x.here.old.body x.here.inner x.here.one_child
        (subst EntryBody root_body (entry_body_of L h (P root) fits_was)) in
        (k.0, ap (λ (p : Page). p.body) is.0 ∙ k.1)

    places : (p : ℕ) → (grown_entries g new h).place p ≡ put (put g.place new (entry h)) root (entry (suc h)) p
    places p = ap (λ (z : ℕ). put (put g.place new (entry h)) z (entry (suc h)) p) (sym one)

    fits_there : Fits L (entry h) (Q new)
    fits_there = fits_entry L h (P root) (Q new) moved fits_was

    entry_was : (q : ℕ) (e : Entry) → In e (entries_of (Q q)) → EntryWas P g (grown_entries g new h) e
    entry_was q e i = elim (same_or_not root q) [
      | inl s ↦ absurd (subst (In e) (body_entries (Q root) _ inner_is.1)
          (subst (λ (z : ℕ). In e (entries_of (Q z))) s i))
      | inr off ↦ elim (same_or_not new q) [
        | inl s ↦ EntryWas.was root e
            (subst (In e) (body_entries (Q new) (P root).body moved)
            (subst (λ (z : ℕ). In e (entries_of (Q z))) s i)) refl refl
        | inr fresh ↦ same_was n R P Q g (grown_entries g new h) q e (ap entries_of (others q off fresh)) i
      ]
    ]

    entry_now : (q : ℕ) (e : Entry) → In e (entries_of (P q)) → EntryNow n R P Q r (grown_entries g new h) e
    entry_now q e i = elim (same_or_not root q) [
      | inl s ↦ EntryNow.now new e
          (subst (In e) (sym (body_entries (Q new) (P root).body moved))
          (subst (λ (z : ℕ). In e (entries_of (P z))) s i)) refl refl
      | inr off ↦ elim (same_or_not new q) [
        | inl s ↦ absurd (new_had_none e (subst (λ (z : ℕ). In e (entries_of (P z))) s i))
        | inr fresh ↦ same_now n R P Q g (grown_entries g new h) r q e (ap entries_of (others q off fresh)) i
      ]
    ]

    post_on : (q s k : ℕ) → g.place q ≡ post s k → ((grown_entries g new h).place q ≡ post s k) × (Q q ≡ P q)
    post_on q s k at =
        let off : q ≢ root = λ e. entry_not_post h s k (sym at_entry ∙ ap g.place (sym e) ∙ at) in
        let fresh : q ≢ new = λ e. nowhere_not (g.place new) (post s k) nowhere (λ z. cc) (λ z. cc)
        (ap g.place (sym e) ∙ at) in (
          places q ∙ put_else (put g.place new (entry h)) root (entry (suc h)) q off
              ∙ put_else g.place new (entry h) q fresh ∙ at,
          others q off fresh,
        )

    post_back : (q s k : ℕ) → (grown_entries g new h).place q ≡ post s k → g.place q ≡ post s k
    post_back q s k at = elim (same_or_not root q) [
      | inl e ↦ absurd (entry_not_post (suc h) s k
          (sym (ap (put (put g.place new (entry h)) root (entry (suc h))) e
          ∙ put_here (put g.place new (entry h)) root (entry (suc h))) ∙ sym (places q) ∙ at))
      | inr off ↦ elim (same_or_not new q) [
        | inl e ↦ absurd (entry_not_post h s k
            (sym (put_else (put g.place new (entry h)) root (entry (suc h)) q off ∙ ap (put g.place new (entry h)) e
            ∙ put_here g.place new (entry h)) ∙ sym (places q) ∙ at))
        | inr fresh ↦ sym (put_else (put g.place new (entry h)) root (entry (suc h)) q off
            ∙ put_else g.place new (entry h) q fresh) ∙ sym (places q) ∙ at
      ]
    ]

    entry_moves : TreeMoves n since L R P Q r g b.inv l (grown_entries g new h)
    entry_moves = record {
      some = some;
      kind = kind.GrowRoot;
      kind_is = x.here.kind_is;
      overflows = tt;
      privates = tt;
      same_line = refl;
      each = each (entry h) (entry (suc h)) at_entry tt tt tt (λ z. cc) (λ z. cc) fits_there inner_is
          (grown_entries g new h) places;
      page_1 = (suc h, put_here (put g.place new (entry h)) 1 (entry (suc h)));
      lowest = λ p q low free e. places p ∙ lowest (entry h) (entry (suc h)) at_entry tt tt tt (λ z. cc)
          (λ z. cc) fits_there inner_is p q low free e;
      entry_was = entry_was;
      entry_now = entry_now;
      leaf_was = λ q s i at m.
          let old = post_back q s 0 at in
          inl (leaf_same n R P Q g (grown_entries g new h) q s i old refl
          (ap (λ (p : Page). posting_items_in p.body) (post_on q s 0 old).1) m);
      leaf_now = λ q s i at m.
          let now = post_on q s 0 at in
          inl (leaf_stays n R P Q g (grown_entries g new h) q s i now.0 refl
          (ap (λ (p : Page). posting_items_in p.body) now.1) m);
      root_on = λ s k at. (k, (post_on s s k at).0);
      root_back = λ s k at. inl (k, post_back s s k at);
    }

    entry_case : Case n L R P Q r g (grown_entries g new h)
    entry_case = tree_case n since L R P Q r g b.inv l (grown_entries g new h) t entry_moves

  -- the root of a posting tree
  module _ (h : ℕ) (at_root : g.place root ≡ post root h) (t : TreesStep n R P Q g (grown_posts g root new h)) where
    abbrev g' : Ghost
    g' = grown_posts g root new h

    post_fits : Fits L (post root h) (P root)
    post_fits = subst (λ (z : Place). Fits L z (P root)) at_root (b.inv.kinds root)

    post_inner_is : (cs : List PostChild) × ((Q root).body ≡ body.PostInner cs)
    post_inner_is =
        let k = post_inner new x.here.old.body x.here.inner x.here.one_child
        (subst PostBody root_body (post_body_of L root h (P root) post_fits)) in
        (k.0, ap (λ (p : Page). p.body) is.0 ∙ k.1)

    post_there : Fits L (post root h) (Q new)
    post_there = fits_post L root h (P root) (Q new) moved post_fits

    root_now : g'.place root ≡ post root (suc h)
    root_now = put_here (put g.place new (post root h)) root (post root (suc h))

    apart : root ≢ new
    apart e = nowhere_not (g.place new) (post root h) nowhere (λ z. cc) (λ z. cc) (ap g.place (sym e) ∙ at_root)

    new_now : g'.place new ≡ post root h
    new_now = put_else (put g.place new (post root h)) root (post root (suc h)) new (λ e. apart (sym e))
        ∙ put_here g.place new (post root h)

    else_now : (q : ℕ) → q ≢ root → q ≢ new → g'.place q ≡ g.place q
    else_now q off fresh = put_else (put g.place new (post root h)) root (post root (suc h)) q off
        ∙ put_else g.place new (post root h) q fresh

    entries_same : (q : ℕ) → entries_of (Q q) ≡ entries_of (P q)
    entries_same q = elim (same_or_not root q) [
      | inl s ↦ subst (λ (z : ℕ). entries_of (Q z) ≡ entries_of (P z)) (sym s)
          (body_entries (Q root) _ post_inner_is.1 ∙ sym (post_entries L root h (P root) post_fits))
      | inr off ↦ elim (same_or_not new q) [
        | inl s ↦ subst (λ (z : ℕ). entries_of (Q z) ≡ entries_of (P z)) (sym s)
            (post_entries L root h (Q new) post_there
            ∙ sym (no_entries L (g.place new) (P new) (b.inv.kinds new)
            (nowhere_loose (g.place new) nowhere).entry))
        | inr fresh ↦ ap entries_of (others q off fresh)
      ]
    ]

    leaf_was : (q s i : ℕ) → g'.place q ≡ post s 0 → In i (posting_items_in (Q q).body) → MainAt P g (g'.key_of s) i
    leaf_was q s i at m = elim (same_or_not root q) [
      | inl e ↦ absurd (suc_not_zero h (same_post _ _ _ _ (sym root_now ∙ ap g'.place (sym e) ∙ at)).1)
      | inr off ↦ elim (same_or_not new q) [
        | inl e ↦
            let same = same_post _ _ _ _ (sym new_now ∙ ap g'.place (sym e) ∙ at) in
            MainAt.posted root s (at_root ∙ ap (post root) same.1 ∙ ap (λ (z : ℕ). post z 0) same.0) refl
            (subst (In i) (body_items (Q new) (P root).body moved)
            (subst (λ (z : ℕ). In i (posting_items_in (Q z).body)) e m))
        | inr fresh ↦ leaf_same n R P Q g g' q s i (sym (else_now q off fresh) ∙ at) refl
            (ap (λ (p : Page). posting_items_in p.body) (others q off fresh)) m
      ]
    ]

    not_fresh : (q s k : ℕ) → g.place q ≡ post s k → q ≢ new
    not_fresh q s k at e = nowhere_not (g.place new) (post s k) nowhere (λ z. cc) (λ z. cc) (ap g.place (sym e) ∙ at)

    leaf_now : (q s i : ℕ) → g.place q ≡ post s 0 → In i (posting_items_in (P q).body) → MainAt Q g' (g.key_of s) i
    leaf_now q s i at m = elim (same_or_not root q) [
      | inl e ↦
          let same = same_post _ _ _ _ (sym at_root ∙ ap g.place (sym e) ∙ at) in
          MainAt.posted new s (new_now ∙ ap (post root) same.1 ∙ ap (λ (z : ℕ). post z 0) same.0) refl
          (subst (In i) (sym (body_items (Q new) (P root).body moved))
          (subst (λ (z : ℕ). In i (posting_items_in (P z).body)) e m))
      | inr off ↦
          let fresh = not_fresh q s 0 at in
          leaf_stays n R P Q g g' q s i (else_now q off fresh ∙ at) refl
          (ap (λ (p : Page). posting_items_in p.body) (others q off fresh)) m
    ]

    root_on : (s k : ℕ) → g.place s ≡ post s k → (j : ℕ) × (g'.place s ≡ post s j)
    root_on s k at = elim (same_or_not root s) [
      | inl e ↦ (suc h, ap g'.place e ∙ root_now ∙ ap (λ (z : ℕ). post z (suc h)) (sym e))
      | inr off ↦ (k, else_now s off (not_fresh s s k at) ∙ at)
    ]

    root_back : (s k : ℕ) → g'.place s ≡ post s k → (j : ℕ) × (g.place s ≡ post s j)
    root_back s k at = elim (same_or_not root s) [
      | inl e ↦ (h, ap g.place e ∙ at_root ∙ ap (λ (z : ℕ). post z h) (sym e))
      | inr off ↦ elim (same_or_not new s) [
        | inl e ↦ absurd (off (sym (same_post _ _ _ _ (sym new_now ∙ ap g'.place (sym e) ∙ at)).0))
        | inr fresh ↦ (k, sym (else_now s off fresh) ∙ at)
      ]
    ]

    post_moves : TreeMoves n since L R P Q r g b.inv l g'
    post_moves = record {
      some = some;
      kind = kind.GrowRoot;
      kind_is = x.here.kind_is;
      overflows = tt;
      privates = tt;
      same_line = refl;
      each = each (post root h) (post root (suc h)) at_root tt tt tt (λ z. cc) (λ z. cc) post_there post_inner_is g'
          (λ p. refl);
      page_1 =
          let k = b.inv.starts.page_1 some in
          (k.0, else_now 1 (λ e. entry_not_post k.0 root h (sym k.1 ∙ ap g.place e ∙ at_root)) not_1 ∙ k.1);
      lowest = λ p q low free e. lowest (post root h) (post root (suc h)) at_root tt tt tt (λ z. cc)
          (λ z. cc) post_there post_inner_is p q low free e;
      entry_was = λ q e i. same_was n R P Q g g' q e (entries_same q) i;
      entry_now = λ q e i. same_now n R P Q g g' r q e (entries_same q) i;
      leaf_was = λ q s i at m. inl (leaf_was q s i at m);
      leaf_now = λ q s i at m. inl (leaf_now q s i at m);
      root_on = root_on;
      root_back = λ s k at. inl (root_back s k at);
    }

    post_case : Case n L R P Q r g g'
    post_case = tree_case n since L R P Q r g b.inv l g' t post_moves

pub grow_root_case : CaseOf (λ R P Q r floor since. IsGrowRoot R P Q r since)
grow_root_case n L R P Q r floor since g b l x =
    let some = not_first R r kind.GrowRoot b.started x.here.kind_is (λ e. cc) in
    elim (grow_root_trees n L R P Q r floor since g b l x) [
      | inl k ↦ (grown_entries g x.here.new k.0, entry_case n L R P Q r floor since g b l some x k.0 k.1 k.2 k.3)
      | inr k ↦ (grown_posts g x.here.root x.here.new k.0, post_case n L R P Q r floor since g b l some x k.0 k.1 k.2)
    ]
