-- The case of a page of a tree that is divided.
use Rattle.std.proofs.Common.{◌≡◌, ◌≢◌, ◌⊎◌, ◌<◌, ℕ, zero, suc, List, [], ◌∷◌, ◌++◌, refl, sym, ap, subst, ◌∙◌, inl}
use Rattle.std.proofs.Common.{inr}
use Rattle.ts_base.specs.Keys.{Key}
use Rattle.page_types.specs.Items.{items_of}
use Rattle.page_types.specs.Views.{entries_of, entries_in, posting_items_in}
use Rattle.page_types.specs.declared.page.Page.{Page}
use Rattle.page_types.specs.declared.page.Entry.{Entry}
use Rattle.page_types.specs.declared.page.EntryChild.{EntryChild}
use Rattle.page_types.specs.declared.page.PostChild.{PostChild}
use Rattle.page_types.specs.declared.page.Body.{Body}
use Rattle.page_types.specs.declared.page.Body.TheVariants as body
use Rattle.page_types.specs.declared.record.Record.{Record}
use Rattle.page_types.specs.declared.record.Kind.TheVariants as kind
use Rattle.core_state.specs.Log.{Log, Pages, In, changed}
use Rattle.core_state.specs.Changes.{made_with}
use Rattle.core_state.specs.TreeRules.{EntryHalves, PostHalves, EntryParent, PostParent, IsDivided, IsSplit}
use Rattle.core_state.specs.Trees.Ext.{Ext}
use Rattle.core_state.specs.Trees.Nodes.{put}
use Rattle.core_state.specs.Trees.TreeNodes.{bound, child_bound}
use Rattle.core_state.specs.Inner.Ghosts.{Place, Ghost}
use Rattle.core_state.specs.Inner.Ghosts.Place.{unused, past, entry, post}
use Rattle.core_state.specs.Inner.GhostSteps.{split_entries, split_posts}
use Rattle.core_state.specs.Inner.Kinds.{Fits}
use Rattle.core_state.proofs.PageLists.{same_or_not, three_pages, in_front, in_back, in_either}
use Rattle.core_state.proofs.Trees.Order.{put_here, put_else}
use Rattle.core_state.proofs.Law.MainPlaces.{MainAt}
use Rattle.core_state.proofs.Law.Places.{place_for}
use Rattle.core_state.proofs.Law.Belows.{root_of}
use Rattle.core_state.proofs.Law.Steps.{Before, Left, TreesStep, Case, CaseOf}
use Rattle.core_state.proofs.Law.SamePages.{not_first}
use Rattle.core_state.proofs.Law.NewPlaces.{Nowhere, nowhere_loose, nowhere_not, new_nowhere, new_not_1, none_lower}
use Rattle.core_state.proofs.Law.LooseSteps.{no_entries}
use Rattle.core_state.proofs.Law.MakeTree.{nowhere_taken}
use Rattle.core_state.proofs.Law.SplitCases.{split_trees}
use Rattle.core_state.proofs.Law.TreeKinds.{TreePage, EntryWas, EntryNow, TreeMoves, tree_case, Taken, Given}
use Rattle.core_state.proofs.Law.TreeViews.{post_entries, same_was, same_now, leaf_same, leaf_stays, same_post}
use Rattle.core_state.proofs.Law.TreeViews.{entry_not_post}

-- what the two parts show of the whole
pub record EntryParts (whole left right : Body) : Type 0 where
  pub in_left : (e : Entry) → In e (entries_in left) → In e (entries_in whole)
  pub in_right : (e : Entry) → In e (entries_in right) → In e (entries_in whole)
  pub in_whole : (e : Entry) → In e (entries_in whole) → In e (entries_in left) ⊎ In e (entries_in right)

entry_parts : (mid : Key) (whole left right : Body) → EntryHalves mid whole left right → EntryParts whole left right
entry_parts mid whole left right (EntryHalves.leaves high front back some_front some_back at_most above) = record {
  in_left = λ e i. in_front e front back i;
  in_right = λ e i. in_back e front back i;
  in_whole = λ e i. in_either e front back i;
}
entry_parts mid whole left right (EntryHalves.inners last front back some is) = record
    { in_left = λ e i. absurd i; in_right = λ e i. absurd i; in_whole = λ e i. absurd i }

pub record PostParts (whole left right : Body) : Type 0 where
  pub in_left : (i : ℕ) → In i (posting_items_in left) → In i (posting_items_in whole)
  pub in_right : (i : ℕ) → In i (posting_items_in right) → In i (posting_items_in whole)
  pub in_whole : (i : ℕ) → In i (posting_items_in whole)
      → In i (posting_items_in left) ⊎ In i (posting_items_in right)

post_parts : (mid : ℕ) (whole left right : Body) → PostHalves mid whole left right → PostParts whole left right
post_parts mid whole left right (PostHalves.leaves high items front back some_front some_back same at_most above) =
    record {
      in_left = λ i m. subst (In i) (sym same) (in_front i (items_of front) (items_of back) m);
      in_right = λ i m. subst (In i) (sym same) (in_back i (items_of front) (items_of back) m);
      in_whole = λ i m. in_either i (items_of front) (items_of back) (subst (In i) same m);
    }
post_parts mid whole left right (PostHalves.inners last front back some is) = record
    { in_left = λ i m. absurd m; in_right = λ i m. absurd m; in_whole = λ i m. absurd m }

leaf_not_inner : (high : Key) (es : List Entry) (cs : List EntryChild) → body.EntryLeaf high es ≡ body.EntryInner cs
    → ⊥
leaf_not_inner high es cs e = cc

post_not_inner : (high : ℕ) (is : List ℕ) (cs : List PostChild) → body.PostLeaf high is ≡ body.PostInner cs → ⊥
post_not_inner high is cs e = cc

-- both parts fit the place of the whole
entry_fits : (L h : ℕ) (mid : Key) (p q o : Page) (whole left right : Body) → EntryHalves mid whole left right
    → p.body ≡ whole → q.body ≡ left → o.body ≡ right → Fits L (entry h) p
    → Fits L (entry h) q × Fits L (entry h) o
entry_fits L zero mid p q o whole left right (EntryHalves.leaves high front back some_front some_back at_most above)
    a c d f = ((mid, front, c), (high, back, d))
entry_fits L (suc h) mid p q o whole left right
    (EntryHalves.leaves high front back some_front some_back at_most above) a c d f = absurd
    (leaf_not_inner high (front ++ back) f.0 (sym a ∙ f.1))
entry_fits L zero mid p q o whole left right (EntryHalves.inners last front back some is) a c d f = absurd
    (leaf_not_inner f.0 f.1 (front ++ last ∷ back) (sym f.2 ∙ a))
entry_fits L (suc h) mid p q o whole left right (EntryHalves.inners last front back some is) a c d f =
    ((front ++ last ∷ [], c), (back, d))

post_fits : (L t h mid : ℕ) (p q o : Page) (whole left right : Body) → PostHalves mid whole left right
    → p.body ≡ whole → q.body ≡ left → o.body ≡ right → Fits L (post t h) p
    → Fits L (post t h) q × Fits L (post t h) o
post_fits L t zero mid p q o whole left right
    (PostHalves.leaves high items front back some_front some_back same at_most above) a c d f =
    ((mid, front, c), (high, back, d))
post_fits L t (suc h) mid p q o whole left right
    (PostHalves.leaves high items front back some_front some_back same at_most above) a c d f = absurd
    (post_not_inner high items f.0 (sym a ∙ f.1))
post_fits L t zero mid p q o whole left right (PostHalves.inners last front back some is) a c d f = absurd
    (post_not_inner f.0 f.1 (front ++ last ∷ back) (sym f.2 ∙ a))
post_fits L t (suc h) mid p q o whole left right (PostHalves.inners last front back some is) a c d f =
    ((front ++ last ∷ [], c), (back, d))

-- the parts of a page of the entry tree, and of a posting tree
pub record EntryDivided (page new : ℕ) (whole left right pb pa : Body) : Type 0 where
  pub mid : Key
  pub halves : EntryHalves mid whole left right
  pub parent : EntryParent page new mid pb pa

pub record PostDivided (page new : ℕ) (whole left right pb pa : Body) : Type 0 where
  pub mid : ℕ
  pub halves : PostHalves mid whole left right
  pub parent : PostParent page new mid pb pa

entry_place_of : (L h : ℕ) (p : Page) (mid : ℕ) (whole left right : Body) → PostHalves mid whole left right
    → p.body ≡ whole → Fits L (entry h) p → ⊥
entry_place_of L zero p mid whole left right
    (PostHalves.leaves high items front back some_front some_back same at_most above) a f = let e : body.PostLeaf
    high items ≡ body.EntryLeaf f.0 f.1 = sym a ∙ f.2 in cc
entry_place_of L (suc h) p mid whole left right
    (PostHalves.leaves high items front back some_front some_back same at_most above) a f = let e : body.PostLeaf
    high items ≡ body.EntryInner f.0 = sym a ∙ f.1 in cc
entry_place_of L zero p mid whole left right (PostHalves.inners last front back some is) a f = let e : body.PostInner
    (front ++ last ∷ back) ≡ body.EntryLeaf f.0 f.1 = sym a ∙ f.2 in cc
entry_place_of L (suc h) p mid whole left right
    (PostHalves.inners last front back some is) a f = let e : body.PostInner
    (front ++ last ∷ back) ≡ body.EntryInner f.0 = sym a ∙ f.1 in cc

post_place_of : (L t h : ℕ) (p : Page) (mid : Key) (whole left right : Body) → EntryHalves mid whole left right
    → p.body ≡ whole → Fits L (post t h) p → ⊥
post_place_of L t zero p mid whole left right (EntryHalves.leaves high front back some_front some_back at_most above)
    a f = let e : body.EntryLeaf high (front ++ back) ≡ body.PostLeaf f.0 f.1 = sym a ∙ f.2 in cc
post_place_of L t (suc h) p mid whole left right
    (EntryHalves.leaves high front back some_front some_back at_most above) a f = let e : body.EntryLeaf high
    (front ++ back) ≡ body.PostInner f.0 = sym a ∙ f.1 in cc
post_place_of L t zero p mid whole left right (EntryHalves.inners last front back some is) a f =
    let e : body.EntryInner (front ++ last ∷ back) ≡ body.PostLeaf f.0 f.1 = sym a ∙ f.2 in cc
post_place_of L t (suc h) p mid whole left right (EntryHalves.inners last front back some is) a f =
    let e : body.EntryInner (front ++ last ∷ back) ≡ body.PostInner f.0 = sym a ∙ f.1 in cc

entry_divided : (L h : ℕ) (p : Page) (page new : ℕ) (whole left right pb pa : Body)
    → IsDivided page new whole left right pb pa → p.body ≡ whole → Fits L (entry h) p
    → EntryDivided page new whole left right pb pa
entry_divided L h p page new whole left right pb pa
    (IsDivided.in_entries mid H E) a f = record { mid = mid; halves = H; parent = E }
entry_divided L h p page new whole left right pb pa (IsDivided.in_postings mid H E) a f = absurd
    (entry_place_of L h p mid whole left right H a f)

post_divided : (L t h : ℕ) (p : Page) (page new : ℕ) (whole left right pb pa : Body)
    → IsDivided page new whole left right pb pa → p.body ≡ whole → Fits L (post t h) p
    → PostDivided page new whole left right pb pa
post_divided L t h p page new whole left right pb pa (IsDivided.in_entries mid H E) a f = absurd
    (post_place_of L t h p mid whole left right H a f)
post_divided L t h p page new whole left right pb pa
    (IsDivided.in_postings mid H E) a f = record { mid = mid; halves = H; parent = E }

module _ (n L : ℕ) (R : Log) (P Q : Pages) (r : Record) (floor since : ℕ) (g : Ghost)
    (b : Before n L R P Q r floor since g) (l : Left n since R P Q r) (some : R ≢ [])
    (x : IsSplit R P Q r since) where
  abbrev page : ℕ
  page = x.here.page

  abbrev new : ℕ
  new = x.here.new

  abbrev parent : ℕ
  parent = x.here.parent

  was : (P page ≡ x.here.old) × (P new ≡ x.here.was) × (P parent ≡ x.here.old_parent)
  was = three_pages P (changed r) page new parent x.here.old x.here.was x.here.old_parent x.here.pages
      x.here.before_is

  is : (Q page ≡ made_with r new x.here.left) × (Q new ≡ made_with r x.here.old.right x.here.right)
      × (Q parent ≡ made_with r x.here.old_parent.right x.here.parent_after)
  is = three_pages Q (changed r) page new parent _ _ _ x.here.pages x.here.after_is

  body_was : (P page).body ≡ x.here.old.body
  body_was = ap (λ (p : Page). p.body) was.0

  body_is : (Q page).body ≡ x.here.left
  body_is = ap (λ (p : Page). p.body) is.0

  new_is : (Q new).body ≡ x.here.right
  new_is = ap (λ (p : Page). p.body) is.1

  parent_was : (P parent).body ≡ x.here.old_parent.body
  parent_was = ap (λ (p : Page). p.body) was.2

  parent_is : (Q parent).body ≡ x.here.parent_after
  parent_is = ap (λ (p : Page). p.body) is.2

  others : (q : ℕ) → q ≢ page → q ≢ new → q ≢ parent → Q q ≡ P q
  others q off fresh up = l.elsewhere q
      (λ i. elim (subst (In q) x.here.pages i)
      [ inl e ↦ off e | inr (inl e) ↦ fresh e | inr (inr (inl e)) ↦ up e | inr (inr (inr z)) ↦ z ])

  nowhere : Nowhere (g.place new)
  nowhere = new_nowhere L since R P g b.inv.kinds b.inv.starts b.since_is new x.here.is_new

  new_had_none : entries_of (P new) ≡ []
  new_had_none = no_entries L (g.place new) (P new) (b.inv.kinds new) (nowhere_loose (g.place new) nowhere).entry

  not_1 : 1 ≢ new
  not_1 e = new_not_1 L since R P Q r g b.inv.kinds b.inv.starts b.since_is some new x.here.is_new (sym e)

  -- a page that was somewhere isn't the new one
  stood : (q : ℕ) (y : Place) → unused ≢ y → past ≢ y → g.place q ≡ y → q ≢ new
  stood q y m k at e = nowhere_not (g.place new) y nowhere m k (ap g.place (sym e) ∙ at)

  module _ (y z : Place) (at_page : g.place page ≡ y) (at_parent : g.place parent ≡ z) (page_off : page ≢ new)
      (parent_off : parent ≢ new) (ty : Taken y) (gy : Given y) (tz : Taken z) (gz : Given z)
      (fits_page : Fits L y (Q page)) (fits_new : Fits L y (Q new)) (fits_parent : Fits L z (Q parent)) where
    each : (g' : Ghost) → ((p : ℕ) → g'.place p ≡ put g.place new y p) → (p : ℕ) → TreePage L P Q g g' p
    each g' same p = elim (same_or_not page p) [
      | inl s ↦
          let now : g'.place page ≡ y = same page ∙ put_else g.place new y page page_off ∙ at_page in
          subst (TreePage L P Q g g') (sym s)
          (TreePage.taken (subst Taken (sym at_page) ty) (subst Given (sym now) gy)
          (subst (λ (w : Place). Fits L w (Q page)) (sym now) fits_page))
      | inr off ↦ elim (same_or_not new p) [
        | inl s ↦
            let now : g'.place new ≡ y = same new ∙ put_here g.place new y in
            subst (TreePage L P Q g g') (sym s)
            (TreePage.taken (nowhere_taken (g.place new) nowhere) (subst Given (sym now) gy)
            (subst (λ (w : Place). Fits L w (Q new)) (sym now) fits_new))
        | inr fresh ↦ elim (same_or_not parent p) [
          | inl s ↦
              let now : g'.place parent ≡ z = same parent ∙ put_else g.place new y parent parent_off ∙ at_parent in
              subst (TreePage L P Q g g') (sym s)
              (TreePage.taken (subst Taken (sym at_parent) tz) (subst Given (sym now) gz)
              (subst (λ (w : Place). Fits L w (Q parent)) (sym now) fits_parent))
          | inr up ↦ TreePage.same (same p ∙ put_else g.place new y p fresh) (others p off fresh up)
        ]
      ]
    ]

  lowest : (y : Place) (p q : ℕ) → q < p → g.place q ≡ unused → g.place p ≡ unused → put g.place new y p ≡ unused
  lowest y p q low free e = elim (same_or_not new p) [
    | inl s ↦ absurd (none_lower L since R P Q r g b.inv.kinds b.inv.starts b.since_is some new x.here.is_new q
        (subst (λ (w : ℕ). q < w) s low) free)
    | inr fresh ↦ put_else g.place new y p fresh ∙ e
  ]

  -- a page of the entry tree
  module _ (h : ℕ) (m : Ext Key) (at_page : g.place page ≡ entry h)
      (t : TreesStep n R P Q g (split_entries g page new h m)) where
    abbrev ge : Ghost
    ge = split_entries g page new h m

    e_was : Fits L (entry h) (P page)
    e_was = subst (λ (w : Place). Fits L w (P page)) at_page (b.inv.kinds page)

    d : EntryDivided page new x.here.old.body x.here.left x.here.right x.here.old_parent.body x.here.parent_after
    d = entry_divided L h (P page) page new _ _ _ _ _ x.here.divided body_was e_was

    parts : EntryParts x.here.old.body x.here.left x.here.right
    parts = entry_parts d.mid _ _ _ d.halves

    e_fits : Fits L (entry h) (Q page) × Fits L (entry h) (Q new)
    e_fits = entry_fits L h d.mid (P page) (Q page) (Q new) _ _ _ d.halves body_was body_is new_is e_was

    e_parent : (k : ℕ) × (g.place parent ≡ entry (suc k))
    e_parent = place_for L (g.place parent) (P parent) _ (b.inv.kinds parent) (parent_was ∙ d.parent.before)

    e_page_off : page ≢ new
    e_page_off = stood page (entry h) (λ w. cc) (λ w. cc) at_page

    e_parent_off : parent ≢ new
    e_parent_off = stood parent (entry (suc e_parent.0)) (λ w. cc) (λ w. cc) e_parent.1

    entry_was : (q : ℕ) (e : Entry) → In e (entries_of (Q q)) → EntryWas P g ge e
    entry_was q e i = elim (same_or_not page q) [
      | inl s ↦ EntryWas.was page e
          (subst (In e) (sym (ap entries_in body_was))
          (parts.in_left e (subst (In e) (ap entries_in body_is) (subst (λ (w : ℕ). In e (entries_of (Q w))) s i))))
          refl refl
      | inr off ↦ elim (same_or_not new q) [
        | inl s ↦ EntryWas.was page e
            (subst (In e) (sym (ap entries_in body_was))
            (parts.in_right e (subst (In e) (ap entries_in new_is)
            (subst (λ (w : ℕ). In e (entries_of (Q w))) s i)))) refl refl
        | inr fresh ↦ elim (same_or_not parent q) [
          | inl s ↦ absurd (subst (In e) (ap entries_in (parent_is ∙ d.parent.after))
              (subst (λ (w : ℕ). In e (entries_of (Q w))) s i))
          | inr up ↦ same_was n R P Q g ge q e (ap entries_of (others q off fresh up)) i
        ]
      ]
    ]

    entry_now : (q : ℕ) (e : Entry) → In e (entries_of (P q)) → EntryNow n R P Q r ge e
    entry_now q e i = elim (same_or_not page q) [
      | inl s ↦ elim (parts.in_whole e
          (subst (In e) (ap entries_in body_was) (subst (λ (w : ℕ). In e (entries_of (P w))) s i))) [
            | inl a ↦ EntryNow.now page e (subst (In e) (sym (ap entries_in body_is)) a) refl refl
            | inr c ↦ EntryNow.now new e (subst (In e) (sym (ap entries_in new_is)) c) refl refl
          ]
      | inr off ↦ elim (same_or_not new q) [
        | inl s ↦ absurd (subst (In e) new_had_none (subst (λ (w : ℕ). In e (entries_of (P w))) s i))
        | inr fresh ↦ elim (same_or_not parent q) [
          | inl s ↦ absurd (subst (In e) (ap entries_in (parent_was ∙ d.parent.before))
              (subst (λ (w : ℕ). In e (entries_of (P w))) s i))
          | inr up ↦ same_now n R P Q g ge r q e (ap entries_of (others q off fresh up)) i
        ]
      ]
    ]

    post_on : (q s k : ℕ) → g.place q ≡ post s k → (ge.place q ≡ post s k) × (Q q ≡ P q)
    post_on q s k at =
        let fresh = stood q (post s k) (λ w. cc) (λ w. cc) at in (
          put_else g.place new (entry h) q fresh ∙ at,
          others q (λ e. entry_not_post h s k (sym at_page ∙ ap g.place (sym e) ∙ at)) fresh
              (λ e. entry_not_post (suc e_parent.0) s k (sym e_parent.1 ∙ ap g.place (sym e) ∙ at)),
        )

    post_back : (q s k : ℕ) → ge.place q ≡ post s k → g.place q ≡ post s k
    post_back q s k at = elim (same_or_not new q) [
      | inl e ↦ absurd (entry_not_post h s k (sym (put_here g.place new (entry h)) ∙ ap ge.place (sym e) ∙ at))
      | inr fresh ↦ sym (put_else g.place new (entry h) q fresh) ∙ at
    ]

    entry_moves : TreeMoves n since L R P Q r g b.inv l ge
    entry_moves = record {
      some = some;
      kind = kind.Split;
      kind_is = x.here.kind_is;
      overflows = tt;
      privates = tt;
      same_line = refl;
      each = each (entry h) (entry (suc e_parent.0)) at_page e_parent.1 e_page_off e_parent_off tt tt tt tt e_fits.0
          e_fits.1 (_, parent_is ∙ d.parent.after) ge (λ p. refl);
      page_1 = let k = b.inv.starts.page_1 some in (k.0, put_else g.place new (entry h) 1 not_1 ∙ k.1);
      lowest = λ p q low free e. lowest (entry h) p q low free e;
      entry_was = entry_was;
      entry_now = entry_now;
      leaf_was = λ q s i at w.
          let old = post_back q s 0 at in
          inl (leaf_same n R P Q g ge q s i old refl
          (ap (λ (p : Page). posting_items_in p.body) (post_on q s 0 old).1) w);
      leaf_now = λ q s i at w.
          let now = post_on q s 0 at in
          inl (leaf_stays n R P Q g ge q s i now.0 refl (ap (λ (p : Page). posting_items_in p.body) now.1) w);
      root_on = λ s k at. (k, (post_on s s k at).0);
      root_back = λ s k at. inl (k, post_back s s k at);
    }

    entry_case : Case n L R P Q r g ge
    entry_case = tree_case n since L R P Q r g b.inv l ge t entry_moves

  -- a page of a posting tree
  module _ (s0 h : ℕ) (m : Ext ℕ) (at_page : g.place page ≡ post s0 h)
      (t : TreesStep n R P Q g (split_posts g page new s0 h m)) where
    abbrev gp : Ghost
    gp = split_posts g page new s0 h m

    p_was : Fits L (post s0 h) (P page)
    p_was = subst (λ (w : Place). Fits L w (P page)) at_page (b.inv.kinds page)

    c : PostDivided page new x.here.old.body x.here.left x.here.right x.here.old_parent.body x.here.parent_after
    c = post_divided L s0 h (P page) page new _ _ _ _ _ x.here.divided body_was p_was

    post_part : PostParts x.here.old.body x.here.left x.here.right
    post_part = post_parts c.mid _ _ _ c.halves

    p_fits : Fits L (post s0 h) (Q page) × Fits L (post s0 h) (Q new)
    p_fits = post_fits L s0 h c.mid (P page) (Q page) (Q new) _ _ _ c.halves body_was body_is new_is p_was

    p_parent : (u : ℕ) × (k : ℕ) × (g.place parent ≡ post u (suc k))
    p_parent = place_for L (g.place parent) (P parent) _ (b.inv.kinds parent) (parent_was ∙ c.parent.before)

    p_page_off : page ≢ new
    p_page_off = stood page (post s0 h) (λ w. cc) (λ w. cc) at_page

    p_parent_off : parent ≢ new
    p_parent_off = stood parent (post p_parent.0 (suc p_parent.1)) (λ w. cc) (λ w. cc) p_parent.2

    new_now : gp.place new ≡ post s0 h
    new_now = put_here g.place new (post s0 h)

    entries_same : (q : ℕ) → entries_of (Q q) ≡ entries_of (P q)
    entries_same q = elim (same_or_not page q) [
      | inl s ↦ subst (λ (w : ℕ). entries_of (Q w) ≡ entries_of (P w)) (sym s)
          (post_entries L s0 h (Q page) p_fits.0 ∙ sym (post_entries L s0 h (P page) p_was))
      | inr off ↦ elim (same_or_not new q) [
        | inl s ↦ subst (λ (w : ℕ). entries_of (Q w) ≡ entries_of (P w)) (sym s)
            (post_entries L s0 h (Q new) p_fits.1 ∙ sym new_had_none)
        | inr fresh ↦ elim (same_or_not parent q) [
          | inl s ↦ subst (λ (w : ℕ). entries_of (Q w) ≡ entries_of (P w)) (sym s)
              (ap entries_in (parent_is ∙ c.parent.after) ∙ sym (ap entries_in (parent_was ∙ c.parent.before)))
          | inr up ↦ ap entries_of (others q off fresh up)
        ]
      ]
    ]

    -- items of the page and of its parent
    old_item : (i s : ℕ) → post s0 h ≡ post s 0 → In i (posting_items_in (P page).body) → MainAt P g (g.key_of s) i
    old_item i s same w = MainAt.posted page s (at_page ∙ same) refl w

    parent_item : (i : ℕ) → In i (posting_items_in (Q parent).body) → ⊥
    parent_item i w = subst (In i) (ap posting_items_in (parent_is ∙ c.parent.after)) w

    parent_had : (i : ℕ) → In i (posting_items_in (P parent).body) → ⊥
    parent_had i w = subst (In i) (ap posting_items_in (parent_was ∙ c.parent.before)) w

    leaf_was : (q s i : ℕ) → gp.place q ≡ post s 0 → In i (posting_items_in (Q q).body) → MainAt P g (gp.key_of s) i
    leaf_was q s i at w = elim (same_or_not new q) [
      | inl e ↦ old_item i s (sym new_now ∙ ap gp.place (sym e) ∙ at)
          (subst (In i) (sym (ap posting_items_in body_was))
          (post_part.in_right i (subst (In i) (ap posting_items_in new_is)
          (subst (λ (v : ℕ). In i (posting_items_in (Q v).body)) e w))))
      | inr fresh ↦
          let old : g.place q ≡ post s 0 = sym (put_else g.place new (post s0 h) q fresh) ∙ at in
          elim (same_or_not page q) [
            | inl e ↦ old_item i s (sym at_page ∙ ap g.place (sym e) ∙ old)
                (subst (In i) (sym (ap posting_items_in body_was))
                (post_part.in_left i (subst (In i) (ap posting_items_in body_is)
                (subst (λ (v : ℕ). In i (posting_items_in (Q v).body)) e w))))
            | inr off ↦ elim (same_or_not parent q) [
              | inl e ↦ absurd (parent_item i (subst (λ (v : ℕ). In i (posting_items_in (Q v).body)) e w))
              | inr up ↦ leaf_same n R P Q g gp q s i old refl
                  (ap (λ (p : Page). posting_items_in p.body) (others q off fresh up)) w
            ]
          ]
    ]

    leaf_now : (q s i : ℕ) → g.place q ≡ post s 0 → In i (posting_items_in (P q).body) → MainAt Q gp (g.key_of s) i
    leaf_now q s i at w =
        let fresh = stood q (post s 0) (λ v. cc) (λ v. cc) at in
        let stays : gp.place q ≡ post s 0 = put_else g.place new (post s0 h) q fresh ∙ at in
        elim (same_or_not page q) [
          | inl e ↦
              let same : post s0 h ≡ post s 0 = sym at_page ∙ ap g.place (sym e) ∙ at in
              elim (post_part.in_whole i
              (subst (In i) (ap posting_items_in body_was)
              (subst (λ (v : ℕ). In i (posting_items_in (P v).body)) e w))) [
                | inl a ↦ MainAt.posted q s stays refl
                    (subst (λ (v : ℕ). In i (posting_items_in (Q v).body)) (sym e)
                    (subst (In i) (sym (ap posting_items_in body_is)) a))
                | inr d ↦ MainAt.posted new s (new_now ∙ same) refl
                    (subst (In i) (sym (ap posting_items_in new_is)) d)
              ]
          | inr off ↦ elim (same_or_not parent q) [
            | inl e ↦ absurd (parent_had i (subst (λ (v : ℕ). In i (posting_items_in (P v).body)) e w))
            | inr up ↦ leaf_stays n R P Q g gp q s i stays refl
                (ap (λ (p : Page). posting_items_in p.body) (others q off fresh up)) w
          ]
        ]

    root_back : (s k : ℕ) → gp.place s ≡ post s k → (j : ℕ) × (g.place s ≡ post s j)
    root_back s k at = elim (same_or_not new s) [
      | inl e ↦
          let top = root_of L P g (record
          { kinds = b.inv.kinds; posts = b.inv.posts; rooted = b.inv.posts_rooted; named = b.inv.named }) page s0
          h at_page in
          let same : s0 ≡ s = (same_post _ _ _ _ (sym new_now ∙ ap gp.place (sym e) ∙ at)).0 in
          absurd (stood s0 (post s0 top.0) (λ v. cc) (λ v. cc) top.1 (same ∙ e))
      | inr fresh ↦ (k, sym (put_else g.place new (post s0 h) s fresh) ∙ at)
    ]

    post_moves : TreeMoves n since L R P Q r g b.inv l gp
    post_moves = record {
      some = some;
      kind = kind.Split;
      kind_is = x.here.kind_is;
      overflows = tt;
      privates = tt;
      same_line = refl;
      each = each (post s0 h) (post p_parent.0 (suc p_parent.1)) at_page p_parent.2 p_page_off p_parent_off tt tt tt
          tt p_fits.0 p_fits.1 (_, parent_is ∙ c.parent.after) gp (λ p. refl);
      page_1 = let k = b.inv.starts.page_1 some in (k.0, put_else g.place new (post s0 h) 1 not_1 ∙ k.1);
      lowest = λ p q low free e. lowest (post s0 h) p q low free e;
      entry_was = λ q e i. same_was n R P Q g gp q e (entries_same q) i;
      entry_now = λ q e i. same_now n R P Q g gp r q e (entries_same q) i;
      leaf_was = λ q s i at w. inl (leaf_was q s i at w);
      leaf_now = λ q s i at w. inl (leaf_now q s i at w);
      root_on = λ s k at. (k, put_else g.place new (post s0 h) s (stood s (post s k) (λ v. cc) (λ v. cc) at) ∙ at);
      root_back = λ s k at. inl (root_back s k at);
    }

    post_case : Case n L R P Q r g gp
    post_case = tree_case n since L R P Q r g b.inv l gp t post_moves

pub split_case : CaseOf (λ R P Q r floor since. IsSplit R P Q r since)
split_case n L R P Q r floor since g b l x =
    let some = not_first R r kind.Split b.started x.here.kind_is (λ e. cc) in
    elim (split_trees n L R P Q r floor since g b l x) [
      | inl k ↦ (
        split_entries g x.here.page x.here.new k.1 (bound k.0),
        entry_case n L R P Q r floor since g b l
            some x k.1 (bound k.0) k.2 k.3,
      )
      | inr k ↦ (
        split_posts g x.here.page x.here.new k.1 k.2 (child_bound k.0),
        post_case n L R P Q r floor since g
            b l some x k.1 k.2 (child_bound k.0) k.3 k.4,
      )
    ]
