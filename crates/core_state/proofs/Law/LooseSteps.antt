-- Records that change no page of a tree.
use Rattle.std.proofs.Common.{◌≡◌, ◌≢◌, ◌⊎◌, ℕ, List, [], refl, sym, ap, subst, ◌∙◌, inl}
use Rattle.std.proofs.Math.Path.{fun_ext}
use Rattle.ts_base.specs.Keys.{Key}
use Rattle.page_types.specs.Views.{entries_of, entries_in, posting_items_in}
use Rattle.page_types.specs.declared.page.Page.{Page}
use Rattle.page_types.specs.declared.page.Entry.{Entry}
use Rattle.page_types.specs.declared.page.Body.{Body}
use Rattle.page_types.specs.declared.page.Body.TheVariants as body
use Rattle.page_types.specs.declared.record.Record.{Record}
use Rattle.core_state.specs.Log.{Log, Pages, In}
use Rattle.core_state.specs.Trees.Nodes as nodes
use Rattle.core_state.specs.Trees.TreeNodes.{entry_node, post_node}
use Rattle.core_state.specs.Inner.Ghosts.{Place, Ghost, entry_place, post_place, entry_ghost, post_ghost}
use Rattle.core_state.specs.Inner.Ghosts.Place.{entry, post}
use Rattle.core_state.specs.Inner.Kinds.{Fits, KindsFit}
use Rattle.core_state.specs.Inner.Owners.{ItemsOwned, TreesNamed}
use Rattle.core_state.proofs.Trees.Steps.{Grows, Step}
use Rattle.core_state.proofs.Law.MainPlaces.{MainAt}
use Rattle.core_state.proofs.Law.Invariant.{Inv}
use Rattle.core_state.proofs.Law.Places.{place_for}
use Rattle.core_state.proofs.Law.OwnersStay.{items_stay}
use Rattle.core_state.proofs.Law.Steps.{Left, TreesStep, Departs}

-- a place in no tree
pub record Loose (x : Place) : Type 0 where
  pub entry : entry_place x ≡ nodes.TreePlace.none
  pub post : post_place x ≡ nodes.TreePlace.none

-- a page of such a place has no entries
pub no_entries : (L : ℕ) (x : Place) (p : Page) → Fits L x p → entry_place x ≡ nodes.TreePlace.none → entries_of p ≡ []
no_entries L x p f e = go p.body refl
  where
    go : (c : Body) → p.body ≡ c → entries_of p ≡ []
    go (body.EntryLeaf high es) s =
        let at : x ≡ entry 0 = place_for L x p (body.EntryLeaf high es) f s in
        absurd (let z : nodes.TreePlace.tree 1 0 ≡ nodes.TreePlace.none = sym (ap entry_place at) ∙ e in cc)
    go body.Free s = ap entries_in s
    go (body.Meta first last count) s = ap entries_in s
    go (body.Heap slots) s = ap entries_in s
    go (body.Overflow bytes) s = ap entries_in s
    go (body.Pending rows) s = ap entries_in s
    go (body.EntryInner children) s = ap entries_in s
    go (body.PostLeaf high is) s = ap entries_in s
    go (body.PostInner children) s = ap entries_in s
    go (body.Deleted gone) s = ap entries_in s

tree_not_loose : (x : Place) (r h : ℕ) → Loose x → x ≡ post r h → ⊥
tree_not_loose x r h l e =
    let z : nodes.TreePlace.tree r h ≡ nodes.TreePlace.none = sym (ap post_place e) ∙ l.post in cc

module _ (n since L : ℕ) (R : Log) (P Q : Pages) (r : Record) (g : Ghost) (v : Inv n L R P g)
    (l : Left n since R P Q r) (f : ℕ → Place) (ln : List ℕ) where
  -- a page is the same in its place, or has another place in no tree
  pub data PageNow (p : ℕ) : Type 0 where
    same : f p ≡ g.place p → Q p ≡ P p → PageNow p
    loose : Loose (g.place p) → Loose (f p) → Fits L (f p) (Q p) → PageNow p

  -- the ghosts after the record
  abbrev pub ghost_now : Ghost
  ghost_now = record g { place = f; line = ln }

  module _ (each : (p : ℕ) → PageNow p) where
    fits_now : (p : ℕ) → PageNow p → Fits L (f p) (Q p)
    fits_now p (PageNow.same e s) = subst (λ (q : Page). Fits L (f p) q) (sym s)
        (subst (λ (x : Place). Fits L x (P p)) (sym e) (v.kinds p))
    fits_now p (PageNow.loose a b t) = t

    pub kinds_now : KindsFit L Q ghost_now
    kinds_now p = fits_now p (each p)

    entry_same : (p : ℕ) → PageNow p → entry_place (f p) ≡ entry_place (g.place p)
    entry_same p (PageNow.same e s) = ap entry_place e
    entry_same p (PageNow.loose a b t) = b.entry ∙ sym a.entry

    post_same : (p : ℕ) → PageNow p → post_place (f p) ≡ post_place (g.place p)
    post_same p (PageNow.same e s) = ap post_place e
    post_same p (PageNow.loose a b t) = b.post ∙ sym a.post

    entries_ghost : entry_ghost ghost_now ≡ entry_ghost g
    entries_ghost = ap (λ (h : ℕ → nodes.TreePlace). record { place = h; low = g.low_key; high = g.high_key })
        (fun_ext (λ p. entry_same p (each p)))

    posts_ghost : post_ghost ghost_now ≡ post_ghost g
    posts_ghost = ap (λ (h : ℕ → nodes.TreePlace). record { place = h; low = g.low_item; high = g.high_item })
        (fun_ext (λ p. post_same p (each p)))

    entry_quiet : (p : ℕ) → PageNow p → entry_place (g.place p) ≢ nodes.TreePlace.none
        → entry_node (Q p) ≡ entry_node (P p)
    entry_quiet p (PageNow.same e s) n = ap entry_node s
    entry_quiet p (PageNow.loose a b t) n = absurd (n a.entry)

    post_quiet : (p : ℕ) → PageNow p → post_place (g.place p) ≢ nodes.TreePlace.none → post_node (Q p) ≡ post_node (P p)
    post_quiet p (PageNow.same e s) n = ap post_node s
    post_quiet p (PageNow.loose a b t) n = absurd (n a.post)

    pub trees_now : TreesStep n R P Q g ghost_now
    trees_now = record {
      entries = (Grows.quiet (λ p m. entry_quiet p (each p) m) entries_ghost, λ k. tt);
      posts = (Step.grows (Grows.quiet (λ p m. post_quiet p (each p) m) posts_ghost), λ k m. tt);
      key_of = λ s h e. refl;
    }

    -- a posting page is the same in its place
    pub post_on : (p s h : ℕ) → PageNow p → g.place p ≡ post s h → (f p ≡ post s h) × (Q p ≡ P p)
    post_on p s h (PageNow.same e q) at = (e ∙ at, q)
    post_on p s h (PageNow.loose a b t) at = absurd (tree_not_loose (g.place p) s h a at)

    pub post_back : (p s h : ℕ) → PageNow p → f p ≡ post s h → (g.place p ≡ post s h) × (Q p ≡ P p)
    post_back p s h (PageNow.same e q) at = (sym e ∙ at, q)
    post_back p s h (PageNow.loose a b t) at = absurd (tree_not_loose (f p) s h b at)

    -- entries are the same
    entries_back : (q : ℕ) (e : Entry) → PageNow q → In e (entries_of (Q q)) → In e (entries_of (P q))
    entries_back q e (PageNow.same s p) i = subst (λ (x : Page). In e (entries_of x)) p i
    entries_back q e (PageNow.loose a b t) i = absurd (subst (In e) (no_entries L (f q) (Q q) t b.entry) i)

    entries_on : (q : ℕ) (e : Entry) → PageNow q → In e (entries_of (P q)) → In e (entries_of (Q q))
    entries_on q e (PageNow.same s p) i = subst (λ (x : Page). In e (entries_of x)) (sym p) i
    entries_on q e (PageNow.loose a b t) i = absurd
        (subst (In e) (no_entries L (g.place q) (P q) (v.kinds q) a.entry) i)

    pub named_now : TreesNamed Q ghost_now
    named_now = record {
      is_root = λ q s e i is.
          let h = v.named.is_root q s e (entries_back q e (each q) i) is in
          (h.0, (post_on s s h.0 (each s) h.1).0);
      key = λ q s e i is. v.named.key q s e (entries_back q e (each q) i) is;
      named = λ s h at.
          let by = v.named.named s h (post_back s s h (each s) at).0 in
          (by.0, by.1, entries_on by.0 by.1 (each by.0) by.2, by.3);
    }

    pub main_now : (k : Key) (i : ℕ) → MainAt P g k i → MainAt Q ghost_now k i ⊎ Departs n R P r i
    main_now k i (MainAt.listed q e bytes on key is there) =
        inl (MainAt.listed q e bytes (entries_on q e (each q) on) key is there)
    main_now k i (MainAt.posted q s at key there) =
        let now = post_on q s 0 (each q) at in
        inl (MainAt.posted q s now.0 key (subst (λ (x : Page). In i (posting_items_in x.body)) (sym now.1) there))

    pub items_now : ItemsOwned Q ghost_now
    items_now = items_stay n since L R P Q r g v l ghost_now
        (λ q i e bytes on is there. inl (MainAt.listed q e bytes (entries_back q e (each q) on) refl is there))
        (λ q s i at there.
        let was = post_back q s 0 (each q) at in
        inl (MainAt.posted q s was.0 refl (subst (λ (x : Page). In i (posting_items_in x.body)) was.1 there)))
