-- What a sweep goes by once an empty leaf is deleted: the leaf before it, if there is one, leads on to the next.
use Rattle.std.proofs.Common.{◌≡◌, ◌≢◌, ◌≤◌, ℕ, suc, List, [], ◌∷◌, ◌++◌, map, refl, sym, ap, subst}
use Rattle.std.proofs.Common.{◌∙◌}
use Rattle.std.proofs.Common.{inl, inr, arith}
use Rattle.std.specs.Prelude.{Option, Some, None}
use Rattle.ts_base.specs.Keys.{Key}
use Rattle.page_types.specs.Views.{entries_in, posting_items_in}
use Rattle.page_types.specs.declared.page.Entry.{Entry}
use Rattle.page_types.specs.declared.page.PostChild.{PostChild}
use Rattle.page_types.specs.declared.page.Gone.{Gone}
use Rattle.page_types.specs.declared.page.Body.{Body}
use Rattle.page_types.specs.declared.page.Body.TheVariants as body
use Rattle.page_types.specs.declared.page.Gone.TheVariants as gone
use Rattle.core_state.specs.Log.{Pages, In}
use Rattle.core_state.specs.Index.{Below, Main, IsNamed, children_in}
use Rattle.core_state.specs.PagesTold.{LeavesInOrder, IsEntryLeaf, UpEntryLeaf, IsPostLeaf, OnPostLeaf, UpPostLeaf}
use Rattle.core_state.proofs.PageLists.{same_or_not}
use Rattle.gin_vacuum.specs.Sweeping.{IsDirty, IsDirtyItem, Passed, IsPassed, LeadsOver, AreLeft}
use Rattle.gin_vacuum.specs.Sweeping.{IsLeafAt, IsTreeAt, IsAfter, IsEmptyLeaf, IsAt}
use Rattle.gin_vacuum.specs.declared.deleting.Empty.{Empty}
use Rattle.gin_vacuum.specs.declared.sweeping.Sweeping.{Sweeping}
use Rattle.gin_vacuum.specs.declared.sweeping.Stage.TheVariants as stage
use Rattle.gin_vacuum.proofs.NeverAround.{is_before}

-- the empty leaf is deleted, its parent is left without it, and the leaf before it, if there is one, has its link
pub record LosesLeaf (P Q : Pages) (e : Empty) (parent : ℕ) : Type 0 where
  pub leaf : (P e.page).body ≡ body.PostLeaf e.high []
  pub gone_is : (Q e.page).body ≡ body.Deleted (gone.PostLeaf e.high [])
  pub bound : ℕ
  pub front : List PostChild
  pub next : PostChild
  pub back : List PostChild
  pub parent_was : (P parent).body ≡ body.PostInner (front ++ record { page = e.page; bound = bound } ∷ next ∷ back)
  pub parent_is : (Q parent).body ≡ body.PostInner (front ++ next ∷ back)
  pub others : (q : ℕ) → q ≢ e.page → q ≢ parent → (Q q).body ≡ (P q).body
  pub rights : (q : ℕ) → q ≢ e.page → q ≢ parent → (e.before ≢ 0 → q ≢ e.before) → (Q q).right ≡ (P q).right
  pub linked : e.before ≢ 0 → (Q e.before).right ≡ e.link

not_entry : (b : Body) (high : ℕ) (items : List ℕ) (k : Key) (es : List Entry) → b ≡ body.PostLeaf high items
    → b ≡ body.EntryLeaf k es → ⊥
not_entry b high items k es is e =
    let two : body.PostLeaf high items ≡ body.EntryLeaf k es = sym is ∙ e in let z : ⊥ = cc in z

not_inner : (b : Body) (high : ℕ) (items : List ℕ) (cs : List PostChild) → b ≡ body.PostLeaf high items
    → b ≡ body.PostInner cs → ⊥
not_inner b high items cs is e =
    let two : body.PostLeaf high items ≡ body.PostInner cs = sym is ∙ e in let z : ⊥ = cc in z

not_deleted : (b : Body) (high : ℕ) (items : List ℕ) (g : Gone) → b ≡ body.PostLeaf high items → b ≡ body.Deleted g → ⊥
not_deleted b high items g is e =
    let two : body.PostLeaf high items ≡ body.Deleted g = sym is ∙ e in let z : ⊥ = cc in z

entry_inner : (b : Body) (k : Key) (es : List Entry) (cs : List PostChild) → b ≡ body.EntryLeaf k es
    → b ≡ body.PostInner cs → ⊥
entry_inner b k es cs is e = let two : body.EntryLeaf k es ≡ body.PostInner cs = sym is ∙ e in let z : ⊥ = cc in z

entry_deleted : (b : Body) (k : Key) (es : List Entry) (g : Gone) → b ≡ body.EntryLeaf k es → b ≡ body.Deleted g → ⊥
entry_deleted b k es g is e = let two : body.EntryLeaf k es ≡ body.Deleted g = sym is ∙ e in let z : ⊥ = cc in z

abbrev child_pages : List PostChild → List ℕ
child_pages cs = map (λ (c : PostChild). c.page) cs

-- a child more, and a child fewer
one_more : (q : ℕ) (front : List PostChild) (c : PostChild) (back : List PostChild) → In q (child_pages (front ++ back))
    → In q (child_pages (front ++ c ∷ back))
one_more q [] c back i = inr i
one_more q (d ∷ front) c back (inl e) = inl e
one_more q (d ∷ front) c back (inr i) = inr (one_more q front c back i)

one_fewer : (q : ℕ) (front : List PostChild) (c : PostChild) (back : List PostChild) → q ≢ c.page
    → In q (child_pages (front ++ c ∷ back)) → In q (child_pages (front ++ back))
one_fewer q [] c back off (inl e) = absurd (off e)
one_fewer q [] c back off (inr i) = i
one_fewer q (d ∷ front) c back off (inl e) = inl e
one_fewer q (d ∷ front) c back off (inr i) = inr (one_fewer q front c back off i)

module _ (P Q : Pages) (e : Empty) (parent : ℕ) (x : LosesLeaf P Q e parent) where
  abbrev leaf_child : PostChild
  leaf_child = record { page = e.page; bound = x.bound }

  children_back : (p q : ℕ) → In q (children_in (Q p).body) → In q (children_in (P p).body)
  children_back p q i = elim (same_or_not e.page p) [
    | inl at ↦ absurd (subst (λ (b : Body). In q (children_in b)) (ap (λ (n : ℕ). (Q n).body) at ∙ x.gone_is) i)
    | inr off ↦ elim (same_or_not parent p) [
      | inl at ↦ subst (λ (b : Body). In q (children_in b)) (sym (ap (λ (n : ℕ). (P n).body) at ∙ x.parent_was))
          (one_more q x.front leaf_child (x.next ∷ x.back)
          (subst (λ (b : Body). In q (children_in b)) (ap (λ (n : ℕ). (Q n).body) at ∙ x.parent_is) i))
      | inr apart ↦ subst (λ (b : Body). In q (children_in b)) (x.others p off apart) i
    ]
  ]

  children_then : (p q : ℕ) → q ≢ e.page → In q (children_in (P p).body) → In q (children_in (Q p).body)
  children_then p q not_it i = elim (same_or_not e.page p) [
    | inl at ↦ absurd (subst (λ (b : Body). In q (children_in b)) (ap (λ (n : ℕ). (P n).body) at ∙ x.leaf) i)
    | inr off ↦ elim (same_or_not parent p) [
      | inl at ↦ subst (λ (b : Body). In q (children_in b)) (sym (ap (λ (n : ℕ). (Q n).body) at ∙ x.parent_is))
          (one_fewer q x.front leaf_child (x.next ∷ x.back) not_it
          (subst (λ (b : Body). In q (children_in b)) (ap (λ (n : ℕ). (P n).body) at ∙ x.parent_was) i))
      | inr apart ↦ subst (λ (b : Body). In q (children_in b)) (sym (x.others p off apart)) i
    ]
  ]

  no_child : (p q : ℕ) → In q (children_in (P p).body) → p ≢ e.page
  no_child p q i at = subst (λ (b : Body). In q (children_in b)) (ap (λ (n : ℕ). (P n).body) at ∙ x.leaf) i

  below_back : (r q : ℕ) → Below Q r q → Below P r q
  below_back r _ Below.root = Below.root
  below_back r q (Below.child {p = p} b i) = Below.child (below_back r p b) (children_back p q i)

  below_then : (r q : ℕ) → Below P r q → q ≢ e.page → Below Q r q
  below_then r _ Below.root off = Below.root
  below_then r q (Below.child {p = p} b i) off =
      Below.child (below_then r p b (no_child p q i)) (children_then p q off i)

  -- ── leaves ──

  post_others : (q high : ℕ) (items : List ℕ) → (Q q).body ≡ body.PostLeaf high items
      → (q ≢ e.page) × ((Q q).body ≡ (P q).body)
  post_others q high items is =
      let off : q ≢ e.page = λ at. not_deleted (Q q).body high items _ is (ap (λ (n : ℕ). (Q n).body) at ∙ x.gone_is) in
      (off, x.others q off (λ at. not_inner (Q q).body high items _ is (ap (λ (n : ℕ). (Q n).body) at ∙ x.parent_is)))

  -- no leaf but the one before the deleted one has another link
  post_right : (q high : ℕ) (items : List ℕ) → (Q q).body ≡ body.PostLeaf high items
      → (e.before ≢ 0 → q ≢ e.before) → (Q q).right ≡ (P q).right
  post_right q high items is not_before =
      let o = post_others q high items is in
      x.rights q o.0 (λ at. not_inner (Q q).body high items _ is
      (ap (λ (n : ℕ). (Q n).body) at ∙ x.parent_is)) not_before

  post_back : (root q : ℕ) → IsPostLeaf Q root q → IsPostLeaf P root q
  post_back root q l =
      let o = post_others q l.1.0 l.1.1 l.1.2 in (below_back root q l.0, (l.1.0, l.1.1, sym o.1 ∙ l.1.2))

  pub post_then : (root q : ℕ) → IsPostLeaf P root q → q ≢ e.page → IsPostLeaf Q root q
  post_then root q l off = (
    below_then root q l.0 off,
    (
      l.1.0,
      l.1.1,
      x.others q off (λ at. not_inner (P q).body l.1.0 l.1.1 _ l.1.2 (ap (λ (n : ℕ). (P n).body) at ∙ x.parent_was))
          ∙ l.1.2,
    ),
  )

  module _ (dead : List ℕ) (main : (k : Key) (i : ℕ) → Main Q k i → Main P k i)
      (names : (k : Key) (root : ℕ) → IsNamed P k root → IsNamed Q k root)
      (before_leaf : e.before ≢ 0 → IsPostLeaf P e.root e.before) where
    -- leaves of the entry tree are as they were
    entry_then : (q : ℕ) → IsEntryLeaf P q → ((Q q).body ≡ (P q).body) × ((Q q).right ≡ (P q).right)
    entry_then q l =
        let off : q ≢ e.page = λ at. not_entry (P q).body e.high [] l.0 l.1
        (ap (λ (n : ℕ). (P n).body) at ∙ x.leaf) l.2 in
        let apart : q ≢ parent = λ at. entry_inner (P q).body l.0 l.1 _ l.2
        (ap (λ (n : ℕ). (P n).body) at ∙ x.parent_was) in (
          x.others q off apart,
          x.rights q off apart (λ some at.
              let b = before_leaf some in
              not_entry (P q).body b.1.0 b.1.1 l.0 l.1 (ap (λ (n : ℕ). (P n).body) at ∙ b.1.2) l.2),
        )

    entry_back : (q : ℕ) → IsEntryLeaf Q q → IsEntryLeaf P q
    entry_back q l =
        let off : q ≢ e.page = λ at. entry_deleted (Q q).body l.0 l.1 _ l.2
        (ap (λ (n : ℕ). (Q n).body) at ∙ x.gone_is) in
        let apart : q ≢ parent = λ at. entry_inner (Q q).body l.0 l.1 _ l.2
        (ap (λ (n : ℕ). (Q n).body) at ∙ x.parent_is) in
        (l.0, l.1, sym (x.others q off apart) ∙ l.2)

    leaf_then : (q : ℕ) → IsEntryLeaf P q → IsEntryLeaf Q q
    leaf_then q l = (l.0, l.1, (entry_then q l).0 ∙ l.2)

    up_then : (q : ℕ) (k : Key) → IsEntryLeaf P q → UpEntryLeaf P q k → UpEntryLeaf Q q k
    up_then q k l u = (u.0, u.1, (entry_then q l).0 ∙ u.2, u.3)

    up_back : (q : ℕ) (k : Key) → IsEntryLeaf P q → UpEntryLeaf Q q k → UpEntryLeaf P q k
    up_back q k l u = (u.0, u.1, sym (entry_then q l).0 ∙ u.2, u.3)

    dirty_back : (k : Key) → IsDirty Q dead k → IsDirty P dead k
    dirty_back k d = (d.0, d.1, main k d.0 d.2)

    dirty_item_back : (root i : ℕ) → IsDirtyItem Q dead root i → IsDirtyItem P dead root i
    dirty_item_back root i d =
        let q = d.1.0 in
        let l = d.1.1 in
        let o = post_others q l.1.0 l.1.1 l.1.2 in
        (d.0, (q, post_back root q l, subst (λ (b : Body). In i (posting_items_in b)) o.1 d.1.2))

    passed_then : (page : ℕ) → IsPassed P dead page → IsPassed Q dead page
    passed_then page (Passed.first none) =
        Passed.first (λ q l link.
        let was = entry_back q l in none q was (sym (entry_then q was).1 ∙ link))
    passed_then page (Passed.after q l link clean) =
        Passed.after q (leaf_then q l) ((entry_then q l).1 ∙ link)
        (λ k up d. clean k (up_back q k l up) (dirty_back k d))

    over_then : (page n : ℕ) → LeadsOver P (IsEntryLeaf P) page n → LeadsOver Q (IsEntryLeaf Q) page n
    over_then _ _ LeadsOver.end = LeadsOver.end
    over_then page _ (LeadsOver.next {n = n} l rest) =
        LeadsOver.next (leaf_then page l)
        (subst (λ (r : ℕ). LeadsOver Q (IsEntryLeaf Q) r n) (sym (entry_then page l).1)
        (over_then (P page).right n rest))

    left_then : (link : ℕ) (left : Option ℕ) → AreLeft P (IsEntryLeaf P) link left → AreLeft Q (IsEntryLeaf Q) link left
    left_then link None a = a
    left_then link (Some n) a = (a.0, over_then link a.0 a.1, a.2)

    leaf_at_then : (roots : List ℕ) (next link : ℕ) (left : Option ℕ) (leaf : ℕ)
        → IsLeafAt P dead roots next link left leaf → IsLeafAt Q dead roots next link left leaf
    leaf_at_then roots next link left leaf a =
        let same = entry_then leaf a.is_leaf in
        record {
          is_leaf = leaf_then leaf a.is_leaf;
          passed = passed_then leaf a.passed;
          link_is = same.1 ∙ a.link_is;
          lists = λ d list i on. a.lists d list i (subst (λ (b : Body). In d (entries_in b)) same.0 on);
          named = λ root i. let n = a.named root i in (n.0, names n.0 root n.1);
          all = λ d root on. a.all d root (subst (λ (b : Body). In d (entries_in b)) same.0 on);
          trees = λ root i j d. a.trees root i j (dirty_item_back root j d);
          last = λ z k. up_then leaf k a.is_leaf (a.last z k);
          left = left_then link left a.left;
        }

    tree_at_then : (roots : List ℕ) (next link : ℕ) (left : Option ℕ) (root : ℕ)
        → IsTreeAt P dead roots next link left root → IsTreeAt Q dead roots next link left root
    tree_at_then roots next link left root t = record {
      leaf = t.leaf;
      before = t.before;
      next_is = t.next_is;
      at = leaf_at_then roots t.before link left t.leaf t.at;
      root_is = t.root_is;
    }

    -- ── the tree at work ──

    module _ (not_zero : IsPostLeaf P e.root 0 → ⊥)
        (order : LeavesInOrder P (IsPostLeaf P e.root) (OnPostLeaf P) (UpPostLeaf P))
        (is_leaf : IsPostLeaf P e.root e.page) (y : IsEmptyLeaf P e)
        (after : IsAfter P dead e.root e.before e.page) where
      -- right links lead over so many leaves, and no other number
      same_over : (page n m : ℕ) → LeadsOver P (IsPostLeaf P e.root) page n → LeadsOver P (IsPostLeaf P e.root) page m
          → n ≡ m
      same_over _ _ _ LeadsOver.end LeadsOver.end = refl
      same_over _ _ _ LeadsOver.end (LeadsOver.next l rest) = absurd (not_zero l)
      same_over _ _ _ (LeadsOver.next l rest) LeadsOver.end = absurd (not_zero l)
      same_over page _ _ (LeadsOver.next {n = n} l rest) (LeadsOver.next {n = m} l' rest') =
          ap suc (same_over (P page).right n m rest rest')

      from_leaf : (n : ℕ) → LeadsOver P (IsPostLeaf P e.root) e.page n
          → (m : ℕ) × (n ≡ suc m) × LeadsOver P (IsPostLeaf P e.root) e.link m
      from_leaf n o = go e.page n o refl
        where
          go : (page n : ℕ) → LeadsOver P (IsPostLeaf P e.root) page n → page ≡ e.page
              → (m : ℕ) × (n ≡ suc m) × LeadsOver P (IsPostLeaf P e.root) e.link m
          go _ _ LeadsOver.end at = absurd (not_zero (subst (IsPostLeaf P e.root) (sym at) is_leaf))
          go page _ (LeadsOver.next {n = m} l rest) at = (
            m,
            refl,
            subst (λ (r : ℕ). LeadsOver P (IsPostLeaf P e.root) r m)
                (ap (λ (q : ℕ). (P q).right) at ∙ y.link) rest,
          )

      from_before : (n : ℕ) → e.before ≢ 0 → LeadsOver P (IsPostLeaf P e.root) e.before n
          → (m : ℕ) × (n ≡ suc (suc m)) × LeadsOver P (IsPostLeaf P e.root) e.link m
      from_before n some o = go e.before n o refl
        where
          b : IsPostLeaf P e.root e.before × ((P e.before).right ≡ e.page)
          b = is_before P dead e.root e.before e.page after some

          go : (page n : ℕ) → LeadsOver P (IsPostLeaf P e.root) page n → page ≡ e.before
              → (m : ℕ) × (n ≡ suc (suc m)) × LeadsOver P (IsPostLeaf P e.root) e.link m
          go _ _ LeadsOver.end at = absurd (not_zero (subst (IsPostLeaf P e.root) (sym at) b.0))
          go page _ (LeadsOver.next {n = k} l rest) at =
              let f = from_leaf k (subst (λ (r : ℕ). LeadsOver P (IsPostLeaf P e.root) r k)
              (ap (λ (q : ℕ). (P q).right) at ∙ b.1) rest) in
              (f.0, ap suc f.1, f.2)

      -- the leaves to come are neither the deleted one nor the one before it
      posts_over : (all page n : ℕ) → LeadsOver P (IsPostLeaf P e.root) e.link all → n ≤ all
          → LeadsOver P (IsPostLeaf P e.root) page n → LeadsOver Q (IsPostLeaf Q e.root) page n
      posts_over all _ _ o le LeadsOver.end = LeadsOver.end
      posts_over all page _ o le (LeadsOver.next {n = n} l rest) =
          let off : page ≢ e.page = λ at.
          let f = from_leaf (suc n)
          (subst (λ (r : ℕ). LeadsOver P (IsPostLeaf P e.root) r (suc n)) at (LeadsOver.next l rest)) in
          let s = same_over e.link f.0 all f.2 o in omega (arith, le, f.1, s) in
          let not_before : e.before ≢ 0 → page ≢ e.before = λ some at.
          let f = from_before (suc n) some
          (subst (λ (r : ℕ). LeadsOver P (IsPostLeaf P e.root) r (suc n)) at (LeadsOver.next l rest)) in
          let s = same_over e.link f.0 all f.2 o in omega (arith, le, f.1, s) in
          let leaf = post_then e.root page l off in
          LeadsOver.next leaf
          (subst (λ (r : ℕ). LeadsOver Q (IsPostLeaf Q e.root) r n)
          (sym (post_right page leaf.1.0 leaf.1.1 leaf.1.2 not_before))
          (posts_over all (P page).right n o (omega (arith, le)) rest))

      posts_left : (left : Option ℕ) → AreLeft P (IsPostLeaf P e.root) e.link left
          → AreLeft Q (IsPostLeaf Q e.root) e.link left
      posts_left None a = a
      posts_left (Some n) a = (a.0, posts_over a.0 e.link a.0 a.1 (omega arith) a.1, a.2)

      module _ (all : ℕ) (over : LeadsOver P (IsPostLeaf P e.root) e.link all) where
        -- the leaf does not lead to itself
        link_off : e.link ≢ e.page
        link_off at =
            let f = from_leaf all (subst (λ (r : ℕ). LeadsOver P (IsPostLeaf P e.root) r all) at over) in
            let s = same_over e.link f.0 all f.2 over in omega (arith, f.1, s)

        before_off : e.before ≢ 0 → e.before ≢ e.page
        before_off some at =
            let b = is_before P dead e.root e.before e.page after some in
            link_off (sym y.link ∙ ap (λ (q : ℕ). (P q).right) (sym at) ∙ b.1)

        next_leaf : IsPostLeaf Q e.root e.link
        next_leaf =
            post_then e.root e.link
            (subst (IsPostLeaf P e.root) y.link (order.links e.page is_leaf (λ z. y.link_is (sym y.link ∙ z)))) link_off

        after_then : IsAfter Q dead e.root e.before e.link
        after_then = go e.before refl after
          where
            go : (before : ℕ) → before ≡ e.before → IsAfter P dead e.root before e.page
                → IsAfter Q dead e.root before e.link
            go _ at (IsAfter.first none) = IsAfter.first (λ q l to.
                let was = post_back e.root q l in
                let link : (P q).right ≡ e.link =
                sym (post_right q l.1.0 l.1.1 l.1.2 (λ some. absurd (some (sym at)))) ∙ to in
                let o = post_others q l.1.0 l.1.1 l.1.2 in
                o.0 (order.one_before q e.page was is_leaf (λ z. y.link_is (sym link ∙ z)) (link ∙ sym y.link)))
            go before at (IsAfter.after some l to clean) =
                let is_some : e.before ≢ 0 = λ z. some (at ∙ z) in
                let leaf = post_then e.root before l (λ z. before_off is_some (sym at ∙ z)) in
                let o = post_others before leaf.1.0 leaf.1.1 leaf.1.2 in
                IsAfter.after some leaf (ap (λ (q : ℕ). (Q q).right) at ∙ x.linked is_some)
                (λ i up d. clean i (up.0, up.1, sym o.1 ∙ up.2, up.3) (dirty_item_back e.root i d))

  -- the next leaf is read then
  pub at_gone : (dead : List ℕ) (m : Sweeping) (page : ℕ) (left : Option ℕ)
      → IsAt P dead m (stage.Parent e page left) → ((k : Key) (i : ℕ) → Main Q k i → Main P k i)
      → ((k : Key) (root : ℕ) → IsNamed P k root → IsNamed Q k root) → (IsPostLeaf P e.root 0 → ⊥)
      → LeavesInOrder P (IsPostLeaf P e.root) (OnPostLeaf P) (UpPostLeaf P)
      → IsAt Q dead (record m { stage = stage.Posts e.root e.before e.link }) (stage.Posts e.root e.before e.link)
  at_gone dead m page left at main names not_zero order =
      let before_leaf = λ (some : e.before ≢ 0). (is_before P dead e.root e.before e.page at.2 some).0 in
      let o = over m.left_below at.5 in (
        tree_at_then dead main names before_leaf m.roots.items m.next m.link m.left e.root at.0,
        next_leaf dead main names before_leaf not_zero order at.1 at.3 at.2 o.0 o.1,
        after_then dead main names before_leaf not_zero order at.1 at.3 at.2 o.0 o.1,
        posts_left dead main names before_leaf not_zero order at.1 at.3 at.2 m.left_below at.5,
      )
    where
      over : (o : Option ℕ) → AreLeft P (IsPostLeaf P e.root) e.link o
          → (n : ℕ) × LeadsOver P (IsPostLeaf P e.root) e.link n
      over None a = absurd a
      over (Some n) a = (a.0, a.1)
