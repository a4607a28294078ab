-- What a sweep goes by stays so where the trees stay but for items of their lists.
use Rattle.std.proofs.Common.{◌≡◌, ℕ, zero, suc, List, [], ◌∷◌, ◌++◌, take, refl, sym, ap, subst, ◌∙◌, inl, inr}
use Rattle.std.specs.Prelude.{Option, Some, None}
use Rattle.std.specs.List.{slice_get}
use Rattle.ts_base.specs.Keys.{Key}
use Rattle.page_types.specs.Items.{items_of}
use Rattle.page_types.specs.Views.{entries_in, entries_of, posting_items_in}
use Rattle.page_types.specs.declared.page.Page.{Page}
use Rattle.page_types.specs.declared.page.Entry.{Entry}
use Rattle.page_types.specs.declared.page.EntryChild.{EntryChild}
use Rattle.page_types.specs.declared.page.PostChild.{PostChild}
use Rattle.page_types.specs.declared.page.Postings.TheVariants.{Inline, Root}
use Rattle.page_types.specs.declared.page.Body.{Body}
use Rattle.page_types.specs.declared.page.Body.TheVariants as body
use Rattle.core_state.specs.Log.{Pages, In}
use Rattle.core_state.specs.Index.{Below, Main, IsNamed, children_in}
use Rattle.core_state.specs.TreeRules.{IsRoot, Toward, TowardItem}
use Rattle.core_state.specs.PagesTold.{IsEntryLeaf, UpEntryLeaf, IsPostLeaf, OnPostLeaf, UpPostLeaf}
use Rattle.core_state.proofs.Trees.Members.{in_middle}
use Rattle.core_maintenance.specs.Leading.{IsHigh, IsHighPost}
use Rattle.core_maintenance.proofs.Ways.{kid_below, post_kid_below, toward_below, toward_item_below}
use Rattle.gin_vacuum.specs.Sweeping.{IsDirty, IsDirtyItem, IsCleanTree, Passed, IsPassed, IsLeafAt, IsTreeAt, IsAfter}
use Rattle.gin_vacuum.specs.Sweeping.{LeadsOver, AreLeft, AreLeftDown, IsHighLeft, IsEmptyLeaf, IsAt}
use Rattle.gin_vacuum.specs.declared.deleting.Empty.{Empty}
use Rattle.gin_vacuum.specs.declared.sweeping.Sweeping.{Sweeping}
use Rattle.gin_vacuum.specs.declared.sweeping.Stage.{Stage}
use Rattle.gin_vacuum.specs.declared.sweeping.Stage.TheVariants as stage

-- an entry of a leaf as it is, of what it was: it named the same tree, or had all items of its list
pub record EntryWas (es : List Entry) (e : Entry) : Type 0 where
  pub listed : (list : List ℕ) (i : ℕ) → e.postings ≡ Inline list → In i (items_of list)
      → (d : Entry) × (was : List ℕ) × In d es × (d.postings ≡ Inline was) × In i (items_of was)
  pub named : (root : ℕ) → e.postings ≡ Root root → (d : Entry) × In d es × (d.postings ≡ Root root)

-- a page's content stays, or its lists lose items
pub data Loses : Body → Body → Type 0 where
  same : {b : Body} → Loses b b
  entries : (high : Key) (es fs : List Entry) → ((e : Entry) → In e fs → EntryWas es e)
      → Loses (body.EntryLeaf high es) (body.EntryLeaf high fs)
  postings : (high : ℕ) (old new : List ℕ) → ((i : ℕ) → In i (items_of new) → In i (items_of old))
      → (old ≡ [] → new ≡ []) → Loses (body.PostLeaf high old) (body.PostLeaf high new)

pub record PageStays (b c : Page) : Type 0 where
  pub right : c.right ≡ b.right
  pub loses : Loses b.body c.body

-- Each page of a tree stays but for items, and no page comes into one; a leaf of the entry tree is a page of it; no
-- pair comes, and entries name the same trees.
pub record TreesStay (P Q : Pages) : Type 0 where
  pub main : (k : Key) (i : ℕ) → Main Q k i → Main P k i
  pub page : (root p : ℕ) → IsRoot P root → Below P root p → PageStays (P p) (Q p)
  pub more : (root p : ℕ) → IsRoot Q root → Below Q root p → IsRoot P root × Below P root p
  pub below : (p : ℕ) → IsEntryLeaf P p → Below P 1 p
  pub below_then : (p : ℕ) → IsEntryLeaf Q p → Below Q 1 p
  pub named : (k : Key) (root : ℕ) → IsNamed P k root → IsNamed Q k root

pub page_same : (b c : Page) → c ≡ b → PageStays b c
page_same b c e = record {
  right = ap (λ (x : Page). x.right) e;
  loses = subst (λ (x : Page). Loses b.body x.body)
      (sym e) Loses.same;
}

-- ── contents ──

pub children_same : (b c : Body) → Loses b c → children_in c ≡ children_in b
children_same b _ Loses.same = refl
children_same _ _ (Loses.entries high es fs was) = refl
children_same _ _ (Loses.postings high old new less empty) = refl

entry_inner : (b c : Body) (cs : List EntryChild) → Loses b c → b ≡ body.EntryInner cs → c ≡ body.EntryInner cs
entry_inner b _ cs Loses.same is = is
entry_inner _ _ cs (Loses.entries high es fs was) is = absurd (let z : ⊥ = cc in z)
entry_inner _ _ cs (Loses.postings high old new less empty) is = absurd (let z : ⊥ = cc in z)

post_inner : (b c : Body) (cs : List PostChild) → Loses b c → b ≡ body.PostInner cs → c ≡ body.PostInner cs
post_inner b _ cs Loses.same is = is
post_inner _ _ cs (Loses.entries high es fs was) is = absurd (let z : ⊥ = cc in z)
post_inner _ _ cs (Loses.postings high old new less empty) is = absurd (let z : ⊥ = cc in z)

same_entries : (es : List Entry) (e : Entry) → In e es → EntryWas es e
same_entries es e i = record {
  listed = λ list j is on. (e, list, i, is, on);
  named = λ root is. (e, i, is);
}

pub entry_leaf : (b c : Body) (high : Key) (es : List Entry) → Loses b c → b ≡ body.EntryLeaf high es
    → (fs : List Entry) × (c ≡ body.EntryLeaf high fs)
entry_leaf b _ high es Loses.same is = (es, is)
entry_leaf _ _ high es (Loses.entries h ds fs was) is =
    (fs, let e : h ≡ high = cc in ap (λ (x : Key). body.EntryLeaf x fs) e)
entry_leaf _ _ high es (Loses.postings h old new less empty) is = absurd (let z : ⊥ = cc in z)

entry_leaf_was : (b c : Body) (high : Key) (fs : List Entry) → Loses b c → c ≡ body.EntryLeaf high fs
    → (es : List Entry) × (b ≡ body.EntryLeaf high es)
entry_leaf_was b _ high fs Loses.same is = (fs, is)
entry_leaf_was _ _ high fs (Loses.entries h es gs was) is =
    (es, let e : h ≡ high = cc in ap (λ (x : Key). body.EntryLeaf x es) e)
entry_leaf_was _ _ high fs (Loses.postings h old new less empty) is = absurd (let z : ⊥ = cc in z)

pub entries_were : (b c : Body) → Loses b c → (e : Entry) → In e (entries_in c) → EntryWas (entries_in b) e
entries_were b _ Loses.same e i = same_entries (entries_in b) e i
entries_were _ _ (Loses.entries high es fs was) e i = was e i
entries_were _ _ (Loses.postings high old new less empty) e i = absurd i

pub post_leaf : (b c : Body) (high : ℕ) (items : List ℕ) → Loses b c → b ≡ body.PostLeaf high items
    → (new : List ℕ) × (c ≡ body.PostLeaf high new)
post_leaf b _ high items Loses.same is = (items, is)
post_leaf _ _ high items (Loses.entries h es fs was) is = absurd (let z : ⊥ = cc in z)
post_leaf _ _ high items (Loses.postings h old new less empty) is =
    (new, let e : h ≡ high = cc in ap (λ (x : ℕ). body.PostLeaf x new) e)

post_leaf_was : (b c : Body) (high : ℕ) (items : List ℕ) → Loses b c → c ≡ body.PostLeaf high items
    → (old : List ℕ) × (b ≡ body.PostLeaf high old)
post_leaf_was b _ high items Loses.same is = (items, is)
post_leaf_was _ _ high items (Loses.entries h es fs was) is = absurd (let z : ⊥ = cc in z)
post_leaf_was _ _ high items (Loses.postings h old new less empty) is =
    (old, let e : h ≡ high = cc in ap (λ (x : ℕ). body.PostLeaf x old) e)

posts_were : (b c : Body) → Loses b c → (i : ℕ) → In i (posting_items_in c) → In i (posting_items_in b)
posts_were b _ Loses.same i on = on
posts_were _ _ (Loses.entries high es fs was) i on = absurd on
posts_were _ _ (Loses.postings high old new less empty) i on = less i on

stays_empty : (b c : Body) (high : ℕ) → Loses b c → b ≡ body.PostLeaf high [] → c ≡ body.PostLeaf high []
stays_empty b _ high Loses.same is = is
stays_empty _ _ high (Loses.entries h es fs was) is = absurd (let z : ⊥ = cc in z)
stays_empty _ _ high (Loses.postings h old new less empty) is =
    let e : h ≡ high = cc in
    let none : old ≡ [] = cc in
    ap (λ (x : ℕ). body.PostLeaf x new) e ∙ ap (λ (xs : List ℕ). body.PostLeaf high xs) (empty none)

-- ── roots that are named by their number ──

pub in_take : (n : ℕ) (x : ℕ) (xs : List ℕ) → In x (take n xs) → In x xs
in_take zero x xs i = absurd i
in_take (suc n) x [] i = absurd i
in_take (suc n) x (y ∷ xs) (inl e) = inl e
in_take (suc n) x (y ∷ xs) (inr i) = inr (in_take n x xs i)

pub there_in : (xs : List ℕ) (n x : ℕ) → slice_get xs n ≡ Some x → In x xs
there_in [] n x e = absurd (let z : ⊥ = cc in z)
there_in (y ∷ xs) zero x e = inl (let z : x ≡ y = cc in z)
there_in (y ∷ xs) (suc n) x e = inr (there_in xs n x e)

pub tree_root : (P : Pages) (dead roots : List ℕ) (next link : ℕ) (left : Option ℕ) (root : ℕ)
    → IsTreeAt P dead roots next link left root → IsRoot P root
tree_root P dead roots next link left root t =
    let n = t.at.named root (there_in roots t.before root t.root_is) in IsRoot.of_postings n.0 n.1

-- ── how many leaves are left ──

-- where leaves are leaves still, with the same right links
module _ (P Q : Pages) (IsLeaf IsLeaf' : ℕ → Type 0) (on : (q : ℕ) → IsLeaf q → IsLeaf' q)
    (right : (q : ℕ) → IsLeaf q → (Q q).right ≡ (P q).right) where
  lead_on : (page n : ℕ) → LeadsOver P IsLeaf page n → LeadsOver Q IsLeaf' page n
  lead_on _ _ LeadsOver.end = LeadsOver.end
  lead_on page _ (LeadsOver.next {n = n} l lead) =
      LeadsOver.next (on page l)
      (subst (λ (q : ℕ). LeadsOver Q IsLeaf' q n) (sym (right page l)) (lead_on (P page).right n lead))

  left_on : (page : ℕ) (o : Option ℕ) → AreLeft P IsLeaf page o → AreLeft Q IsLeaf' page o
  left_on page None a = a
  left_on page (Some n) a = (a.0, lead_on page a.0 a.1, a.2)

  -- and no leaf comes
  module _ (was : (q : ℕ) → IsLeaf' q → IsLeaf q) (High High' : ℕ → ℕ → Type 0) (root page : ℕ)
      (high : (h : ℕ) → High h page → High' h page) where
    left_down_on : (o : Option ℕ) → AreLeftDown P IsLeaf High root page o → AreLeftDown Q IsLeaf' High' root page o
    left_down_on None a = a
    left_down_on (Some n) a = record {
      high = a.high;
      is_high = high a.high a.is_high;
      first = a.first;
      is_leaf = on a.first a.is_leaf;
      is_first = λ q l e. let b = was q l in a.is_first q b (sym (right q b) ∙ e);
      leaves = a.leaves;
      lead = lead_on a.first a.leaves a.lead;
      enough = a.enough;
    }

module _ (P Q : Pages) (s : TreesStay P Q) where
  pub root_then : (root : ℕ) → IsRoot P root → IsRoot Q root
  root_then _ IsRoot.of_entries = IsRoot.of_entries
  root_then root (IsRoot.of_postings k n) = IsRoot.of_postings k (s.named k root n)

  -- ── ways ──

  pub below_on : (root q : ℕ) → IsRoot P root → Below P root q → Below Q root q
  below_on root _ is Below.root = Below.root
  below_on root q is (Below.child {p = p} b i) =
      Below.child (below_on root p is b)
      (subst (In q) (sym (children_same (P p).body (Q p).body (s.page root p is b).loses)) i)

  pub toward_on : (k : Key) (p q : ℕ) → Below P 1 p → Toward P k p q → Toward Q k p q
  toward_on k p q b Toward.here = Toward.here
  toward_on k p q b (Toward.down front back c is low high rest) =
      let on = kid_below P 1 p (front ++ c ∷ back) c b is (in_middle front c back) in
      Toward.down front back c
      (entry_inner (P p).body (Q p).body (front ++ c ∷ back) (s.page 1 p IsRoot.of_entries b).loses is) low high
      (toward_on k c.page q on rest)

  pub item_way_on : (root i p q : ℕ) → IsRoot P root → Below P root p → TowardItem P i p q → TowardItem Q i p q
  item_way_on root i p q is b TowardItem.here = TowardItem.here
  item_way_on root i p q is b (TowardItem.down front back c e low high rest) =
      let on = post_kid_below P root p (front ++ c ∷ back) c b e (in_middle front c back) in
      TowardItem.down front back c
      (post_inner (P p).body (Q p).body (front ++ c ∷ back) (s.page root p is b).loses e) low high
      (item_way_on root i c.page q is on rest)

  -- ── heights ──

  pub high_on : (h p : ℕ) → Below P 1 p → IsHigh P h p → IsHigh Q h p
  high_on _ p b (IsHigh.leaf high es is) =
      let x = entry_leaf (P p).body (Q p).body high es (s.page 1 p IsRoot.of_entries b).loses is in
      IsHigh.leaf high x.0 x.1
  high_on _ p b (IsHigh.inner {h = h} cs is each) =
      IsHigh.inner cs (entry_inner (P p).body (Q p).body cs (s.page 1 p IsRoot.of_entries b).loses is)
      (λ c i. high_on h c.page (kid_below P 1 p cs c b is i) (each c i))

  pub high_post_on : (root h p : ℕ) → IsRoot P root → Below P root p → IsHighPost P h p → IsHighPost Q h p
  high_post_on root _ p is b (IsHighPost.leaf high items e) =
      let x = post_leaf (P p).body (Q p).body high items (s.page root p is b).loses e in IsHighPost.leaf high x.0 x.1
  high_post_on root _ p is b (IsHighPost.inner {h = h} cs e each) =
      IsHighPost.inner cs (post_inner (P p).body (Q p).body cs (s.page root p is b).loses e)
      (λ c i. high_post_on root h c.page is (post_kid_below P root p cs c b e i) (each c i))

  high_left_on : (root page : ℕ) (o : Option ℕ) → IsRoot P root → Below P root page → IsHighLeft P root page o
      → IsHighLeft Q root page o
  high_left_on root page None is b e = e
  high_left_on root page (Some n) is b e = (e.0, high_post_on root e.0 page is b e.1, e.2)

  -- ── leaves of the entry tree ──

  leaf_page : (q : ℕ) → IsEntryLeaf P q → PageStays (P q) (Q q)
  leaf_page q l = s.page 1 q IsRoot.of_entries (s.below q l)

  pub leaf_on : (q : ℕ) → IsEntryLeaf P q → IsEntryLeaf Q q
  leaf_on q l =
      let x = entry_leaf (P q).body (Q q).body l.0 l.1 (leaf_page q l).loses l.2 in (l.0, x.0, x.1)

  pub leaf_was : (q : ℕ) → IsEntryLeaf Q q → IsEntryLeaf P q
  leaf_was q l =
      let b = s.more 1 q IsRoot.of_entries (s.below_then q l) in
      let x = entry_leaf_was (P q).body (Q q).body l.0 l.1 (s.page 1 q b.0 b.1).loses l.2 in (l.0, x.0, x.1)

  pub right_on : (q : ℕ) → IsEntryLeaf P q → (Q q).right ≡ (P q).right
  right_on q l = (leaf_page q l).right

  pub up_on : (q : ℕ) (k : Key) → IsEntryLeaf P q → UpEntryLeaf P q k → UpEntryLeaf Q q k
  up_on q k l u =
      let x = entry_leaf (P q).body (Q q).body u.0 u.1 (leaf_page q l).loses u.2 in (u.0, x.0, x.1, u.3)

  pub up_was : (q : ℕ) (k : Key) → IsEntryLeaf P q → UpEntryLeaf Q q k → UpEntryLeaf P q k
  up_was q k l u =
      let x = entry_leaf_was (P q).body (Q q).body u.0 u.1 (leaf_page q l).loses u.2 in (u.0, x.0, x.1, u.3)

  pub entry_was : (q : ℕ) (e : Entry) → IsEntryLeaf P q → In e (entries_of (Q q)) → EntryWas (entries_of (P q)) e
  entry_was q e l on = entries_were (P q).body (Q q).body (leaf_page q l).loses e on

  -- ── leaves of a posting tree ──

  pub post_on : (root q : ℕ) → IsRoot P root → IsPostLeaf P root q → IsPostLeaf Q root q
  post_on root q is l =
      let x = post_leaf (P q).body (Q q).body l.1.0 l.1.1 (s.page root q is l.0).loses l.1.2 in
      (below_on root q is l.0, (l.1.0, x.0, x.1))

  pub post_was : (root q : ℕ) → IsRoot P root → IsPostLeaf Q root q → IsPostLeaf P root q
  post_was root q is l =
      let b = s.more root q (root_then root is) l.0 in
      let x = post_leaf_was (P q).body (Q q).body l.1.0 l.1.1 (s.page root q is b.1).loses l.1.2 in
      (b.1, (l.1.0, x.0, x.1))

  pub post_right_on : (root q : ℕ) → IsRoot P root → IsPostLeaf P root q → (Q q).right ≡ (P q).right
  post_right_on root q is l = (s.page root q is l.0).right

  pub post_up_was : (root q i : ℕ) → IsRoot P root → IsPostLeaf P root q → UpPostLeaf Q q i → UpPostLeaf P q i
  post_up_was root q i is l u =
      let x = post_leaf_was (P q).body (Q q).body u.0 u.1 (s.page root q is l.0).loses u.2 in (u.0, x.0, x.1, u.3)

  pub post_item_was : (root q i : ℕ) → IsRoot P root → IsPostLeaf P root q → OnPostLeaf Q q i → OnPostLeaf P q i
  post_item_was root q i is l on = posts_were (P q).body (Q q).body (s.page root q is l.0).loses i on

  -- ── what a sweep goes by ──

  entries_left_on : (page : ℕ) (o : Option ℕ) → AreLeft P (IsEntryLeaf P) page o → AreLeft Q (IsEntryLeaf Q) page o
  entries_left_on page o = left_on P Q (IsEntryLeaf P) (IsEntryLeaf Q) leaf_on right_on page o

  posts_left_on : (root page : ℕ) (o : Option ℕ) → IsRoot P root → AreLeft P (IsPostLeaf P root) page o
      → AreLeft Q (IsPostLeaf Q root) page o
  posts_left_on root page o is =
      left_on P Q (IsPostLeaf P root) (IsPostLeaf Q root) (λ q. post_on root q is) (λ q. post_right_on root q is) page o

  module _ (dead : List ℕ) where
    dirty_was : (k : Key) → IsDirty Q dead k → IsDirty P dead k
    dirty_was k d = (d.0, d.1, s.main k d.0 d.2)

    dirty_item_was : (root i : ℕ) → IsRoot P root → IsDirtyItem Q dead root i → IsDirtyItem P dead root i
    dirty_item_was root i is d =
        let l = post_was root d.1.0 is d.1.1 in (d.0, (d.1.0, l, post_item_was root d.1.0 i is l d.1.2))

    pub passed_on : (page : ℕ) → IsPassed P dead page → IsPassed Q dead page
    passed_on page (Passed.first none) =
        Passed.first (λ q l e. let b = leaf_was q l in none q b (sym (right_on q b) ∙ e))
    passed_on page (Passed.after q l e clean) =
        Passed.after q (leaf_on q l) (right_on q l ∙ e) (λ k up d. clean k (up_was q k l up) (dirty_was k d))

    pub clean_on : (root : ℕ) → IsRoot P root → IsCleanTree P dead root → IsCleanTree Q dead root
    clean_on root is clean i d = clean i (dirty_item_was root i is d)

    pub leaf_at_on : (roots : List ℕ) (next link : ℕ) (left : Option ℕ) (leaf : ℕ)
        → IsLeafAt P dead roots next link left leaf → IsLeafAt Q dead roots next link left leaf
    leaf_at_on roots next link left leaf a = record {
      is_leaf = leaf_on leaf a.is_leaf;
      passed = passed_on leaf a.passed;
      link_is = right_on leaf a.is_leaf ∙ a.link_is;
      lists = λ e list i on is d there.
          let w = (entry_was leaf e a.is_leaf on).listed list i is there in a.lists w.0 w.1 i w.2 w.3 d w.4;
      named = λ root i. let n = a.named root i in (n.0, s.named n.0 root n.1);
      all = λ e root on is. let w = (entry_was leaf e a.is_leaf on).named root is in a.all w.0 root w.1 w.2;
      trees = λ root i.
          let n = a.named root (in_take next root roots i) in
          clean_on root (IsRoot.of_postings n.0 n.1) (a.trees root i);
      last = λ z k. up_on leaf k a.is_leaf (a.last z k);
      left = entries_left_on link left a.left;
    }

    pub tree_at_on : (roots : List ℕ) (next link : ℕ) (left : Option ℕ) (root : ℕ)
        → IsTreeAt P dead roots next link left root → IsTreeAt Q dead roots next link left root
    tree_at_on roots next link left root t = record {
      leaf = t.leaf;
      before = t.before;
      next_is = t.next_is;
      at = leaf_at_on roots t.before link left t.leaf t.at;
      root_is = t.root_is;
    }

    pub after_on : (root before page : ℕ) → IsRoot P root → IsAfter P dead root before page
        → IsAfter Q dead root before page
    after_on root _ page is (IsAfter.first none) =
        IsAfter.first (λ q l e. let b = post_was root q is l in none q b (sym (post_right_on root q is b) ∙ e))
    after_on root before page is (IsAfter.after some l e clean) =
        IsAfter.after some (post_on root before is l) (post_right_on root before is l ∙ e)
        (λ i up d. clean i (post_up_was root before i is l up) (dirty_item_was root i is d))

    empty_on : (e : Empty) → IsRoot P e.root → IsPostLeaf P e.root e.page → IsEmptyLeaf P e → IsEmptyLeaf Q e
    empty_on e is l x = record {
      content = stays_empty (P e.page).body (Q e.page).body e.high (s.page e.root e.page is l.0).loses x.content;
      high = x.high;
      item = x.item;
      link = post_right_on e.root e.page is l ∙ x.link;
      link_is = x.link_is;
    }

    -- at each stage
    pub at_stays : (m : Sweeping) (t : Stage) → IsAt P dead m t → IsAt Q dead m t
    at_stays m (stage.Down page) at =
        let b = toward_below P 1 [] 1 page Below.root at.0 in (
          toward_on [] 1 page Below.root at.0,
          left_down_on P Q (IsEntryLeaf P) (IsEntryLeaf Q) leaf_on right_on leaf_was (IsHigh P) (IsHigh Q) 1 page
              (λ h. high_on h page b) m.left at.1,
        )
    at_stays m (stage.Leaf page) at = (leaf_on page at.0, passed_on page at.1, entries_left_on page m.left at.2)
    at_stays m (stage.TreeDown root page) at =
        let is = tree_root P dead m.roots.items m.next m.link m.left root at.0 in
        let b = toward_item_below P root 0 root page Below.root at.1 in (
          tree_at_on m.roots.items m.next m.link m.left root at.0,
          item_way_on root 0 root page is Below.root at.1,
          left_down_on P Q (IsPostLeaf P root) (IsPostLeaf Q root) (λ q. post_on root q is)
              (λ q. post_right_on root q is) (λ q. post_was root q is) (IsHighPost P) (IsHighPost Q) root page
              (λ h. high_post_on root h page is b) m.left_below at.2,
        )
    at_stays m (stage.Posts root before page) at =
        let is = tree_root P dead m.roots.items m.next m.link m.left root at.0 in (
          tree_at_on m.roots.items m.next m.link m.left root at.0,
          post_on root page is at.1,
          after_on root before page is at.2,
          posts_left_on root page m.left_below is at.3,
        )
    at_stays m (stage.Parent empty page left) at =
        let is = tree_root P dead m.roots.items m.next m.link m.left empty.root at.0 in
        let b = toward_item_below P empty.root empty.high empty.root page Below.root at.4 in (
          tree_at_on m.roots.items m.next m.link m.left empty.root at.0,
          post_on empty.root empty.page is at.1,
          after_on empty.root empty.before empty.page is at.2,
          empty_on empty is at.1 at.3,
          item_way_on empty.root empty.high empty.root page is Below.root at.4,
          posts_left_on empty.root empty.link m.left_below is at.5,
          high_left_on empty.root page left is b at.6,
          item_way_on empty.root empty.high page empty.page is b at.7,
          at.8,
        )
    at_stays m stage.Done at = λ i in_dead k main. at i in_dead k (s.main k i main)
