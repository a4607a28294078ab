-- A step on the way to the first leaf of a tree.
use Rattle.std.proofs.Common.{◌≡◌, ◌≢◌, ℕ, zero, suc, List, [], ◌∷◌, refl, sym, ap, subst, ◌∙◌, inl, inr}
use Rattle.std.proofs.Common.{arith}
use Rattle.std.specs.Prelude.{Option, Some, None}
use Rattle.std.specs.Option.{unwrap_or}
use Rattle.ts_base.specs.Keys.{Key}
use Rattle.page_types.specs.declared.page.Page.{Page}
use Rattle.page_types.specs.declared.page.EntryChild.{EntryChild}
use Rattle.page_types.specs.declared.page.PostChild.{PostChild}
use Rattle.page_types.specs.declared.page.Body.TheVariants as body
use Rattle.core_state.specs.Log.{Log, Pages, In, Shows}
use Rattle.core_state.specs.Index.{IsNamed}
use Rattle.core_state.specs.Legal.{IsLegal}
use Rattle.core_state.specs.TreeRules.{IsRoot, Toward, TowardItem}
use Rattle.core_state.specs.PagesTold.{PagesTold, LeavesInOrder, IsEntryLeaf, OnEntryLeaf, UpEntryLeaf, IsPostLeaf}
use Rattle.core_state.specs.PagesTold.{OnPostLeaf, UpPostLeaf}
use Rattle.core_state.specs.PageChoice.{IsLeast, AreBelow}
use Rattle.core_state.specs.States.{StateValue, StateTells}
use Rattle.core_state.proofs.LawsHold.{pages}
use Rattle.core_maintenance.specs.Leading.{IsHigh, IsHighPost, WaysHold}
use Rattle.core_vacuum.specs.Leaves.{IsFirst, LeavesHold}
use Rattle.entry_tree.specs.Adding as entry_leaves
use Rattle.entry_tree.specs.Reading as entries
use Rattle.posting_tree.specs.Adding as post_leaves
use Rattle.posting_tree.specs.Reading as posts
use Rattle.gin_vacuum.specs.Sweeping.{LeadsOver, AreLeft, AreLeftBelow, AreLeftDown, IsAt, IsTreeAt, IsAfter, Passed}
use Rattle.gin_vacuum.specs.declared.sweeping.Sweeping.{Sweeping}
use Rattle.gin_vacuum.specs.declared.sweeping.Stage.TheVariants as stage
use Rattle.gin_vacuum.proofs.Downs.{entry_child, post_child, toward_child, item_child, entry_leaf, post_leaf}
use Rattle.gin_vacuum.proofs.TreesStay.{there_in}
use Rattle.gin_vacuum.proofs.TreeRuns.{used_below, entries_left, posts_left, not_entries, high_entry, high_post}
use Rattle.gin_vacuum.proofs.TreeRuns.{low_entry, low_post}

-- the first leaf is one
one_first : {K : Type 0} (P : Pages) (IsLeaf : ℕ → Type 0) (On Up : ℕ → K → Type 0) → LeavesInOrder P IsLeaf On Up
    → (p q : ℕ) → IsLeaf p → IsFirst P IsLeaf p → IsLeaf q → IsFirst P IsLeaf q → p ≡ q
one_first P IsLeaf On Up o p q l first_p k first_q = is p l first_p ∙ sym (is q k first_q)
  where
    is : (x : ℕ) → IsLeaf x → IsFirst P IsLeaf x → x ≡ o.first
    is x l first = elim (o.before x l) [ inl e ↦ e | inr y ↦ absurd (first y.0 y.1 y.2) ]

-- what may be read is enough from here on
pub enough_down : (P : Pages) (IsLeaf : ℕ → Type 0) (High : ℕ → ℕ → Type 0) (root page extent : ℕ) (o : Option ℕ)
    → AreLeftBelow P IsLeaf High root extent → AreLeftDown P IsLeaf High root page o
    → AreLeftBelow P IsLeaf High page (unwrap_or o extent)
enough_down P IsLeaf High root page extent None whole e =
    subst (λ (n : ℕ). AreLeftBelow P IsLeaf High n extent) (sym e) whole
enough_down P IsLeaf High root page extent (Some n) whole e = e

-- a leaf is the first one; so many come from it on
leaf_left : {K : Type 0} (P : Pages) (IsLeaf : ℕ → Type 0) (On Up : ℕ → K → Type 0) → LeavesInOrder P IsLeaf On Up
    → (High : ℕ → ℕ → Type 0) (page n left : ℕ) → suc left ≡ n → AreLeftBelow P IsLeaf High page n → IsLeaf page
    → IsFirst P IsLeaf page → AreLeft P IsLeaf page (Some left)
leaf_left P IsLeaf On Up o High page n left e a l first =
    let same : a.first ≡ page = one_first P IsLeaf On Up o a.first page a.is_leaf a.is_first l first in
    (a.leaves, subst (λ (q : ℕ). LeadsOver P IsLeaf q a.leaves) same a.lead, omega (arith, a.enough, e))

-- below a page that is no leaf
child_left : (P : Pages) (IsLeaf : ℕ → Type 0) (High : ℕ → ℕ → Type 0) (page child n left : ℕ) → suc left ≡ n
    → (a : AreLeftBelow P IsLeaf High page n) → ((h : ℕ) → High h page → (i : ℕ) × (h ≡ suc i) × High i child)
    → AreLeftBelow P IsLeaf High child left
child_left P IsLeaf High page child n left e a lower =
    let x = lower a.high a.is_high in
    record {
      high = x.0;
      is_high = x.2;
      first = a.first;
      is_leaf = a.is_leaf;
      is_first = a.is_first;
      leaves = a.leaves;
      lead = a.lead;
      enough = omega (arith, a.enough, e, x.1);
    }

entry_lower : (P : Pages) (page : ℕ) (c : EntryChild) (cs : List EntryChild) → (P page).body ≡ body.EntryInner (c ∷ cs)
    → (h : ℕ) → IsHigh P h page → (i : ℕ) × (h ≡ suc i) × IsHigh P i c.page
entry_lower P page c cs is zero high = absurd (low_entry P page high (P page).body refl (c ∷ cs) is)
entry_lower P page c cs is (suc h) high =
    let x = high_entry P h page high in
    let e : x.0 ≡ c ∷ cs = let z = sym x.1 ∙ is in cc in
    (h, refl, x.2 c (subst (In c) (sym e) (inl refl)))

post_lower : (P : Pages) (page : ℕ) (c : PostChild) (cs : List PostChild) → (P page).body ≡ body.PostInner (c ∷ cs)
    → (h : ℕ) → IsHighPost P h page → (i : ℕ) × (h ≡ suc i) × IsHighPost P i c.page
post_lower P page c cs is zero high = absurd (low_post P page high (P page).body refl (c ∷ cs) is)
post_lower P page c cs is (suc h) high =
    let x = high_post P h page high in
    let e : x.0 ≡ c ∷ cs = let z = sym x.1 ∙ is in cc in
    (h, refl, x.2 c (subst (In c) (sym e) (inl refl)))

module _ (S : Log) (P : Pages) (some : S ≢ []) (legal : IsLegal S) (shown : Shows S P) (law : LeavesHold)
    (ways : WaysHold) (s : StateValue) (tells : StateTells S s) (extent left : ℕ) (least : IsLeast (AreBelow s) extent)
    (dead : List ℕ) (m : Sweeping) (page : ℕ) (c : Page) (is : P page ≡ c) where
  abbrev content : (P page).body ≡ c.body
  content = ap (λ (x : Page). x.body) is

  told : PagesTold S P
  told = pages S P legal shown

  -- ── the entry tree ──

  abbrev At : Type 0
  At = IsAt P dead m (stage.Down page)

  enough : At → AreLeftBelow P (IsEntryLeaf P) (IsHigh P) page (unwrap_or m.left extent)
  enough at =
      enough_down P (IsEntryLeaf P) (IsHigh P) 1 page extent m.left
      (entries_left S P told some (ways S P some legal shown) extent (used_below S P s extent shown tells least)) at.1

  pub at_leaf : suc left ≡ unwrap_or m.left extent → At → entry_leaves.IsEntryLeaf c.body
      → IsAt P dead (record m { stage = stage.Leaf page; left = Some left }) (stage.Leaf page)
  at_leaf e at here =
      let x = entry_leaf c.body here in
      let l : IsEntryLeaf P page = (x.0, x.1, content ∙ x.2) in
      let first = (law S P some legal shown).first page at.0 l in (
        l,
        Passed.first first,
        leaf_left P (IsEntryLeaf P) (OnEntryLeaf P) (UpEntryLeaf P) (told.bounds.entry_leaves some) (IsHigh P) page
            (unwrap_or m.left extent) left e (enough at) l first,
      )

  pub at_child : suc left ≡ unwrap_or m.left extent → At → (child : ℕ) → entries.first_child_in c.body ≡ Some child
      → IsAt P dead (record m { stage = stage.Down child; left = Some left }) (stage.Down child)
  at_child e at child first =
      let x = entry_child c.body child first in
      let inner = content ∙ x.2 in (
        subst (Toward P [] 1) x.3 (toward_child P 1 page x.0 x.1 at.0 inner),
        subst (λ (q : ℕ). AreLeftBelow P (IsEntryLeaf P) (IsHigh P) q left) x.3
            (child_left P (IsEntryLeaf P) (IsHigh P) page x.0.page (unwrap_or m.left extent) left e (enough at)
            (entry_lower P page x.0 x.1 inner)),
      )

  -- ── a posting tree ──

  module _ (root : ℕ) where
    abbrev AtTree : Type 0
    AtTree = IsAt P dead m (stage.TreeDown root page)

    named : AtTree → (k : Key) × IsNamed P k root
    named at =
        let t : IsTreeAt P dead m.roots.items m.next m.link m.left root = at.0 in
        t.at.named root (there_in m.roots.items t.before root t.root_is)

    enough_tree : AtTree → AreLeftBelow P (IsPostLeaf P root) (IsHighPost P) page (unwrap_or m.left_below extent)
    enough_tree at =
        let n = named at in
        enough_down P (IsPostLeaf P root) (IsHighPost P) root page extent m.left_below
        (posts_left S P told some (ways S P some legal shown) extent
        (used_below S P s extent shown tells least) n.0 root
        n.1) at.2

    pub at_tree_leaf : suc left ≡ unwrap_or m.left_below extent → AtTree → post_leaves.IsPostLeaf c.body
        → IsAt P dead (record m { stage = stage.Posts root 0 page; left_below = Some left }) (stage.Posts root 0 page)
    at_tree_leaf e at here =
        let x = post_leaf c.body here in
        let n = named at in
        let first = (law S P some legal shown).first_post n.0 root page x.0 x.1 n.1 at.1 (content ∙ x.2) in
        let order = told.bounds.post_leaves root (IsRoot.of_postings n.0 n.1)
        (not_entries S P told some (ways S P some legal shown) extent (used_below S P s extent shown tells least) n.0
        root n.1) in (
          at.0,
          first.0,
          IsAfter.first first.1,
          leaf_left P (IsPostLeaf P root) (OnPostLeaf P) (UpPostLeaf P) order (IsHighPost P) page
              (unwrap_or m.left_below extent) left e (enough_tree at) first.0 first.1,
        )

    pub at_tree_child : suc left ≡ unwrap_or m.left_below extent → AtTree → (child : ℕ)
        → posts.first_child_in c.body ≡ Some child
        → IsAt P dead (record m { stage = stage.TreeDown root child; left_below = Some left })
        (stage.TreeDown root child)
    at_tree_child e at child first =
        let x = post_child c.body child first in
        let inner = content ∙ x.2 in (
          at.0,
          subst (TowardItem P 0 root) x.3 (item_child P root page x.0 x.1 at.1 inner),
          subst (λ (q : ℕ). AreLeftBelow P (IsPostLeaf P root) (IsHighPost P) q left) x.3
              (child_left P (IsPostLeaf P root) (IsHighPost P) page x.0.page (unwrap_or m.left_below extent) left e
              (enough_tree at) (post_lower P page x.0 x.1 inner)),
        )
