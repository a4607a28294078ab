-- The way of an item leads to one leaf of the key's posting tree, which has it where the key has it.
use Rattle.std.proofs.Common.{◌≡◌, ℕ, ◌<◌, ◌≤◌, List, [], ◌∷◌, ◌++◌, refl, sym, ap, subst, ◌∙◌, inl, inr, arith}
use Rattle.std.specs.List.{Contains}
use Rattle.ts_base.specs.Keys.{Key}
use Rattle.page_types.specs.Items.{items_of}
use Rattle.page_types.specs.Keys.{KeyLess, Rising}
use Rattle.page_types.specs.Pages.{IsPage}
use Rattle.page_types.specs.Views.{entries_in, posting_items_in}
use Rattle.page_types.specs.declared.page.Entry.{Entry}
use Rattle.page_types.specs.declared.page.PostChild.{PostChild}
use Rattle.page_types.specs.declared.page.Postings.TheVariants.{Inline, Root}
use Rattle.page_types.specs.declared.page.Body.{Body}
use Rattle.page_types.specs.declared.page.Body.TheVariants as body
use Rattle.core_state.specs.Log.{Pages, In}
use Rattle.core_state.specs.Bullets.{TreesAreBounded}
use Rattle.core_state.specs.Index.{Below, Under, Main, IsNamed}
use Rattle.core_state.specs.TreeRules.{Toward, TowardItem, IsRoot}
use Rattle.posting_tree.specs.Adding.{IsPostLeaf}
use Rattle.gin_place.proofs.Lists.{contained}
use Rattle.gin_place.proofs.OneLeaf.{leaf_of, one_leaf}
use Rattle.gin_place.proofs.ReadPages.{all_in, less_same, are_entries}

-- ── the leaf ──

same_children : (a b : List PostChild) → body.PostInner a ≡ body.PostInner b → a ≡ b
same_children a b e = cc

-- one child is the first whose bound is not below the item
one_child : (i : ℕ) (front back front' back' : List PostChild) (c c' : PostChild)
    → front ++ c ∷ back ≡ front' ++ c' ∷ back' → ((b : PostChild) → In b front → b.bound < i) → i ≤ c.bound
    → ((b : PostChild) → In b front' → b.bound < i) → i ≤ c'.bound → c ≡ c'
one_child i [] back [] back' c c' same low up low' up' = cc
one_child i [] back (b ∷ front') back' c c' same low up low' up' =
    let first : c ≡ b = cc in
    absurd (omega (arith, up, ap (λ (d : PostChild). d.bound) first, low' b (inl refl)))
one_child i (b ∷ front) back [] back' c c' same low up low' up' =
    let first : b ≡ c' = cc in
    absurd (omega (arith, up', ap (λ (d : PostChild). d.bound) first, low b (inl refl)))
one_child i (b ∷ front) back (b' ∷ front') back' c c' same low up low' up' =
    let rest : front ++ c ∷ back ≡ front' ++ c' ∷ back' = cc in
    one_child i front back front' back' c c' rest (λ d j. low d (inr j)) up (λ d j. low' d (inr j)) up'

no_leaf : (b : Body) (high : ℕ) (list : List ℕ) (cs : List PostChild) → b ≡ body.PostLeaf high list
    → b ≡ body.PostInner cs → ⊥
no_leaf b high list cs is_leaf inner =
    let two : body.PostLeaf high list ≡ body.PostInner cs = sym is_leaf ∙ inner in
    let z : ⊥ = cc in z

pub post_leaf_is : (b : Body) → IsPostLeaf b → (high : ℕ) × (list : List ℕ) × (b ≡ body.PostLeaf high list)
post_leaf_is _ (IsPostLeaf.leaf high list) = (high, list, refl)

-- a page with an item is a leaf
post_leaf_of : (b : Body) (i : ℕ) → In i (posting_items_in b)
    → (high : ℕ) × (list : List ℕ) × (b ≡ body.PostLeaf high list) × In i (items_of list)
post_leaf_of (body.PostLeaf high list) i on = (high, list, refl, on)
post_leaf_of _ i on = absurd on

module _ (P : Pages) (i : ℕ) where
  one_post : (p q r high high' : ℕ) (list list' : List ℕ) → TowardItem P i p q → TowardItem P i p r
      → (P q).body ≡ body.PostLeaf high list → (P r).body ≡ body.PostLeaf high' list' → q ≡ r
  one_post p q r high high' list list' TowardItem.here TowardItem.here a b = refl
  one_post p q r high high' list list' TowardItem.here (TowardItem.down front back c is low up rest) a b =
      absurd (no_leaf (P p).body high list (front ++ c ∷ back) a is)
  one_post p q r high high' list list' (TowardItem.down front back c is low up rest) TowardItem.here a b =
      absurd (no_leaf (P p).body high' list' (front ++ c ∷ back) b is)
  one_post p q r high high' list list' (TowardItem.down front back c is low up rest)
      (TowardItem.down front' back' c' is' low' up' rest') a b =
      let lists = same_children (front ++ c ∷ back) (front' ++ c' ∷ back') (sym is ∙ is') in
      let child = one_child i front back front' back' c c' lists low up low' up' in
      one_post c.page q r high high' list list' rest
      (subst (λ (d : PostChild). TowardItem P i d.page r) (sym child) rest') a b

-- ── the key's entry ──

-- of entries whose keys rise one has the key
one_key : (es : List Entry) (d e : Entry) → Rising (λ (a b : Entry). KeyLess a.key b.key) es → In d es → In e es
    → d.key ≡ e.key → d ≡ e
one_key [] d e rise on there same = absurd on
one_key (x ∷ es) d e rise (inl a) (inl b) same = a ∙ sym b
one_key (x ∷ es) d e rise (inl a) (inr j) same =
    absurd (less_same x.key e.key (all_in (λ (b : Entry). KeyLess x.key b.key) es e rise.0 j)
    (ap (λ (y : Entry). y.key) (sym a) ∙ same))
one_key (x ∷ es) d e rise (inr i) (inl b) same =
    absurd (less_same x.key d.key (all_in (λ (b : Entry). KeyLess x.key b.key) es d rise.0 i)
    (ap (λ (y : Entry). y.key) (sym b) ∙ sym same))
one_key (x ∷ es) d e rise (inr i) (inr j) same = one_key es d e rise.1 i j same

module _ (P : Pages) (each : (p : ℕ) → IsPage (P p)) (bounded : TreesAreBounded P) (k : Key) where
  -- entries of the key on any leaves are the same
  one_named : (p q : ℕ) (d e : Entry) → In d (entries_in (P p).body) → d.key ≡ k → In e (entries_in (P q).body)
      → e.key ≡ k → d ≡ e
  one_named p q d e on key there key' =
      let here = leaf_of (P p).body d on in
      let that = leaf_of (P q).body e there in
      let to = subst (λ (x : Key). Toward P x 1 p) key (bounded.entries p here.0 here.1 d here.2 here.3).0 in
      let to' = subst (λ (x : Key). Toward P x 1 q) key' (bounded.entries q that.0 that.1 e that.2 that.3).0 in
      let same : q ≡ p = one_leaf P each k 1 q p that.0 here.0 that.1 here.1 to' to that.2 here.2 in
      let e_here : In e (entries_in (P p).body) = subst (λ (n : ℕ). In e (entries_in (P n).body)) same there in
      one_key here.1 d e (are_entries (P p) here.0 here.1 (each p) here.2).rising here.3
      (subst (λ (b : Body). In e (entries_in b)) here.2 e_here) (key ∙ sym key')

  -- what is under the entry that names the tree is on a leaf below its root
  in_tree : (e : Entry) (root i : ℕ) → e.postings ≡ Root root → Under P e i
      → (q : ℕ) × Below P root q × In i (posting_items_in (P q).body)
  in_tree e root i names (Under.inline bytes is has) =
      let two : Inline bytes ≡ Root root = sym is ∙ names in
      let z : ⊥ = cc in absurd z
  in_tree e root i names (Under.posted r q is below has) =
      let two : Root r ≡ Root root = sym is ∙ names in
      let same : r ≡ root = cc in
      (q, subst (λ (n : ℕ). Below P n q) same below, has)

  -- an item of the key in the main part is on the leaf to which its way in the key's tree leads
  pub not_main_post : (root p i : ℕ) → IsNamed P k root → TowardItem P i root p → IsPostLeaf (P p).body
      → Main P k i → Contains (posting_items_in (P p).body) i
  not_main_post root p i named way is_leaf m =
      let same : m.entry ≡ named.entry =
      one_named m.page named.page m.entry named.entry m.on m.key named.on named.key in
      let tree = in_tree m.entry root i (ap (λ (e : Entry). e.postings) same ∙ named.names) m.under in
      let there = post_leaf_of (P tree.0).body i tree.2 in
      let here = post_leaf_is (P p).body is_leaf in
      let to = (bounded.postings root tree.0 there.0 there.1 i (IsRoot.of_postings k named) tree.1 there.2 there.3).0 in
      let page : tree.0 ≡ p =
      one_post P i root tree.0 p there.0 here.0 there.1 here.1 to way there.2 here.2 in
      contained i (posting_items_in (P p).body)
      (subst (λ (n : ℕ). In i (posting_items_in (P n).body)) page tree.2)
