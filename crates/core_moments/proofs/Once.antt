-- A walk from a pin reads no page twice.
use Rattle.std.proofs.Common.{◌≡◌, ◌≢◌, ◌⊎◌, ◌<◌, ◌≤◌, ◌+◌, ◌-◌, ℕ, zero, suc, Bool, true, false, cond, List, [], ◌∷◌}
use Rattle.std.proofs.Common.{◌++◌, map, length, length-append, refl, sym, ap, subst, ◌∙◌, inl, inr, arith}
use Rattle.page_types.specs.declared.page.Page.{Page}
use Rattle.core_state.specs.Log.{Pages, In}
use Rattle.core_state.specs.Readings.{Read}
use Rattle.core_state.specs.Trees.Nodes.{Child, Node}
use Rattle.core_state.specs.Trees.Nodes.Node.{other, leaf, inner, gone}
use Rattle.core_state.proofs.Trees.Walk as w
use Rattle.core_state.proofs.Trees.EntryWalk as e
use Rattle.core_state.proofs.Trees.PendWalk as pend
use Rattle.core_moments.specs.Walk.{LeafRead, Sought, Follows, LeadTo, AreLeaves, toward, along, beyond, leaf_reads}
use Rattle.core_moments.specs.Walk.{tree_reads}
use Rattle.core_moments.specs.Law.{ReadOnce}
use Rattle.core_state.proofs.Moments.Apart.{Apart, Linked}
use Rattle.core_state.proofs.Trees.Behind.{Once}
use Rattle.core_state.proofs.Trees.Forward.{HasChild, LinksTo}
use Rattle.core_moments.proofs.Views.{tr, goes, toward_same, along_same, beyond_same}
use Rattle.core_moments.proofs.Words.{upto}
use Rattle.core_state.specs.Trees.Ext.Ext.{at}
use Rattle.core_state.specs.Trees.TreeNodes.{entry_node, post_node}
use Rattle.core_moments.proofs.Walks.{Reads}
use Rattle.core_moments.proofs.Parts.{reads_back}

-- apart in the words of the proofs, and of the definition
pub once_of : (xs : List Read) → Apart (map tr xs) → ReadOnce xs
once_of [] a = tt
once_of (x ∷ xs) a = (λ y i. a.0 (tr y) (Rattle.core_state.proofs.Trees.Members.in_map tr y xs i), once_of xs a.1)

-- the next page is one that the page links to
child_links : {E : Type 0} (test : E → E → Bool) (right : ℕ) (k : E) (cs : List (Child E))
    → (e.child_of test right k cs ≡ right) ⊎ HasChild cs (e.child_of test right k cs)
child_links test right k [] = inl refl
child_links test right k (c ∷ cs) = by (test k c.bound) (child_links test right k cs)
  where
    by : (b : Bool) → (e.child_of test right k cs ≡ right) ⊎ HasChild cs (e.child_of test right k cs)
        → (cond b c.page (e.child_of test right k cs) ≡ right) ⊎ HasChild (c ∷ cs)
        (cond b c.page (e.child_of test right k cs))
    by true more = inr (inl refl)
    by false (inl f) = inl f
    by false (inr h) = inr (inr h)

toward_node : {E : Type 0} (test : E → E → Bool) (k : E) (z : Node E) → e.toward test k z ≢ 0
    → LinksTo z (e.toward test k z)
toward_node test k other off = absurd (off refl)
toward_node test k (leaf right high keys) off = by (test k high) off
  where
    by : (b : Bool) → cond b 0 right ≢ 0 → cond b 0 right ≡ right
    by true n = absurd (n refl)
    by false n = refl
toward_node test k (inner right kids) off = child_links test right k kids
toward_node test k (gone right) off = absurd (off refl)

beyond_node : {E : Type 0} (test : E → Bool) (z : Node E) → e.beyond test z ≢ 0 → LinksTo z (e.beyond test z)
beyond_node test other off = absurd (off refl)
beyond_node test (leaf right high keys) off = by (test high) off
  where
    by : (b : Bool) → cond b right 0 ≢ 0 → cond b right 0 ≡ right
    by true n = refl
    by false n = absurd (n refl)
beyond_node test (inner right kids) off = absurd (off refl)
beyond_node test (gone right) off = absurd (off refl)

along_node : {E : Type 0} (z : Node E) → w.along z ≢ 0 → LinksTo z (w.along z)
along_node other off = absurd (off refl)
along_node (leaf right high keys) off = refl
along_node (inner right []) off = absurd (off refl)
along_node (inner right (c ∷ cs)) off = inr (inl refl)
along_node (gone right) off = refl

to_link : {E : Type 0} (z : Node E) (a b q : ℕ) → a ≡ b → (b ≢ 0 → LinksTo z b) → q ≡ a → q ≢ 0 → LinksTo z q
to_link z a b q e l f off = subst (LinksTo z) (sym (f ∙ e)) (l (λ g. off (f ∙ e ∙ g)))

pub toward_link : (k : Rattle.ts_base.specs.Keys.Key) (p : Page) (q : ℕ) → q ≡ toward k p → q ≢ 0
    → LinksTo (entry_node p) q
toward_link k p q f off = to_link (entry_node p) (toward k p) (e.toward upto (at k) (entry_node p)) q
    (toward_same k p) (toward_node upto (at k) (entry_node p)) f off

pub beyond_link : (s : Sought) (p : Page) (q : ℕ) → q ≡ beyond s p → q ≢ 0 → LinksTo (entry_node p) q
beyond_link s p q f off = to_link (entry_node p) (beyond s p) (e.beyond (goes s) (entry_node p)) q (beyond_same s p)
    (beyond_node (goes s) (entry_node p)) f off

pub along_link : (p : Page) (q : ℕ) → q ≡ along p → q ≢ 0 → LinksTo (post_node p) q
along_link p q f off = to_link (post_node p) (along p) (w.along (post_node p)) q (along_same p)
    (along_node (post_node p)) f off

module _ (P : ℕ → Pages) (end : ℕ) where
  -- reads of a part of a walk rise
  pub rise : (t : ℕ) (xs : List Read) → Reads P t end xs → w.Rising t end (map tr xs)
  rise t [] r = r
  rise t (x ∷ xs) r = (r.0, rise x.length xs r.2)

  leaves_rise : (t : ℕ) (ls : List LeafRead) → Reads P t end (leaf_reads ls)
      → Reads P t end (map (λ (l : LeafRead). l.leaf) ls)
  leaves_rise t [] r = r
  leaves_rise t (l ∷ ls) r = (
    r.0,
    r.1,
    leaves_rise l.leaf.length ls
        (reads_back P l.leaf.length end (tree_reads l.trees) (leaf_reads ls) r.2),
  )

  pub path_reads : (t : ℕ) (xs : List Read) (ls : List LeafRead) → Reads P t end (xs ++ leaf_reads ls)
      → Reads P t end (xs ++ map (λ (l : LeafRead). l.leaf) ls)
  path_reads t [] ls r = leaves_rise t ls r
  path_reads t (x ∷ xs) ls r = (r.0, r.1, path_reads x.length xs ls r.2)

  -- the leaves are linked
  leaves_linked : (t : ℕ) (s : Sought) (p : ℕ) (ls : List LeafRead)
      → Reads P t end (map (λ (l : LeafRead). l.leaf) ls) → AreLeaves s p ls
      → Linked (λ u q. entry_node (P u q)) (map tr (map (λ (l : LeafRead). l.leaf) ls))
  leaves_linked t s p [] r a = tt
  leaves_linked t s p (l ∷ []) r a = tt
  leaves_linked t s p (l ∷ m ∷ ls) r a =
      let next : m.leaf.page ≡ beyond s l.leaf.content = a.3.1 in (
        subst (λ z. LinksTo (entry_node z) m.leaf.page) (sym r.1)
            (beyond_link s l.leaf.content m.leaf.page next (λ f. a.3.0 (sym next ∙ f))),
        (λ f. a.3.0 (sym next ∙ f)),
        leaves_linked l.leaf.length s (beyond s l.leaf.content) (m ∷ ls) r.2 a.3,
      )

  pub path_linked : (t : ℕ) (s : Sought) (k : Rattle.ts_base.specs.Keys.Key) (p q : ℕ) (xs : List Read)
      (ls : List LeafRead) → Reads P t end (xs ++ map (λ (l : LeafRead). l.leaf) ls)
      → LeadTo (toward k) p xs q → AreLeaves s q ls
      → Linked (λ u z. entry_node (P u z)) (map tr (xs ++ map (λ (l : LeafRead). l.leaf) ls))
  path_linked t s k p q [] ls r d a = leaves_linked t s q ls r a
  path_linked t s k p q (x ∷ []) [] r d a = tt
  path_linked t s k p q (x ∷ []) (l ∷ ls) r d a =
      let next : l.leaf.page ≡ toward k x.content = a.1 ∙ sym d.2 in (
        subst (λ z. LinksTo (entry_node z) l.leaf.page) (sym r.1)
            (toward_link k x.content l.leaf.page next (λ f. d.1 (sym next ∙ f))),
        (λ f. d.1 (sym next ∙ f)),
        leaves_linked x.length s q (l ∷ ls) r.2 a,
      )
  path_linked t s k p q (x ∷ y ∷ ys) ls r d a =
      let next : y.page ≡ toward k x.content = d.2.0 in (
        subst (λ z. LinksTo (entry_node z) y.page) (sym r.1)
            (toward_link k x.content y.page next (λ f. d.1 (sym next ∙ f))),
        (λ f. d.1 (sym next ∙ f)),
        path_linked x.length s k (toward k x.content) q (y ∷ ys) ls r.2 d.2 a,
      )

  -- a posting tree's reads are linked
  pub tree_linked : (t p : ℕ) (xs : List Read) → Reads P t end xs → Follows along p xs
      → Linked (λ u z. post_node (P u z)) (map tr xs)
  tree_linked t p [] r f = tt
  tree_linked t p (x ∷ []) r f = tt
  tree_linked t p (x ∷ y ∷ ys) r f =
      let next : y.page ≡ along x.content = f.2.1 in (
        subst (λ z. LinksTo (post_node z) y.page) (sym r.1)
            (along_link x.content y.page next (λ g. f.2.0 (sym next ∙ g))),
        (λ g. f.2.0 (sym next ∙ g)),
        tree_linked x.length (along x.content) (y ∷ ys) r.2 f.2,
      )

-- a chain has no page twice
chain_same : (right : ℕ → ℕ) (p : ℕ) (xs ys : List ℕ) → pend.IsChain right p xs → pend.IsChain right p ys → xs ≡ ys
chain_same right p [] [] a b = refl
chain_same right p [] (y ∷ ys) a b = absurd (b.1 (sym b.0 ∙ a))
chain_same right p (x ∷ xs) [] a b = absurd (a.1 (sym a.0 ∙ b))
chain_same right p (x ∷ xs) (y ∷ ys) a b =
    let same : x ≡ y = sym a.0 ∙ b.0 in
    Rattle.std.proofs.Common.ap₂ (λ (z : ℕ) (zs : List ℕ). z ∷ zs) same
    (chain_same right (right x) xs ys a.2 (subst (λ z. pend.IsChain right (right z) ys) (sym same) b.2))

behind_page : (right : ℕ → ℕ) (p q : ℕ) (xs : List ℕ) → pend.IsChain right p xs → In q xs
    → (ys : List ℕ) × pend.IsChain right (right q) ys × (length ys < length xs)
behind_page right p q [] c i = absurd i
behind_page right p q (x ∷ xs) c (inl f) = (xs, subst (λ z. pend.IsChain right (right z) xs) (sym f) c.2, omega arith)
behind_page right p q (x ∷ xs) c (inr i) = let r = behind_page right (right x) q xs c.2 i in
    (r.0, r.1, omega (arith, r.2))

pub chain_once : (right : ℕ → ℕ) (p : ℕ) (xs : List ℕ) → pend.IsChain right p xs → Once xs
chain_once right p [] c = tt
chain_once right p (x ∷ xs) c = (
  λ i.
      let r = behind_page right (right x) x xs c.2 i in
      let same = ap length (chain_same right (right x) xs r.0 c.2 r.1) in
      omega (arith, same, r.2),
  chain_once right (right x) xs c.2,
)

pub once_pages : (xs : List Read) → Once (pend.pages (map tr xs)) → ReadOnce xs
once_pages [] o = tt
once_pages (x ∷ xs) o = (
  λ y i f. o.0 (subst (λ z. In z (pend.pages (map tr xs))) (sym f) (on y xs i)),
  once_pages xs
      o.1,
)
  where
    on : (y : Read) (ys : List Read) → In y ys → In y.page (pend.pages (map tr ys))
    on y [] j = j
    on y (z ∷ zs) (inl f) = inl (ap (λ (r : Read). r.page) f)
    on y (z ∷ zs) (inr j) = inr (on y zs j)
