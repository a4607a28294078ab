-- Trees that hang together below their roots do so after each step.
use Rattle.std.proofs.Common.{◌≡◌, ◌≢◌, ◌⊎◌, ◌≤◌, ℕ, suc, List, [], ◌∷◌, ◌++◌, sym, ap, subst, ◌∙◌, inl, inr}
use Rattle.core_state.specs.Log.{In}
use Rattle.core_state.specs.Trees.Nodes.{Order, Child, Node, TreePlace, TreeGhost, put}
use Rattle.core_state.specs.Trees.Nodes.TreePlace.{none, tree, left}
use Rattle.core_state.specs.Inner.Shapes.{IsNewKeys}
use Rattle.core_state.proofs.PageLists.{same_or_not}
use Rattle.core_state.proofs.Trees.Order.{put_here, put_else, tree_not_none, tree_not_left, same_tree}
use Rattle.core_state.proofs.Trees.Below.{child_pages, children}
use Rattle.core_state.proofs.Law.Rooted.{AreRooted}

-- page y of the tree r is the parent of x, which is at height k
abbrev pub HasParent : {E : Type 0} → (ℕ → Node E) → TreeGhost E → ℕ → ℕ → ℕ → Type 0
HasParent N g x r k = (y : ℕ) × (g.place y ≡ tree r (suc k)) × In x (children (N y))

-- the same as that trees are rooted, page by page
pub record HangsOn {E : Type 0} (bottom top : E) (N : ℕ → Node E) (g : TreeGhost E) : Type 0 where
  pub parent : (x r k : ℕ) → g.place x ≡ tree r k → (x ≡ r) ⊎ HasParent N g x r k
  pub highest : (x r k h : ℕ) → g.place x ≡ tree r k → g.place r ≡ tree r h → k ≤ h
  pub low : (r h : ℕ) → g.place r ≡ tree r h → g.low r ≡ bottom
  pub high : (r h : ℕ) → g.place r ≡ tree r h → g.high r ≡ top
  pub trees : (p r h : ℕ) → g.place p ≡ tree r h → (k : ℕ) × (g.place r ≡ tree r k)
  pub lefts : (p r : ℕ) → g.place p ≡ left r → (k : ℕ) × (g.place r ≡ tree r (suc k))

module _ {E : Type 0} (bottom top : E) (N : ℕ → Node E) (g : TreeGhost E) where
  pub hangs : AreRooted bottom top N g → HangsOn bottom top N g
  hangs A = record {
    parent = λ x r k e. let t = A.trees x r k e in (A.roots r t.0 t.1).parent x k e;
    highest = λ x r k h e f. (A.roots r h f).highest x k e;
    low = A.low;
    high = A.high;
    trees = A.trees;
    lefts = A.lefts;
  }

  pub rooted : HangsOn bottom top N g → AreRooted bottom top N g
  rooted H = record {
    roots = λ r h e. record {
      at_root = e;
      parent = λ x k f. H.parent x r k f;
      highest =
          λ x k f. H.highest x r k h f e;
    };
    low = H.low;
    high = H.high;
    trees = H.trees;
    lefts = H.lefts;
  }

-- the same node has the same children
pub seen : {E : Type 0} (x : ℕ) (a b : Node E) → a ≡ b → In x (children a) → In x (children b)
seen x a b e m = subst (λ (z : Node _). In x (children z)) e m

-- a child's page is among the pages of the children, and some child is after each
pub in_pages : {E : Type 0} (c : Child E) (cs : List (Child E)) → In c cs → In c.page (child_pages cs)
in_pages c [] m = absurd m
in_pages c (d ∷ cs) (inl e) = inl (ap (λ (z : Child _). z.page) e)
in_pages c (d ∷ cs) (inr m) = inr (in_pages c cs m)

pub pages_append : {E : Type 0} (x : ℕ) (xs ys : List (Child E)) → In x (child_pages (xs ++ ys)) → In x (child_pages xs)
    ⊎ In x (child_pages ys)
pages_append x [] ys m = inr m
pages_append x (c ∷ xs) ys (inl e) = inl (inl e)
pages_append x (c ∷ xs) ys (inr m) = elim (pages_append x xs ys m) [ inl a ↦ inl (inr a) | inr b ↦ inr b ]

pub pages_front : {E : Type 0} (x : ℕ) (xs ys : List (Child E)) → In x (child_pages xs) → In x (child_pages (xs ++ ys))
pages_front x [] ys m = absurd m
pages_front x (c ∷ xs) ys (inl e) = inl e
pages_front x (c ∷ xs) ys (inr m) = inr (pages_front x xs ys m)

pub pages_back : {E : Type 0} (x : ℕ) (xs ys : List (Child E)) → In x (child_pages ys) → In x (child_pages (xs ++ ys))
pages_back x [] ys m = m
pages_back x (c ∷ xs) ys m = inr (pages_back x xs ys m)

module _ {E : Type 0} (bottom top : E) (N M : ℕ → Node E) (g : TreeGhost E) (H : HangsOn bottom top N g) where
  -- pages that show the same children, or more
  pub same_places : ((x y r k : ℕ) → g.place y ≡ tree r (suc k) → In x (children (N y)) → In x (children (M y)))
      → HangsOn bottom top M g
  same_places kept = record {
    parent = λ x r k e. elim (H.parent x r k e) [ inl z ↦ inl z | inr y ↦ inr (y.0, y.1, kept x y.0 r k y.1 y.2) ];
    highest = H.highest;
    low = H.low;
    high = H.high;
    trees = H.trees;
    lefts = H.lefts;
  }

  pub quiet_hangs : ((p : ℕ) → g.place p ≢ none → M p ≡ N p) → HangsOn bottom top M g
  quiet_hangs same = same_places (λ x y r k e m.
      subst (λ (z : Node E). In x (children z)) (sym (same y (λ z. tree_not_none r (suc k) (sym e ∙ z)))) m)

  pub new_keys_hang : (o : Order E) (p r : ℕ) → IsNewKeys N M g top o p r → HangsOn bottom top M g
  new_keys_hang o p r V = same_places (λ x y s k e m. elim (same_or_not p y) [
    | inl w ↦ absurd (subst (λ (z : Node E). In x (children z)) (ap N w ∙ V.before) m)
    | inr w ↦ subst (λ (z : Node E). In x (children z)) (sym (V.else y w)) m
  ])

  -- a page n, which was in no tree, gets a place
  module _ (n r h : ℕ) (new : g.place n ≡ none) where
    abbrev places : ℕ → TreePlace
    places = put g.place n (tree r h)

    pub was : (x s k : ℕ) → places x ≡ tree s k → ((x ≡ n) × (r ≡ s) × (h ≡ k)) ⊎ ((x ≢ n) × (g.place x ≡ tree s k))
    was x s k e = elim (same_or_not n x) [
      | inl w ↦ let t = same_tree r s h k (sym (put_here g.place n (tree r h)) ∙ ap places (sym w) ∙ e) in
          inl (w, t.0, t.1)
      | inr w ↦ inr (w, sym (put_else g.place n (tree r h) x w) ∙ e)
    ]

    pub stays : (x s k : ℕ) → g.place x ≡ tree s k → places x ≡ tree s k
    stays x s k e = put_else g.place n (tree r h) x (λ z. tree_not_none s k (sym e ∙ ap g.place z ∙ new)) ∙ e

    pub not_new : (x s k : ℕ) → g.place x ≡ tree s k → x ≢ n
    not_new x s k e z = tree_not_none s k (sym e ∙ ap g.place z ∙ new)

    pub lefts_stay : (x s : ℕ) → places x ≡ left s → g.place x ≡ left s
    lefts_stay x s e = elim (same_or_not n x) [
      | inl w ↦ absurd (tree_not_left r h s (sym (put_here g.place n (tree r h)) ∙ ap places (sym w) ∙ e))
      | inr w ↦ sym (put_else g.place n (tree r h) x w) ∙ e
    ]
