-- More steps of a tree: the division of an inner page, a new tree, and the keys of a leaf.
use Rattle.std.specs.Prelude.{◌≡◌, ◌≢◌, ℕ, suc, List, [], ◌∷◌, ◌++◌}
use Rattle.core_state.specs.Log.{In}
use Rattle.core_state.specs.Trees.Nodes.{Order, Child, Node, TreeGhost, AtMost}
use Rattle.core_state.specs.Trees.Nodes.Node.{leaf, inner}
use Rattle.core_state.specs.Trees.Nodes.TreePlace.{none, tree, left}

-- the inner page p of height suc k in the tree r is divided after the child last; the new page is n, the parent q
pub record IsSplitInner {E : Type 0} (N M : ℕ → Node E) (g : TreeGhost E) (p n q r k : ℕ)
    : Type 0 where
  pub at : g.place p ≡ tree r (suc k)
  pub new : g.place n ≡ none
  pub not_zero : n ≢ 0
  pub parent : g.place q ≡ tree r (suc (suc k))
  pub right : ℕ
  pub front : List (Child E)
  pub last : Child E
  pub back : List (Child E)
  pub before : N p ≡ inner right (front ++ last ∷ back)
  pub some : back ≢ []
  pub after_page : M p ≡ inner n (front ++ last ∷ [])
  pub after_new : M n ≡ inner right back
  pub parent_right : ℕ
  pub kids_left : List (Child E)
  pub kids_right : List (Child E)
  pub before_parent : N q ≡ inner parent_right (kids_left ++ record { page = p; bound = g.high p } ∷ kids_right)
  pub after_parent : M q ≡ inner parent_right
      (kids_left ++ record { page = p; bound = last.bound } ∷ record { page = n; bound = g.high p } ∷ kids_right)
  pub else : (x : ℕ) → x ≢ p → x ≢ n → x ≢ q → M x ≡ N x

-- a new page n becomes a tree of one leaf
pub record IsNewTree {E : Type 0} (N M : ℕ → Node E) (g : TreeGhost E) (bottom top : E)
    (o : Order E) (n : ℕ) : Type 0 where
  pub new : g.place n ≡ none
  pub not_zero : n ≢ 0
  pub no_tree : (x h : ℕ) → g.place x ≡ tree n h → ⊥
  pub no_left : (x : ℕ) → g.place x ≡ left n → ⊥
  pub keys : List E
  pub after_new : M n ≡ leaf 0 top keys
  pub within : (k : E) → In k keys → o.less bottom k × AtMost o top k top
  pub else : (x : ℕ) → x ≢ n → M x ≡ N x

-- the keys of the leaf p become others within its bounds
pub record IsNewKeys {E : Type 0} (N M : ℕ → Node E) (g : TreeGhost E) (top : E) (o : Order E) (p r : ℕ) : Type 0 where
  pub at : g.place p ≡ tree r 0
  pub right : ℕ
  pub keys : List E
  pub then : List E
  pub before : N p ≡ leaf right (g.high p) keys
  pub after : M p ≡ leaf right (g.high p) then
  pub within : (k : E) → In k then → o.less (g.low p) k × AtMost o top k (g.high p)
  pub else : (x : ℕ) → x ≢ p → M x ≡ N x
