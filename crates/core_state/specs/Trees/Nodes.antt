-- Trees by local facts: each page of a tree has a place and an interval.
use Rattle.std.specs.Prelude.{◌≡◌, ◌≢◌, ◌⊎◌, ℕ, suc, List, [], ◌∷◌, ◌++◌, ◌==◌, cond}
use Rattle.core_state.specs.Log.{In}

-- a strict order
pub record Order (E : Type 0) : Type 1 where
  pub less : E → E → Type 0
  pub trans : (a b c : E) → less a b → less b c → less a c
  pub irrefl : (a : E) → less a a → ⊥
  pub total : (a b : E) → less a b ⊎ ((a ≡ b) ⊎ less b a)

pub record Child (E : Type 0) : Type 0 where
  pub page : ℕ
  pub bound : E

pub data Node (E : Type 0) : Type 0 where
  other : Node E
  leaf : ℕ → E → List E → Node E
  inner : ℕ → List (Child E) → Node E
  gone : ℕ → Node E

pub data TreePlace : Type 0 where
  none : TreePlace
  tree : ℕ → ℕ → TreePlace
  left : ℕ → TreePlace

pub record TreeGhost (E : Type 0) : Type 0 where
  pub place : ℕ → TreePlace
  pub low : ℕ → E
  pub high : ℕ → E

abbrev pub put : {A : Type 0} → (ℕ → A) → ℕ → A → ℕ → A
put f p x q = cond (p == q) x (f q)

module _ {E : Type 0} (o : Order E) (top : E) where
  abbrev pub AtMost : E → E → Type 0
  AtMost a b = o.less a b ⊎ (a ≡ b)

  abbrev pub RightOk : TreeGhost E → ℕ → ℕ → ℕ → ℕ → Type 0
  RightOk g r h p right = ((right ≡ 0) × (g.high p ≡ top))
      ⊎ ((right ≢ 0) × (g.place right ≡ tree r h) × (g.low right ≡ g.high p))

  abbrev pub Kids : TreeGhost E → ℕ → ℕ → E → List (Child E) → E → Type 0
  Kids g r h lo [] hi = lo ≡ hi
  Kids g r h lo (c ∷ cs) hi = (g.place c.page ≡ tree r h) × (g.low c.page ≡ lo) × (g.high c.page ≡ c.bound)
      × Kids g r h c.bound cs hi

  pub record LeafOk (N : ℕ → Node E) (g : TreeGhost E) (p r : ℕ) : Type 0 where
    pub right : ℕ
    pub keys : List E
    pub node : N p ≡ leaf right (g.high p) keys
    pub within : (k : E) → In k keys → o.less (g.low p) k × AtMost k (g.high p)
    pub right_ok : RightOk g r 0 p right

  pub record InnerOk (N : ℕ → Node E) (g : TreeGhost E) (p r h : ℕ) : Type 0 where
    pub right : ℕ
    pub kids : List (Child E)
    pub node : N p ≡ inner right kids
    pub kids_ok : Kids g r h (g.low p) kids (g.high p)
    pub right_ok : RightOk g r (suc h) p right

  pub record LeftOk (N : ℕ → Node E) (g : TreeGhost E) (p r : ℕ) : Type 0 where
    pub right : ℕ
    pub node : N p ≡ gone right
    pub there : right ≢ 0
    pub leads : (g.place right ≡ tree r 0) ⊎ (g.place right ≡ left r)
    pub lower : AtMost (g.low right) (g.low p)

  pub record Sane (N : ℕ → Node E) (g : TreeGhost E) : Type 0 where
    pub leaves : (p r : ℕ) → g.place p ≡ tree r 0 → LeafOk N g p r
    pub inners : (p r h : ℕ) → g.place p ≡ tree r (suc h) → InnerOk N g p r h
    pub lefts : (p r : ℕ) → g.place p ≡ left r → LeftOk N g p r
    pub span : (p r h : ℕ) → g.place p ≡ tree r h → o.less (g.low p) (g.high p)
    pub apart : (p q r h : ℕ) → g.place p ≡ tree r h → g.place q ≡ tree r h → p ≢ q → AtMost (g.high p) (g.low q)
        ⊎ AtMost (g.high q) (g.low p)

  -- the leaf p of the tree r is divided at m; the new page is n, the parent q
  pub record IsSplitLeaf (N M : ℕ → Node E) (g : TreeGhost E) (p n q r : ℕ) (m : E) : Type 0 where
    pub at : g.place p ≡ tree r 0
    pub new : g.place n ≡ none
    pub not_zero : n ≢ 0
    pub parent : g.place q ≡ tree r 1
    pub right : ℕ
    pub keys : List E
    pub front : List E
    pub back : List E
    pub before : N p ≡ leaf right (g.high p) keys
    pub after_page : M p ≡ leaf n m front
    pub after_new : M n ≡ leaf right (g.high p) back
    pub above : o.less (g.low p) m
    pub below : o.less m (g.high p)
    pub in_front : (k : E) → In k front → In k keys × AtMost k m
    pub in_back : (k : E) → In k back → In k keys × o.less m k
    pub kept : (k : E) → In k keys → In k front ⊎ In k back
    pub parent_right : ℕ
    pub kids_left : List (Child E)
    pub kids_right : List (Child E)
    pub before_parent : N q ≡ inner parent_right (kids_left ++ record { page = p; bound = g.high p } ∷ kids_right)
    pub after_parent : M q ≡ inner parent_right
        (kids_left ++ record { page = p; bound = m } ∷ record { page = n; bound = g.high p } ∷ kids_right)
    pub else : (x : ℕ) → x ≢ p → x ≢ n → x ≢ q → M x ≡ N x

  abbrev pub split_ghost : TreeGhost E → ℕ → ℕ → ℕ → ℕ → E → TreeGhost E
  split_ghost g p n r h m =
      record { place = put g.place n (tree r h); low = put g.low n m; high = put (put g.high n (g.high p)) p m }

  -- the empty leaf d is deleted: its left leaf and its parent forget it
  pub record IsDeleteLeaf (N M : ℕ → Node E) (g : TreeGhost E) (d q r : ℕ) : Type 0 where
    pub at : g.place d ≡ tree r 0
    pub parent : g.place q ≡ tree r 1
    pub right : ℕ
    pub before : N d ≡ leaf right (g.high d) []
    pub after_leaf : M d ≡ gone right
    pub parent_right : ℕ
    pub front : List (Child E)
    pub next : Child E
    pub back : List (Child E)
    pub before_parent : N q ≡ inner parent_right (front ++ record { page = d; bound = g.high d } ∷ next ∷ back)
    pub after_parent : M q ≡ inner parent_right (front ++ next ∷ back)
    pub left_leaf : (x keys : _) (high : E) → g.place x ≡ tree r 0 → N x ≡ leaf d high keys → M x ≡ leaf right high keys
    pub else : (x : ℕ) → x ≢ d → x ≢ q → ((high : E) (keys : List E) → N x ≡ leaf d high keys → ⊥) → M x ≡ N x

  abbrev pub delete_ghost : TreeGhost E → ℕ → ℕ → ℕ → TreeGhost E
  delete_ghost g d n r = record { place = put g.place d (left r); low = put g.low n (g.low d); high = g.high }
