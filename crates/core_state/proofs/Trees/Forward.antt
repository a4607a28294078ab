-- The pages of trees are in a list in which each link leads on: steps of trees insert pages into it, and never turn
-- two.
use Rattle.std.proofs.Common.{◌≡◌, ◌≢◌, ◌⊎◌, ℕ, zero, suc, List, [], ◌∷◌, ◌++◌, refl, sym, ap, subst, ◌∙◌, inl, inr}
use Rattle.core_state.specs.Log.{In}
use Rattle.core_state.specs.Trees.Nodes.{Order, Child, Node, TreePlace, TreeGhost, put, Sane, IsSplitLeaf, IsDeleteLeaf}
use Rattle.core_state.specs.Trees.Nodes.{split_ghost, delete_ghost}
use Rattle.core_state.specs.Trees.Nodes.Node.{other, leaf, inner, gone}
use Rattle.core_state.specs.Trees.Nodes.TreePlace.{none, tree, left}
use Rattle.core_state.specs.Inner.Shapes.{IsSplitInner, IsNewTree, IsNewKeys}
use Rattle.core_state.proofs.PageLists.{same_or_not}
use Rattle.core_state.proofs.Trees.Order.{put_here, put_else, tree_not_none, left_not_none, same_tree}
use Rattle.core_state.proofs.Trees.Grow.{IsGrow, grow_ghost}
use Rattle.core_state.proofs.Trees.Lists.{make_ghost}
use Rattle.core_state.proofs.Trees.Steps.{Grows, Step}
use Rattle.core_state.proofs.Trees.Behind.{Comes, Once, comes_to, comes_on, Inserts, inserted, insert_in, insert_new}
use Rattle.core_state.proofs.Trees.Behind.{insert_only, insert_keeps, insert_after, insert_once}

abbrev pub HasChild : {E : Type 0} → List (Child E) → ℕ → Type 0
HasChild [] q = ⊥
HasChild (c ∷ cs) q = (q ≡ c.page) ⊎ HasChild cs q

-- the page is a child, or the page after
abbrev pub LinksTo : {E : Type 0} → Node E → ℕ → Type 0
LinksTo other q = ⊥
LinksTo (leaf right high keys) q = q ≡ right
LinksTo (inner right kids) q = (q ≡ right) ⊎ HasChild kids q
LinksTo (gone right) q = q ≡ right

pub child_front : {E : Type 0} (xs ys : List (Child E)) (q : ℕ) → HasChild xs q → HasChild (xs ++ ys) q
child_front [] ys q h = absurd h
child_front (x ∷ xs) ys q (inl e) = inl e
child_front (x ∷ xs) ys q (inr h) = inr (child_front xs ys q h)

pub child_back : {E : Type 0} (xs ys : List (Child E)) (q : ℕ) → HasChild ys q → HasChild (xs ++ ys) q
child_back [] ys q h = h
child_back (x ∷ xs) ys q h = inr (child_back xs ys q h)

pub child_cases : {E : Type 0} (xs ys : List (Child E)) (q : ℕ) → HasChild (xs ++ ys) q → HasChild xs q ⊎ HasChild ys q
child_cases [] ys q h = inr h
child_cases (x ∷ xs) ys q (inl e) = inl (inl e)
child_cases (x ∷ xs) ys q (inr h) = elim (child_cases xs ys q h) [ inl a ↦ inl (inr a) | inr b ↦ inr b ]

-- each page of a tree is once in the list, and no other; each link leads to a page after
pub record Forward {E : Type 0} (N : ℕ → Node E) (g : TreeGhost E) (L : List ℕ) : Type 0 where
  pub once : Once L
  pub on : (p : ℕ) → g.place p ≢ none → In p L
  pub only : (p : ℕ) → In p L → g.place p ≢ none
  pub leads : (p q : ℕ) → g.place p ≢ none → LinksTo (N p) q → q ≢ 0 → Comes L p q

-- the list goes on: what came after a page does so
abbrev pub GoesOn : List ℕ → List ℕ → Type 0
GoesOn L K = (p q : ℕ) → Comes L p q → Comes K p q

module _ {E : Type 0} (o : Order E) (bottom top : E) (N M : ℕ → Node E) (g : TreeGhost E) (nil : g.place 0 ≡ none)
    (L : List ℕ) (F : Forward N g L) where
  abbrev pub Goes : TreeGhost E → Type 0
  Goes g' = (K : List ℕ) × Forward M g' K × GoesOn L K

  link : (p : ℕ) (n : Node E) (q : ℕ) → M p ≡ n → LinksTo (M p) q → LinksTo n q
  link p n q e l = subst (λ z. LinksTo z q) e l

  was : (p : ℕ) (n : Node E) (q : ℕ) → N p ≡ n → LinksTo n q → LinksTo (N p) q
  was p n q e l = subst (λ z. LinksTo z q) (sym e) l

  placed : (p r h : ℕ) → g.place p ≡ tree r h → g.place p ≢ none
  placed p r h at e = tree_not_none r h (sym at ∙ e)

  some : (p : ℕ) → g.place p ≢ none → p ≢ 0
  some p on e = on (ap g.place e ∙ nil)

  quiet : ((p : ℕ) → g.place p ≢ none → M p ≡ N p) → Goes g
  quiet same = (
    L,
    record {
      once = F.once;
      on = F.on;
      only = F.only;
      leads = λ p q at l off. F.leads p q at (subst (λ z. LinksTo z q) (same p at) l) off;
    },
    λ p q c. c,
  )

  new_keys : (p r : ℕ) → IsNewKeys N M g top o p r → Goes g
  new_keys p r V = (
    L,
    record {
      once = F.once;
      on = F.on;
      only = F.only;
      leads = λ x q at l off. elim (same_or_not p x) [
        | inl e ↦ F.leads x q at (subst (λ z. LinksTo (N z) q) (sym e)
            (was p _ q V.before (link p _ q V.after (subst (λ z. LinksTo (M z) q) e l)))) off
        | inr d ↦ F.leads x q at (subst (λ z. LinksTo z q) (V.else x d) l) off
      ];
    },
    λ x q c. c,
  )

  put_place : (n : ℕ) (y : TreePlace) (p : ℕ) → p ≢ n → put g.place n y p ≢ none → g.place p ≢ none
  put_place n y p d at e = at (put_else g.place n y p d ∙ e)

  make : (n : ℕ) → IsNewTree N M g bottom top o n → Goes (make_ghost g bottom top n)
  make n V = (
    n ∷ L,
    record {
      once = (λ i. F.only n i V.new, F.once);
      on = λ p at. elim (same_or_not n p) [ inl e ↦ inl e | inr d ↦ inr (F.on p (put_place n (tree n 0) p d at)) ];
      only = λ p i e. elim (same_or_not n p) [
        | inl same ↦ tree_not_none n 0 (sym (put_here g.place n (tree n 0)) ∙ ap (put g.place n (tree n 0)) (sym same)
            ∙ e)
        | inr d ↦ elim i [ inl same ↦ d same | inr j ↦ F.only p j (sym (put_else g.place n (tree n 0) p d) ∙ e) ]
      ];
      leads = λ p q at l off. elim (same_or_not n p) [
        | inl same ↦ absurd (off (link n _ q V.after_new (subst (λ z. LinksTo (M z) q) same l)))
        | inr d ↦ inr (F.leads p q (put_place n (tree n 0) p d at) (subst (λ z. LinksTo z q) (V.else p d) l) off)
      ];
    },
    λ p q c. inr c,
  )

  -- a new page n comes right after p, to which its links lead on
  module _ (p n r h : ℕ) (y : TreePlace) (at : g.place p ≢ none) (new : g.place n ≡ none) (not_zero : n ≢ 0)
      (some_place : y ≢ none)
      (new_links : (q : ℕ) → LinksTo (M n) q → q ≢ 0 → LinksTo (N p) q)
      (old_links : (x q : ℕ) → x ≢ n → g.place x ≢ none → LinksTo (M x) q → q ≢ 0
      → LinksTo (N x) q ⊎ ((q ≡ n) × ((x ≡ p) ⊎ LinksTo (N x) p)))
      (place' : ℕ → TreePlace) (here : place' n ≡ y) (else : (x : ℕ) → x ≢ n → (place' x ≡ none → g.place x ≡ none)
      × (g.place x ≡ none → place' x ≡ none)) where
    behind_at : (K : List ℕ) → Inserts p n L K → (low high : ℕ → E)
        → Goes (record { place = place'; low = low; high = high })
    behind_at K s low high = (
      K,
      record {
        once = once_then;
        on = λ x i. elim (same_or_not n x) [
          | inl e ↦ subst (λ z. In z K) (sym e) (comes_to K p n (insert_new p n L K s))
          | inr d ↦ insert_in p n L K s x (F.on x (λ e. i ((else x d).1 e)))
        ];
        only = λ x i e. elim (insert_only p n L K s x i) [
          | inl same ↦ some_place (sym here ∙ ap place' (sym same) ∙ e)
          | inr j ↦ elim (same_or_not n x) [
            | inl same ↦ some_place (sym here ∙ ap place' (sym same) ∙ e)
            | inr d ↦ F.only x j ((else x d).0 e)
          ]
        ];
        leads = λ x q i l off. elim (same_or_not n x) [
          | inl e ↦ subst (λ z. Comes K z q) (sym e)
              (insert_after p n L K F.once s q
              (F.leads p q at (new_links q (subst (λ z. LinksTo (M z) q) e l) off) off))
          | inr d ↦ old x q d (λ e. i ((else x d).1 e)) l off
        ];
      },
      insert_keeps p n L K s,
    )
      where
        once_then : Once K
        once_then = insert_once p n L K F.once (λ i. F.only n i new) s

        through : (x q : ℕ) → q ≡ n → g.place x ≢ none → (x ≡ p) ⊎ LinksTo (N x) p → Comes K x q
        through x q e i (inl same) =
            subst (Comes K x) (sym e) (subst (λ z. Comes K z n) (sym same) (insert_new p n L K s))
        through x q e i (inr to_p) = subst (Comes K x) (sym e)
            (comes_on K x p n once_then (insert_keeps p n L K s x p (F.leads x p i to_p (some p at)))
            (insert_new p n L K s))

        old : (x q : ℕ) → x ≢ n → g.place x ≢ none → LinksTo (M x) q → q ≢ 0 → Comes K x q
        old x q d i l off = elim (old_links x q d i l off) [
          | inl k ↦ insert_keeps p n L K s x q (F.leads x q i k off)
          | inr k ↦ through x q k.0 i k.1
        ]

    behind_page : (low high : ℕ → E) → Goes (record { place = place'; low = low; high = high })
    behind_page low high = let k = inserted p n L (F.on p at) in behind_at k.0 k.1 low high

  else_put : (n : ℕ) (y : TreePlace) (x : ℕ) → x ≢ n → (put g.place n y x ≡ none → g.place x ≡ none)
      × (g.place x ≡ none → put g.place n y x ≡ none)
  else_put n y x d = (λ e. sym (put_else g.place n y x d) ∙ e, λ e. put_else g.place n y x d ∙ e)

  -- the parent of a divided page has one link more, to the new page
  parent_links : (q p n right : ℕ) (a b c : E) (xs ys : List (Child E))
      → N q ≡ inner right (xs ++ record { page = p; bound = a } ∷ ys)
      → M q ≡ inner right (xs ++ record { page = p; bound = b } ∷ record { page = n; bound = c } ∷ ys) → (y : ℕ)
      → LinksTo (M q) y
      → LinksTo (N q) y ⊎ ((y ≡ n) × LinksTo (N q) p)
  parent_links q p n right a b c xs ys e f y l = elim (link q _ y f l) [
    | inl same ↦ inl (was q _ y e (inl same))
    | inr child ↦ elim (child_cases xs (record { page = p; bound = b } ∷ record { page = n; bound = c } ∷ ys) y child) [
      | inl i ↦ inl (was q _ y e (inr (child_front xs (record { page = p; bound = a } ∷ ys) y i)))
      | inr (inl same) ↦ inl (was q _ y e (inr (child_back xs (record { page = p; bound = a } ∷ ys) y (inl same))))
      | inr (inr (inl same)) ↦ inr
          (same, was q _ p e (inr (child_back xs (record { page = p; bound = a } ∷ ys) p (inl refl))))
      | inr (inr (inr i)) ↦ inl (was q _ y e (inr (child_back xs (record { page = p; bound = a } ∷ ys) y (inr i))))
    ]
  ]

  -- the links of a page that may be the divided one, its parent, or another
  divided_links : (p n q : ℕ) → ((y : ℕ) → LinksTo (M p) y → LinksTo (N p) y ⊎ (y ≡ n))
      → ((y : ℕ) → LinksTo (M q) y → LinksTo (N q) y ⊎ ((y ≡ n) × LinksTo (N q) p))
      → ((x : ℕ) → x ≢ p → x ≢ n → x ≢ q → M x ≡ N x)
      → (x y : ℕ) → x ≢ n → LinksTo (M x) y → LinksTo (N x) y ⊎ ((y ≡ n) × ((x ≡ p) ⊎ LinksTo (N x) p))
  divided_links p n q own parent else x y d l = elim (same_or_not p x) [
    | inl e ↦ elim (own y (subst (λ z. LinksTo (M z) y) e l)) [
      | inl k ↦ inl (subst (λ z. LinksTo (N z) y) (sym e) k)
      | inr k ↦ inr (k, inl e)
    ]
    | inr off ↦ elim (same_or_not q x) [
      | inl e ↦ elim (parent y (subst (λ z. LinksTo (M z) y) e l)) [
        | inl k ↦ inl (subst (λ z. LinksTo (N z) y) (sym e) k)
        | inr k ↦ inr (k.0, inr (subst (λ z. LinksTo (N z) p) (sym e) k.1))
      ]
      | inr off' ↦ inl (subst (λ z. LinksTo z y) (else x off d off') l)
    ]
  ]

  split_leaf : (p n q r : ℕ) (m : E) → IsSplitLeaf o top N M g p n q r m → Goes (split_ghost o top g p n r 0 m)
  split_leaf p n q r m V =
      behind_page p n r 0 (tree r 0) (placed p r 0 V.at) V.new V.not_zero (tree_not_none r 0)
      (λ y l off. was p _ y V.before (link n _ y V.after_new l))
      (λ x y d at l off. divided_links p n q (λ z k. inr (link p _ z V.after_page k))
      (λ z k. parent_links q p n V.parent_right (g.high p) m (g.high p) V.kids_left V.kids_right V.before_parent
      V.after_parent z k) V.else x y d l)
      (put g.place n (tree r 0)) (put_here g.place n (tree r 0)) (else_put n (tree r 0)) (put g.low n m)
      (put (put g.high n (g.high p)) p m)

  split_inner : (p n q r k : ℕ) (V : IsSplitInner N M g p n q r k)
      → Goes (split_ghost o top g p n r (suc k) V.last.bound)
  split_inner p n q r k V =
      behind_page p n r (suc k) (tree r (suc k)) (placed p r (suc k) V.at) V.new V.not_zero (tree_not_none r (suc k))
      (λ y l off. was p _ y V.before
      (elim (link n _ y V.after_new l) [
        | inl e ↦ inl e
        | inr c ↦
            inr (child_back V.front (V.last ∷ V.back) y (inr c))
      ]))
      (λ x y d at l off. divided_links p n q own
      (λ z j. parent_links q p n V.parent_right (g.high p) V.last.bound
      (g.high p) V.kids_left V.kids_right V.before_parent V.after_parent z j) V.else x y d l)
      (put g.place n (tree r (suc k))) (put_here g.place n (tree r (suc k))) (else_put n (tree r (suc k)))
      (put g.low n V.last.bound) (put (put g.high n (g.high p)) p V.last.bound)
    where
      own : (z : ℕ) → LinksTo (M p) z → LinksTo (N p) z ⊎ (z ≡ n)
      own z l = elim (link p _ z V.after_page l) [
        | inl e ↦ inr e
        | inr c ↦ elim (child_cases V.front (V.last ∷ []) z c) [
          | inl i ↦ inl (was p _ z V.before (inr (child_front V.front (V.last ∷ V.back) z i)))
          | inr (inl e) ↦ inl (was p _ z V.before (inr (child_back V.front (V.last ∷ V.back) z (inl e))))
          | inr (inr no_more) ↦ absurd no_more
        ]
      ]

  module _ (S : Sane o top N g) where
    grown_links : (r n H : ℕ) → IsGrow N M g bottom top r n H → (h : ℕ) → g.place r ≡ tree r h → (y : ℕ)
        → LinksTo (M n) y → y ≢ 0 → LinksTo (N r) y
    grown_links r n H V zero at y l off =
        let ok = S.leaves r r at in
        absurd (off (link n _ y (V.new_leaf ok.right (g.high r) ok.keys ok.node) l))
    grown_links r n H V (suc h) at y l off =
        let ok = S.inners r r h at in
        elim (link n _ y (V.new_inner ok.right ok.kids ok.node) l) [
          | inl e ↦ absurd (off e)
          | inr c ↦ was r _ y ok.node (inr c)
        ]

    grow : (r n H : ℕ) → IsGrow N M g bottom top r n H → Goes (grow_ghost g bottom top r n H)
    grow r n H V =
        behind_page r n r H (tree r H) (placed r r H V.at) V.new V.not_zero (tree_not_none r H)
        (λ y l off. grown_links r n H V H V.at y l off)
        (λ x y d at l off. old x y d l off)
        (put (put g.place n (tree r H)) r (tree r (suc H))) here else (put g.low n bottom) (put g.high n top)
      where
        apart : n ≢ r
        apart e = tree_not_none r H (sym V.at ∙ ap g.place (sym e) ∙ V.new)

        here : put (put g.place n (tree r H)) r (tree r (suc H)) n ≡ tree r H
        here = put_else (put g.place n (tree r H)) r (tree r (suc H)) n apart ∙ put_here g.place n (tree r H)

        else : (x : ℕ) → x ≢ n → (put (put g.place n (tree r H)) r (tree r (suc H)) x ≡ none → g.place x ≡ none)
            × (g.place x ≡ none → put (put g.place n (tree r H)) r (tree r (suc H)) x ≡ none)
        else x d = elim (same_or_not r x) [
          | inl e ↦ (
            λ f. absurd (tree_not_none r (suc H) (sym (put_here (put g.place n (tree r H)) r (tree r (suc H)))
                ∙ ap (put (put g.place n (tree r H)) r (tree r (suc H))) (sym e) ∙ f)),
            λ f. absurd (tree_not_none r H (sym V.at ∙ ap g.place (sym e) ∙ f)),
          )
          | inr off ↦ (
            λ f. (else_put n (tree r H) x d).0 (sym (put_else (put g.place n (tree r H)) r (tree r (suc H)) x off) ∙ f),
            λ f. put_else (put g.place n (tree r H)) r (tree r (suc H)) x off ∙ (else_put n (tree r H) x d).1 f,
          )
        ]

        old : (x y : ℕ) → x ≢ n → LinksTo (M x) y → y ≢ 0 → LinksTo (N x) y ⊎ ((y ≡ n) × ((x ≡ r) ⊎ LinksTo (N x) r))
        old x y d l off = elim (same_or_not r x) [
          | inl e ↦ elim (link r _ y V.root_after (subst (λ z. LinksTo (M z) y) e l)) [
            | inl f ↦ absurd (off f)
            | inr (inl f) ↦ inr (f, inl e)
            | inr (inr no_more) ↦ absurd no_more
          ]
          | inr away ↦ inl (subst (λ z. LinksTo z y) (V.else x away d) l)
        ]

    -- a page whose right link leads to d is a leaf of the same tree
    module _ (d q r : ℕ) (V : IsDeleteLeaf o top N M g d q r) where
      same_leaf_tree : (p h s : ℕ) (high : E) (keys : List E) → g.place p ≡ tree s h → N p ≡ leaf d high keys
          → g.place p ≡ tree r 0
      same_leaf_tree p (suc h) s high keys at e = let ok = S.inners p s h at in
          let f : inner ok.right ok.kids ≡ leaf d high keys = sym ok.node ∙ e in cc
      same_leaf_tree p zero s high keys at e =
          let ok = S.leaves p s at in
          let same : ok.right ≡ d = right_of ok.right d (g.high p) high ok.keys keys (sym ok.node ∙ e) in
          elim ok.right_ok [
            | inl none_behind ↦ absurd (some d (placed d r 0 V.at) (sym same ∙ none_behind.0))
            | inr there ↦ at ∙ ap (λ z. tree z 0) (same_tree s r 0 0 (sym there.1 ∙ ap g.place same ∙ V.at)).0
          ]
        where
          right_of : (a b : ℕ) (x y : E) (xs ys : List E) → leaf a x xs ≡ leaf b y ys → a ≡ b
          right_of a b x y xs ys f = cc

      is_leaf_of : (p : ℕ) (z : TreePlace) (high : E) (keys : List E) → g.place p ≡ z → z ≢ none
          → N p ≡ leaf d high keys
          → g.place p ≡ tree r 0
      is_leaf_of p none high keys at off e = absurd (off refl)
      is_leaf_of p (tree s h) high keys at off e = same_leaf_tree p h s high keys at e
      is_leaf_of p (left s) high keys at off e = let ok = S.lefts p s at in let f : gone ok.right ≡ leaf d high keys =
          sym ok.node ∙ e in cc

      other_links : (p y : ℕ) (z : Node E) → N p ≡ z → g.place p ≢ none → p ≢ d → p ≢ q → LinksTo (M p) y → y ≢ 0
          → Comes L p y
      other_links p y z f at away away' l off = by z f
        where
          kept : ((high : E) (keys : List E) → N p ≡ leaf d high keys → ⊥) → Comes L p y
          kept no_leaf = F.leads p y at (subst (λ w. LinksTo w y) (V.else p away away' no_leaf) l) off

          by : (z : Node E) → N p ≡ z → Comes L p y
          by other e = kept (λ high keys f. let g' : other ≡ leaf d high keys = sym e ∙ f in cc)
          by (inner right kids) e = kept (λ high keys f. let g' : inner right kids ≡ leaf d high keys = sym e ∙ f in cc)
          by (gone right) e = kept (λ high keys f. let g' : gone right ≡ leaf d high keys = sym e ∙ f in cc)
          by (leaf right high keys) e = elim (same_or_not d right) [
            | inl same ↦
                let node : N p ≡ leaf d high keys = e ∙ ap (λ w. leaf w high keys) same in
                let on_r = is_leaf_of p (g.place p) high keys refl at node in
                let to : y ≡ V.right = link p _ y (V.left_leaf p keys high on_r node) l in
                subst (Comes L p) (sym to) (comes_on L p d V.right F.once
                (F.leads p d at (was p _ d node refl) (some d (placed d r 0 V.at)))
                (F.leads d V.right (placed d r 0 V.at) (was d _ V.right V.before refl) (λ w. off (to ∙ w))))
            | inr apart ↦ kept (λ h ks f. let g' : leaf right high keys ≡ leaf d h ks = sym e
                ∙ f in apart (right_is right d high h keys ks g'))
          ]
            where
              right_is : (a b : ℕ) (x y : E) (xs ys : List E) → leaf a x xs ≡ leaf b y ys → a ≡ b
              right_is a b x y xs ys f = cc

      delete : Goes (delete_ghost o top g d V.next.page r)
      delete = (
        L,
        record {
          once = F.once;
          on = λ p at. elim (same_or_not d p) [
            | inl e ↦ F.on p (subst (λ z. g.place z ≢ none) (sym e) (placed d r 0 V.at))
            | inr away ↦ F.on p (λ f. at ((else_put d (left r) p away).1 f))
          ];
          only = λ p i e. elim (same_or_not d p) [
            | inl same ↦ left_not_none r
                (sym (put_here g.place d (left r)) ∙ ap (put g.place d (left r)) (sym same) ∙ e)
            | inr away ↦ F.only p i ((else_put d (left r) p away).0 e)
          ];
          leads = λ p y at l off. elim (same_or_not d p) [
            | inl e ↦ subst (λ z. Comes L z y) (sym e)
                (F.leads d y (placed d r 0 V.at)
                (was d _ y V.before (link d _ y V.after_leaf (subst (λ z. LinksTo (M z) y) e l))) off)
            | inr away ↦ elim (same_or_not q p) [
              | inl e ↦ subst (λ z. Comes L z y) (sym e)
                  (F.leads q y (placed q r 1 V.parent) (of_parent y (subst (λ z. LinksTo (M z) y) e l)) off)
              | inr away' ↦ other_links p y (N p) refl (λ f. at ((else_put d (left r) p away).1 f)) away away' l off
            ]
          ];
        },
        λ p y c. c,
      )
        where
          of_parent : (y : ℕ) → LinksTo (M q) y → LinksTo (N q) y
          of_parent y l = was q _ y V.before_parent (elim (link q _ y V.after_parent l) [
            | inl e ↦ inl e
            | inr c ↦ elim (child_cases V.front (V.next ∷ V.back) y c) [
              | inl i ↦ inr (child_front V.front (record { page = d; bound = g.high d } ∷ V.next ∷ V.back) y i)
              | inr i ↦ inr (child_back V.front (record { page = d; bound = g.high d } ∷ V.next ∷ V.back) y (inr i))
            ]
          ])

    goes : (g' : TreeGhost E) → Goes g' → (h : TreeGhost E) → h ≡ g' → Goes h
    goes g' G h e = subst Goes (sym e) G

    pub grows_forward : (g' : TreeGhost E) → Grows o bottom top N M g g' → Goes g'
    grows_forward g' (Grows.quiet same e) = goes g (quiet same) g' e
    grows_forward g' (Grows.new_keys p r V e) = goes g (new_keys p r V) g' e
    grows_forward g' (Grows.make n V e) = goes _ (make n V) g' e
    grows_forward g' (Grows.split_leaf p n q r m V e) = goes _ (split_leaf p n q r m V) g' e
    grows_forward g' (Grows.split_inner p n q r k V e) = goes _ (split_inner p n q r k V) g' e
    grows_forward g' (Grows.grow r n H V e) = goes _ (grow r n H V) g' e

    pub step_forward : (g' : TreeGhost E) → Step o bottom top N M g g' → Goes g'
    step_forward g' (Step.grows s) = grows_forward g' s
    step_forward g' (Step.delete d q r V e) = goes _ (delete d q r V) g' e
