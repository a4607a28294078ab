-- The division of a leaf, and that of an inner page, keep the trees sane. Children of a divided page change their
-- parent and nothing else.
use Rattle.std.proofs.Common.{◌≡◌, ◌≢◌, ℕ, suc, List, [], ◌∷◌, ◌++◌, sym, ap, subst, subst₂, ◌∙◌, arith}
use Rattle.core_state.specs.Log.{In}
use Rattle.core_state.specs.Trees.Nodes.{Order, Child, Node, TreeGhost, AtMost, RightOk, Kids, LeafOk, InnerOk, Sane}
use Rattle.core_state.specs.Trees.Nodes.{IsSplitLeaf, split_ghost}
use Rattle.core_state.specs.Trees.Nodes.Node.{leaf}
use Rattle.core_state.specs.Inner.Shapes.{IsSplitInner}
use Rattle.core_state.proofs.Trees.Order.{same_leaf, same_inner}
use Rattle.core_state.proofs.Trees.Kids.{kids_front, kids_back, kids_span}
use Rattle.core_state.proofs.Trees.Division.{IsDivision, now, low_page, low_new, high_page, high_new, right_page}
use Rattle.core_state.proofs.Trees.Division.{right_new, kids_below, division_keeps}

zero_not_suc : (h : ℕ) → 0 ≡ suc h → ⊥
zero_not_suc h e = omega arith

module _ {E : Type 0} (o : Order E) (top : E) (N M : ℕ → Node E) (g : TreeGhost E) (S : Sane o top N g)
    (p n q r : ℕ) (m : E) (V : IsSplitLeaf o top N M g p n q r m) where
  pub leaf_division : IsDivision o N M g p n q r 0 m
  leaf_division = record {
    at = V.at;
    new = V.new;
    not_zero = V.not_zero;
    parent = V.parent;
    above = V.above;
    below = V.below;
    parent_right = V.parent_right;
    kids_left = V.kids_left;
    kids_right = V.kids_right;
    before_parent = V.before_parent;
    after_parent = V.after_parent;
    else = V.else;
  }

  abbrev g' : TreeGhost E
  g' = now o top N M g S p n q r 0 m leaf_division

  okp : LeafOk o top N g p r
  okp = S.leaves p r V.at

  node_same : (V.right ≡ okp.right) × (V.keys ≡ okp.keys)
  node_same = let s = same_leaf _ _ _ _ _ _ (sym V.before ∙ okp.node) in (s.0, s.2)

  within : (k : E) → In k V.keys → o.less (g.low p) k × AtMost o top k (g.high p)
  within k i = okp.within k (subst (λ (l : List E). In k l) node_same.1 i)

  leaf_page : LeafOk o top M g' p r
  leaf_page = record {
    right = n;
    keys = V.front;
    node = V.after_page ∙ ap (λ (h : E). leaf n h V.front) (sym (high_page o top N M g S p n q r 0 m leaf_division));
    within = λ k i. let old = V.in_front k i in (
      subst (λ (y : E). o.less y k) (sym (low_page o top N M g S p n q r 0 m leaf_division)) (within k old.0).0,
      subst (λ (y : E). AtMost o top k y) (sym (high_page o top N M g S p n q r 0 m leaf_division)) old.1,
    );
    right_ok = right_page o top N M g S p n q r 0 m leaf_division;
  }

  leaf_new : LeafOk o top M g' n r
  leaf_new = record {
    right = V.right;
    keys = V.back;
    node = V.after_new ∙ ap (λ (h : E). leaf V.right h V.back) (sym (high_new o top N M g S p n q r 0 m leaf_division));
    within = λ k i. let old = V.in_back k i in (
      subst (λ (y : E). o.less y k) (sym (low_new o top N M g S p n q r 0 m leaf_division)) old.1,
      subst (λ (y : E). AtMost o top k y) (sym (high_new o top N M g S p n q r 0 m leaf_division))
          (within k old.0).1,
    );
    right_ok = right_new o top N M g S p n q r 0 m leaf_division V.right
        (subst (λ (x : ℕ). RightOk o top g r 0 p x) (sym node_same.0) okp.right_ok);
  }

  pub split_leaf_keeps : Sane o top M (split_ghost o top g p n r 0 m)
  unfolding now
  split_leaf_keeps = division_keeps o top N M g S p n q r 0 m leaf_division (λ e. (leaf_page, leaf_new))
      (λ h e. absurd (zero_not_suc h e))

cons_some : {A : Type 0} (xs : List A) (c : A) → xs ++ c ∷ [] ≢ []
cons_some [] c e = cc
cons_some (x ∷ xs) c e = cc

module _ {E : Type 0} (o : Order E) (top : E) (N M : ℕ → Node E) (g : TreeGhost E) (S : Sane o top N g)
    (p n q r k : ℕ) (V : IsSplitInner N M g p n q r k) where
  abbrev m : E
  m = V.last.bound

  oki : InnerOk o top N g p r k
  oki = S.inners p r k V.at

  inner_same : (oki.right ≡ V.right) × (oki.kids ≡ V.front ++ V.last ∷ V.back)
  inner_same = same_inner oki.right V.right oki.kids _ (sym oki.node ∙ V.before)

  kids_p : Kids o top g r k (g.low p) (V.front ++ V.last ∷ V.back) (g.high p)
  kids_p = subst (λ (l : List (Child E)). Kids o top g r k (g.low p) l (g.high p)) inner_same.1 oki.kids_ok

  kids_first : Kids o top g r k (g.low p) (V.front ++ V.last ∷ []) m
  kids_first = kids_front o top g r k (g.low p) (g.high p) V.front V.last V.back kids_p

  kids_second : Kids o top g r k m V.back (g.high p)
  kids_second = kids_back o top g r k (g.low p) (g.high p) V.front V.last V.back kids_p

  pub inner_division : IsDivision o N M g p n q r (suc k) m
  inner_division = record {
    at = V.at;
    new = V.new;
    not_zero = V.not_zero;
    parent = V.parent;
    above = kids_span o top g r k (g.low p) m (V.front ++ V.last ∷ []) (λ (y : ℕ) t. S.span y r k t)
        (cons_some V.front V.last) kids_first;
    below = kids_span o top g r k m (g.high p) V.back (λ (y : ℕ) t. S.span y r k t) V.some kids_second;
    parent_right = V.parent_right;
    kids_left = V.kids_left;
    kids_right = V.kids_right;
    before_parent = V.before_parent;
    after_parent = V.after_parent;
    else = V.else;
  }

  abbrev g'' : TreeGhost E
  g'' = now o top N M g S p n q r (suc k) m inner_division

  kids_now : (lo hi : E) (cs : List (Child E)) → Kids o top g r k lo cs hi → Kids o top g'' r k lo cs hi
  kids_now lo hi cs ok = kids_below o top N M g S p n q r (suc k) m inner_division k lo hi cs (ap suc refl_k) ok
    where
      refl_k : k ≡ k
      refl_k = omega arith

  inner_page : InnerOk o top M g'' p r k
  inner_page = record {
    right = n;
    kids = V.front ++ V.last ∷ [];
    node = V.after_page;
    kids_ok = subst₂ (λ (a b : E). Kids o top g'' r k a (V.front ++ V.last ∷ []) b)
        (sym (low_page o top N M g S p n q r (suc k) m inner_division))
        (sym (high_page o top N M g S p n q r (suc k) m inner_division))
        (kids_now (g.low p) m (V.front ++ V.last ∷ []) kids_first);
    right_ok = right_page o top N M g S p n q r (suc k) m inner_division;
  }

  inner_new : InnerOk o top M g'' n r k
  inner_new = record {
    right = V.right;
    kids = V.back;
    node = V.after_new;
    kids_ok = subst₂ (λ (a b : E). Kids o top g'' r k a V.back b)
        (sym (low_new o top N M g S p n q r (suc k) m inner_division))
        (sym (high_new o top N M g S p n q r (suc k) m inner_division)) (kids_now m (g.high p) V.back kids_second);
    right_ok = right_new o top N M g S p n q r (suc k) m inner_division V.right
        (subst (λ (x : ℕ). RightOk o top g r (suc k) p x) inner_same.0 oki.right_ok);
  }

  suc_same : (h : ℕ) → suc k ≡ suc h → k ≡ h
  suc_same h e = omega arith

  suc_not_zero : suc k ≡ 0 → ⊥
  suc_not_zero e = omega arith

  pub split_inner_keeps : Sane o top M (split_ghost o top g p n r (suc k) V.last.bound)
  unfolding now
  split_inner_keeps = division_keeps o top N M g S p n q r (suc k) m inner_division (λ e. absurd (suc_not_zero e))
      (λ h e. subst (λ (z : ℕ). InnerOk o top M g'' p r z × InnerOk o top M g'' n r z) (suc_same h e)
      (inner_page, inner_new))
