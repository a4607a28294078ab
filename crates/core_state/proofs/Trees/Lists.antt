-- A new tree, and other keys on one leaf, keep the trees sane; so does a step that touches no page of a tree.
use Rattle.std.proofs.Common.{◌≡◌, ◌≢◌, ◌⊎◌, ℕ, suc, refl, sym, ap, subst, subst₂, ◌∙◌, inl, inr, arith}
use Rattle.core_state.specs.Trees.Nodes.{Order, Node, TreePlace, TreeGhost, put, AtMost, RightOk, Kids, LeafOk, InnerOk}
use Rattle.core_state.specs.Trees.Nodes.{LeftOk, Sane}
use Rattle.core_state.specs.Trees.Nodes.Node.{leaf}
use Rattle.core_state.specs.Trees.Nodes.TreePlace.{none, tree, left}
use Rattle.core_state.specs.Inner.Shapes.{IsNewTree, IsNewKeys}
use Rattle.core_state.proofs.PageLists.{same_or_not}
use Rattle.core_state.proofs.Trees.Order.{put_here, put_else, tree_not_none, tree_not_left, left_not_none, same_tree}
use Rattle.core_state.proofs.Trees.Order.{zero_suc, same_leaf}
use Rattle.core_state.proofs.Trees.Kids.{kid_place, kids_kept}

module _ {E : Type 0} (o : Order E) (top : E) (N M : ℕ → Node E) (g : TreeGhost E) (S : Sane o top N g) (same : (p : ℕ)
    → g.place p ≢ none → M p ≡ N p) where
  pub quiet_keeps : Sane o top M g
  quiet_keeps = record {
    leaves = λ p r e. let l = S.leaves p r e in
        record {
          right = l.right;
          keys = l.keys;
          node = same p (λ z. tree_not_none r 0 (sym e ∙ z))
              ∙ l.node;
          within = l.within;
          right_ok = l.right_ok;
        };
    inners = λ p r h e. let l = S.inners p r h e in
        record {
          right = l.right;
          kids = l.kids;
          node = same p (λ z. tree_not_none r (suc h) (sym e ∙ z))
              ∙ l.node;
          kids_ok = l.kids_ok;
          right_ok = l.right_ok;
        };
    lefts = λ p r e. let l = S.lefts p r e in
        record {
          right = l.right;
          node = same p (λ z. left_not_none r (sym e ∙ z)) ∙ l.node;
          there = l.there;
          leads =
              l.leads;
          lower = l.lower;
        };
    span = S.span;
    apart = S.apart;
  }

module _ {E : Type 0} (o : Order E) (top : E) (N M : ℕ → Node E) (g : TreeGhost E) (S : Sane o top N g) (p r : ℕ)
    (V : IsNewKeys N M g top o p r) where
  here : LeafOk o top M g p r
  here = record {
    right = V.right;
    keys = V.then;
    node = V.after;
    within = V.within;
    right_ok = subst (λ (x : ℕ). RightOk o top g r 0 p x)
        (same_leaf _ _ _ _ _ _ (sym (S.leaves p r V.at).node ∙ V.before)).0 (S.leaves p r V.at).right_ok;
  }

  key_leaves : (x r' : ℕ) → g.place x ≡ tree r' 0 → LeafOk o top M g x r'
  key_leaves x r' e = elim (same_or_not p x) [
    | inl w ↦
        let s = same_tree r r' 0 0 (sym V.at ∙ ap g.place (sym w) ∙ e) in
        subst (λ (y : ℕ). LeafOk o top M g y r') (sym w) (subst (λ (y : ℕ). LeafOk o top M g p y) s.0 here)
    | inr w ↦ let l = S.leaves x r' e in
        record { right = l.right; keys = l.keys; node = V.else x w ∙ l.node; within = l.within; right_ok = l.right_ok }
  ]

  pub new_keys_keep : Sane o top M g
  new_keys_keep = record {
    leaves = key_leaves;
    inners = λ x r' h e. let l = S.inners x r' h e in
        record {
          right = l.right;
          kids = l.kids;
          node =
              V.else x (λ z. zero_suc r r' h (sym V.at ∙ ap g.place (sym z) ∙ e)) ∙ l.node;
          kids_ok = l.kids_ok;
          right_ok =
              l.right_ok;
        };
    lefts = λ x r' e. let l = S.lefts x r' e in
        record {
          right = l.right;
          node = V.else x (λ z. tree_not_left r 0 r' (sym V.at ∙ ap g.place (sym z) ∙ e))
              ∙ l.node;
          there = l.there;
          leads = l.leads;
          lower = l.lower;
        };
    span = S.span;
    apart = S.apart;
  }

abbrev pub make_ghost : {E : Type 0} → TreeGhost E → E → E → ℕ → TreeGhost E
make_ghost g bottom top n =
    record { place = put g.place n (tree n 0); low = put g.low n bottom; high = put g.high n top }

module _ {E : Type 0} (o : Order E) (bottom top : E) (wide : o.less bottom top) (N M : ℕ → Node E) (g : TreeGhost E)
    (S : Sane o top N g) (n : ℕ) (V : IsNewTree N M g bottom top o n) where
  g' : TreeGhost E
  g' = make_ghost g bottom top n

  place_new : g'.place n ≡ tree n 0
  unfolding g'
  place_new = put_here g.place n (tree n 0)

  place_else : (x : ℕ) → x ≢ n → g'.place x ≡ g.place x
  unfolding g'
  place_else x h = put_else g.place n (tree n 0) x h

  low_new : g'.low n ≡ bottom
  unfolding g'
  low_new = put_here g.low n bottom

  low_else : (x : ℕ) → x ≢ n → g'.low x ≡ g.low x
  unfolding g'
  low_else x h = put_else g.low n bottom x h

  high_new : g'.high n ≡ top
  unfolding g'
  high_new = put_here g.high n top

  high_else : (x : ℕ) → x ≢ n → g'.high x ≡ g.high x
  unfolding g'
  high_else x h = put_else g.high n top x h

  not_new : (x r h : ℕ) → g.place x ≡ tree r h → x ≢ n
  not_new x r h e w = tree_not_none r h (sym e ∙ ap g.place w ∙ V.new)

  -- a page of a tree is the new one or an old one
  now : (x r h : ℕ) → g'.place x ≡ tree r h → ((x ≡ n) × (n ≡ r) × (0 ≡ h)) ⊎ ((x ≢ n) × (g.place x ≡ tree r h))
  now x r h e = elim (same_or_not n x) [
    | inl w ↦ let s = same_tree n r 0 h (sym place_new ∙ ap g'.place (sym w) ∙ e) in inl (w, s.0, s.1)
    | inr w ↦ inr (w, sym (place_else x w) ∙ e)
  ]

  right_kept : (x r h right : ℕ) → x ≢ n → RightOk o top g r h x right → RightOk o top g' r h x right
  right_kept x r h right w (inl z) = inl (z.0, high_else x w ∙ z.1)
  right_kept x r h right w (inr z) =
      inr (
        z.0,
        place_else right (not_new right r h z.1) ∙ z.1,
        low_else right (not_new right r h z.1) ∙ z.2
            ∙ sym (high_else x w),
      )

  leaf_new : LeafOk o top M g' n n
  leaf_new = record {
    right = 0;
    keys = V.keys;
    node = V.after_new ∙ ap (λ (h : E). leaf 0 h V.keys) (sym high_new);
    within = λ k i. let b = V.within k i in
        (subst (λ (y : E). o.less y k) (sym low_new) b.0, subst (λ (y : E). AtMost o top k y) (sym high_new) b.1);
    right_ok = inl (refl, high_new);
  }

  leaves' : (x r : ℕ) → g'.place x ≡ tree r 0 → LeafOk o top M g' x r
  leaves' x r e = elim (now x r 0 e) [
    | inl a ↦ subst (λ (y : ℕ). LeafOk o top M g' y r) (sym a.0) (subst (λ (y : ℕ). LeafOk o top M g' n y) a.1 leaf_new)
    | inr a ↦
        let l = S.leaves x r a.1 in
        record {
          right = l.right;
          keys = l.keys;
          node = V.else x a.0 ∙ l.node ∙ ap (λ (h : E). leaf l.right h l.keys) (sym (high_else x a.0));
          within = λ k i. (
            subst (λ (y : E). o.less y k) (sym (low_else x a.0)) (l.within k i).0,
            subst (λ (y : E). AtMost o top k y) (sym (high_else x a.0)) (l.within k i).1,
          );
          right_ok = right_kept x r 0 l.right a.0 l.right_ok;
        }
  ]

  no_suc : (h : ℕ) → 0 ≡ suc h → ⊥
  no_suc h e = omega arith

  inners' : (x r h : ℕ) → g'.place x ≡ tree r (suc h) → InnerOk o top M g' x r h
  inners' x r h e = elim (now x r (suc h) e) [
    | inl a ↦ absurd (no_suc h a.2)
    | inr a ↦
        let l = S.inners x r h a.1 in
        record {
          right = l.right;
          kids = l.kids;
          node = V.else x a.0 ∙ l.node;
          kids_ok = subst₂ (λ (s t : E). Kids o top g' r h s l.kids t) (sym (low_else x a.0)) (sym (high_else x a.0))
              (kids_kept o top g g' r h (g.low x) (g.high x) l.kids (λ c i.
              let kd = kid_place o top g r h (g.low x) (g.high x) l.kids (λ (y : ℕ) t. S.span y r h t) l.kids_ok c i in
              let w = not_new c.page r h kd.0 in
              (place_else c.page w, low_else c.page w, high_else c.page w)) l.kids_ok);
          right_ok = right_kept x r (suc h) l.right a.0 l.right_ok;
        }
  ]

  lefts' : (x r : ℕ) → g'.place x ≡ left r → LeftOk o top M g' x r
  lefts' x r e = elim (same_or_not n x) [
    | inl w ↦ absurd (tree_not_left n 0 r (sym place_new ∙ ap g'.place (sym w) ∙ e))
    | inr w ↦
        let l = S.lefts x r (sym (place_else x w) ∙ e) in
        let u : l.right ≢ n = λ z. elim l.leads [
          | inl t ↦ tree_not_none r 0 (sym t ∙ ap g.place z ∙ V.new)
          | inr t ↦ left_not_none r (sym t ∙ ap g.place z ∙ V.new)
        ] in
        record {
          right = l.right;
          node = V.else x w ∙ l.node;
          there = l.there;
          leads = subst (λ (z : TreePlace). (z ≡ tree r 0) ⊎ (z ≡ left r)) (sym (place_else l.right u)) l.leads;
          lower = subst₂ (λ (s t : E). AtMost o top s t) (sym (low_else l.right u)) (sym (low_else x w)) l.lower;
        }
  ]

  span' : (x r h : ℕ) → g'.place x ≡ tree r h → o.less (g'.low x) (g'.high x)
  span' x r h e = elim (now x r h e) [
    | inl a ↦ subst (λ (y : ℕ). o.less (g'.low y) (g'.high y)) (sym a.0)
        (subst₂ (λ (s t : E). o.less s t) (sym low_new) (sym high_new) wide)
    | inr a ↦ subst₂ (λ (s t : E). o.less s t) (sym (low_else x a.0)) (sym (high_else x a.0)) (S.span x r h a.1)
  ]

  apart' : (x y r h : ℕ) → g'.place x ≡ tree r h → g'.place y ≡ tree r h → x ≢ y → AtMost o top (g'.high x) (g'.low y)
      ⊎ AtMost o top (g'.high y) (g'.low x)
  apart' x y r h ex ey ne = elim (now x r h ex) [
    | inl a ↦ elim (now y r h ey) [
      | inl b ↦ absurd (ne (a.0 ∙ sym b.0))
      | inr b ↦ absurd (V.no_tree y h (b.1 ∙ ap (λ (z : ℕ). tree z h) (sym a.1)))
    ]
    | inr a ↦ elim (now y r h ey) [
      | inl b ↦ absurd (V.no_tree x h (a.1 ∙ ap (λ (z : ℕ). tree z h) (sym b.1)))
      | inr b ↦ subst₂ (λ (s t : E). AtMost o top s (g'.low y) ⊎ AtMost o top (g'.high y) t) (sym (high_else x a.0))
          (sym (low_else x a.0))
          (subst₂ (λ (s t : E). AtMost o top (g.high x) s ⊎ AtMost o top t (g.low x)) (sym (low_else y b.0))
          (sym (high_else y b.0)) (S.apart x y r h a.1 b.1 ne))
    ]
  ]

  pub make_keeps : Sane o top M (make_ghost g bottom top n)
  unfolding g'
  make_keeps = record { leaves = leaves'; inners = inners'; lefts = lefts'; span = span'; apart = apart' }
