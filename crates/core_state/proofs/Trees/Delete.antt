-- The deletion of an empty leaf keeps the trees sane.
use Rattle.std.proofs.Common.{◌≡◌, ◌≢◌, ◌⊎◌, ℕ, suc, List, [], ◌∷◌, ◌++◌, refl, sym, ap, subst, subst₂, ◌∙◌, inl, inr}
use Rattle.std.proofs.Common.{arith}
use mathlib.Core.Logic.{⊎_swap}
use Rattle.core_state.specs.Log.{In}
use Rattle.core_state.specs.Trees.Nodes.{Order, Child, Node, TreePlace, TreeGhost, put, AtMost, RightOk, Kids, LeafOk}
use Rattle.core_state.specs.Trees.Nodes.{InnerOk, LeftOk, Sane, IsDeleteLeaf, delete_ghost}
use Rattle.core_state.specs.Trees.Nodes.Node.{leaf}
use Rattle.core_state.specs.Trees.Nodes.TreePlace.{none, tree, left}
use Rattle.core_state.proofs.PageLists.{same_or_not, in_back}
use Rattle.core_state.proofs.Trees.Order.{put_here, put_else, tree_not_none, tree_not_left, same_tree, zero_suc}
use Rattle.core_state.proofs.Trees.Order.{same_leaf, same_inner, inner_not_leaf, gone_not_leaf, less_at_most}
use Rattle.core_state.proofs.Trees.Order.{at_most_trans}
use Rattle.core_state.proofs.Trees.Members.{in_middle}
use Rattle.core_state.proofs.Trees.Kids.{kid_place, kids_kept, kids_tail}
use Rattle.core_state.proofs.Trees.Find.{one_low, one_high, one_parent}

module _ {E : Type 0} (o : Order E) (top : E) (least : (x : E) → AtMost o top x top) (N M : ℕ → Node E)
    (g : TreeGhost E)
    (S : Sane o top N g)
    (d q r : ℕ) (V : IsDeleteLeaf o top N M g d q r) (nil : g.place 0 ≡ none) where
  spans : (h : ℕ) (y : ℕ) → g.place y ≡ tree r h → o.less (g.low y) (g.high y)
  spans h y e = S.span y r h e

  okq : InnerOk o top N g q r 0
  okq = S.inners q r 0 V.parent

  kids_q : Kids o top g r 0 (g.low q) (V.front ++ record { page = d; bound = g.high d } ∷ V.next ∷ V.back) (g.high q)
  kids_q = subst (λ (l : List (Child E)). Kids o top g r 0 (g.low q) l (g.high q))
      (same_inner _ _ _ _ (sym okq.node ∙ V.before_parent)).1 okq.kids_ok

  tail_q : (mid : E) × Kids o top g r 0 mid (record { page = d; bound = g.high d } ∷ V.next ∷ V.back) (g.high q)
  tail_q = kids_tail o top g r 0 (g.low q) (g.high q) V.front _ kids_q

  n : ℕ
  n = V.next.page

  at_next : g.place n ≡ tree r 0
  unfolding n
  at_next = tail_q.1.3.0

  low_next : g.low n ≡ g.high d
  unfolding n
  low_next = tail_q.1.3.1

  span_d : o.less (g.low d) (g.high d)
  span_d = S.span d r 0 V.at

  span_n : o.less (g.low n) (g.high n)
  span_n = S.span n r 0 at_next

  apart_dn : d ≢ n
  apart_dn e = o.irrefl (g.high d) (subst (λ (z : E). o.less z (g.high d)) (ap g.low e ∙ low_next) span_d)

  high_n_top : AtMost o top (g.high n) top
  high_n_top = least (g.high n)

  right_is : V.right ≡ n
  right_is = go (subst (λ (x : ℕ). RightOk o top g r 0 d x)
      (sym (same_leaf _ _ _ _ _ _ (sym V.before ∙ (S.leaves d r V.at).node)).0) (S.leaves d r V.at).right_ok)
    where
      go : RightOk o top g r 0 d V.right → V.right ≡ n
      go (inl z) = absurd (o.irrefl top
          (less_at_most o top top (g.high n) top (subst (λ (x : E). o.less x (g.high n)) (low_next ∙ z.1) span_n)
          high_n_top))
      go (inr z) = one_low o top N g S V.right n r 0 z.1 at_next (z.2 ∙ sym low_next)

  right_there : V.right ≢ 0
  right_there = go (subst (λ (x : ℕ). RightOk o top g r 0 d x)
      (sym (same_leaf _ _ _ _ _ _ (sym V.before ∙ (S.leaves d r V.at).node)).0) (S.leaves d r V.at).right_ok)
    where
      go : RightOk o top g r 0 d V.right → V.right ≢ 0
      go (inl z) = absurd (o.irrefl top
          (less_at_most o top top (g.high n) top (subst (λ (x : E). o.less x (g.high n)) (low_next ∙ z.1) span_n)
          high_n_top))
      go (inr z) = z.0

  g' : TreeGhost E
  g' = delete_ghost o top g d n r

  place_else : (x : ℕ) → x ≢ d → g'.place x ≡ g.place x
  unfolding g'
  place_else x h = put_else g.place d (left r) x h

  place_d : g'.place d ≡ left r
  unfolding g'
  place_d = put_here g.place d (left r)

  low_else : (x : ℕ) → x ≢ n → g'.low x ≡ g.low x
  unfolding g'
  low_else x h = put_else g.low n (g.low d) x h

  low_n : g'.low n ≡ g.low d
  unfolding g'
  low_n = put_here g.low n (g.low d)

  high_same : (x : ℕ) → g'.high x ≡ g.high x
  unfolding g'
  high_same x = refl

  -- in the new places each page of a tree is an old one
  tree_old : (x r' h : ℕ) → g'.place x ≡ tree r' h → (x ≢ d) × (g.place x ≡ tree r' h)
  tree_old x r' h e =
      let w : x ≢ d = λ z. tree_not_left r' h r (sym e ∙ ap g'.place z ∙ place_d) in
      (w, sym (place_else x w) ∙ e)

  span' : (x r' h : ℕ) → g'.place x ≡ tree r' h → o.less (g'.low x) (g'.high x)
  span' x r' h e = elim (same_or_not n x) [
    | inl w ↦ subst (λ (y : ℕ). o.less (g'.low y) (g'.high y)) (sym w)
        (subst₂ (λ (a b : E). o.less a b) (sym low_n) (sym (high_same n))
        (o.trans _ _ _ span_d (subst (λ (z : E). o.less z (g.high n)) low_next span_n)))
    | inr w ↦ subst₂ (λ (a b : E). o.less a b) (sym (low_else x w)) (sym (high_same x))
        (S.span x r' h (tree_old x r' h e).1)
  ]

  -- the next leaf's wider interval against another page
  wider : (y : ℕ) → y ≢ n → y ≢ d → g.place y ≡ tree r 0 → AtMost o top (g.high n) (g.low y)
      ⊎ AtMost o top (g.high y) (g.low d)
  wider y yn yd e = elim (S.apart d y r 0 V.at e (λ z. yd (sym z))) [
    | inr a ↦ inr a
    | inl a ↦ elim (S.apart n y r 0 at_next e (λ z. yn (sym z))) [
      | inl b ↦ inl b
      | inr b ↦ absurd (o.irrefl (g.low y)
          (less_at_most o top (g.low y) (g.high y) (g.low y) (S.span y r 0 e)
          (at_most_trans o top (g.high y) (g.low n) (g.low y) b
          (subst (λ (z : E). AtMost o top z (g.low y)) (sym low_next) a))))
    ]
  ]

  apart' : (x y r' h : ℕ) → g'.place x ≡ tree r' h → g'.place y ≡ tree r' h → x ≢ y
      → AtMost o top (g'.high x) (g'.low y) ⊎ AtMost o top (g'.high y) (g'.low x)
  unfolding g'
  apart' x y r' h ex ey ne =
      let ox = tree_old x r' h ex in
      let oy = tree_old y r' h ey in
      elim (same_or_not n x) [
        | inl w ↦
            let yn : y ≢ n = λ z. ne (w ∙ sym z) in
            let at_y : g.place y ≡ tree r 0 = oy.1 ∙ sym ox.1 ∙ ap g.place w ∙ at_next in
            subst (λ (z : ℕ). AtMost o top (g.high z) (g'.low y) ⊎ AtMost o top (g.high y) (g'.low z)) (sym w)
            (subst₂ (λ (a b : E). AtMost o top (g.high n) a ⊎ AtMost o top (g.high y) b) (sym (low_else y yn))
            (sym low_n)
            (wider y yn oy.0 at_y))
        | inr w ↦ elim (same_or_not n y) [
          | inl u ↦
              let at_x : g.place x ≡ tree r 0 = ox.1 ∙ sym oy.1 ∙ ap g.place u ∙ at_next in
              subst (λ (z : ℕ). AtMost o top (g.high x) (g'.low z) ⊎ AtMost o top (g.high z) (g'.low x)) (sym u)
              (subst₂ (λ (a b : E). AtMost o top (g.high x) b ⊎ AtMost o top (g.high n) a) (sym (low_else x w))
              (sym low_n) (⊎_swap (wider x w ox.0 at_x)))
          | inr u ↦ subst₂ (λ (a b : E). AtMost o top (g.high x) b ⊎ AtMost o top (g.high y) a) (sym (low_else x w))
              (sym (low_else y u)) (S.apart x y r' h ox.1 oy.1 ne)
        ]
      ]

  -- no page of the leaves' level but one with d's own high bound leads to the next leaf
  not_next : (x right : ℕ) → x ≢ d → g.place x ≡ tree r 0 → g.low right ≡ g.high x → right ≢ n
  not_next x right w e m z = w (one_high o top N g S x d r 0 e V.at (sym m ∙ ap g.low z ∙ low_next))

  right_kept : (x r' h right : ℕ) → x ≢ d → right ≢ d → right ≢ n → RightOk o top g r' h x right
      → RightOk o top g' r' h x right
  unfolding g'
  right_kept x r' h right w v u (inl z) = inl z
  right_kept x r' h right w v u (inr z) = inr (z.0, place_else right v ∙ z.1, low_else right u ∙ z.2)

  next_not_d : (right : ℕ) → g.low right ≡ g.high n → right ≢ d
  next_not_d right m z = o.irrefl (g.high n)
      (subst (λ (t : E). o.less t (g.high n)) (ap g.low (sym z) ∙ m)
      (o.trans (g.low d) (g.high d) (g.high n) span_d (subst (λ (t : E). o.less t (g.high n)) low_next span_n)))

  next_not_n : (right : ℕ) → g.low right ≡ g.high n → right ≢ n
  next_not_n right m z = o.irrefl (g.high n) (subst (λ (t : E). o.less t (g.high n)) (ap g.low (sym z) ∙ m) span_n)

  n_not_q : n ≢ q
  n_not_q z = zero_suc r r 0 (sym at_next ∙ ap g.place z ∙ V.parent)

  leaf_body : (x r' : ℕ) → x ≢ d → g.place x ≡ tree r' 0 → (l : LeafOk o top N g x r') → l.right ≢ d → M x ≡ N x
  leaf_body x r' w e l v = V.else x w (λ z. zero_suc r' r 0 (sym e ∙ ap g.place z ∙ V.parent))
      (λ high keys t. v (sym (same_leaf _ _ _ _ _ _ (sym t ∙ l.node)).0))

  leaf_n : LeafOk o top M g' n r
  unfolding g'
  leaf_n =
      let l = S.leaves n r at_next in
      record {
        right = l.right;
        keys = l.keys;
        node = leaf_body n r (λ z. apart_dn (sym z)) at_next l (not_d l) ∙ l.node;
        within = λ k i. (
          subst (λ (t : E). o.less t k) (sym low_n)
              (o.trans _ _ _ span_d (subst (λ (t : E). o.less t k) low_next (l.within k i).0)),
          (l.within k i).1,
        );
        right_ok = right l.right l.right_ok;
      }
    where
      not_d : (l : LeafOk o top N g n r) → l.right ≢ d
      not_d l = elim l.right_ok [
        | inl z ↦ λ t. no_place t z.0
        | inr z ↦ next_not_d l.right z.2
      ]
        where
          no_place : {x : ℕ} → x ≡ d → x ≡ 0 → ⊥
          no_place t z = tree_not_none r 0 (sym V.at ∙ ap g.place (sym t ∙ z) ∙ nil)

      right : (x : ℕ) → RightOk o top g r 0 n x → RightOk o top g' r 0 n x
      right x (inl z) = inl z
      right x (inr z) = right_kept n r 0 x (λ t. apart_dn (sym t)) (next_not_d x z.2) (next_not_n x z.2) (inr z)

  not_d_unless : (x r' : ℕ) → g.place x ≡ tree r' 0 → (l : LeafOk o top N g x r') → (l.right ≡ d → ⊥)
      ⊎ ((r' ≡ r) × (g.high x ≡ g.low d) × (N x ≡ leaf d (g.high x) l.keys))
  not_d_unless x r' e l = elim (same_or_not d l.right) [
    | inr w ↦ inl w
    | inl w ↦ elim l.right_ok [
      | inl z ↦ absurd (tree_not_none r 0 (sym V.at ∙ ap g.place (sym w ∙ z.0) ∙ nil))
      | inr z ↦
          let same : tree r' 0 ≡ tree r 0 = sym z.1 ∙ ap g.place w ∙ V.at in
          let root : r' ≡ r = cc in
          inr (root, sym z.2 ∙ ap g.low w, l.node ∙ ap (λ (t : ℕ). leaf t (g.high x) l.keys) w)
    ]
  ]

  leaf_else : (x r' : ℕ) → x ≢ n → x ≢ d → g.place x ≡ tree r' 0 → LeafOk o top N g x r' → LeafOk o top M g' x r'
  unfolding g'
  leaf_else x r' xn xd e l = elim (not_d_unless x r' e l) [
    | inl v ↦ record {
      right = l.right;
      keys = l.keys;
      node = leaf_body x r' xd e l v ∙ l.node;
      within = λ k i. (subst (λ (t : E). o.less t k) (sym (low_else x xn)) (l.within k i).0, (l.within k i).1);
      right_ok = elim l.right_ok [
        | inl z ↦ inl z
        | inr z ↦ right_kept x r' 0 l.right xd v
            (λ t. xd (one_high o top N g S x d r' 0 e (V.at ∙ back z.1 t) (sym z.2 ∙ ap g.low t ∙ low_next))) (inr z)
      ];
    }
    | inr v ↦ record {
      right = V.right;
      keys = l.keys;
      node = V.left_leaf x l.keys (g.high x) (e ∙ ap (λ (t : ℕ). tree t 0) v.0) v.2;
      within = λ k i. (subst (λ (t : E). o.less t k) (sym (low_else x xn)) (l.within k i).0, (l.within k i).1);
      right_ok = inr (
        right_there,
        subst (λ (t : ℕ). put g.place d (left r) t ≡ tree r' 0) (sym right_is) (place_else n (λ t. apart_dn (sym t))
            ∙ at_next ∙ ap (λ (t : ℕ). tree t 0) (sym v.0)),
        subst (λ (t : ℕ). put g.low n (g.low d) t ≡ g.high x) (sym right_is) (low_n ∙ sym v.1),
      );
    }
  ]
    where
      back : {y r' : ℕ} → g.place y ≡ tree r' 0 → y ≡ n → tree r 0 ≡ tree r' 0
      back m t = sym at_next ∙ ap g.place (sym t) ∙ m

  leaves' : (x r' : ℕ) → g'.place x ≡ tree r' 0 → LeafOk o top M g' x r'
  leaves' x r' e =
      let old = tree_old x r' 0 e in
      elim (same_or_not n x) [
        | inl w ↦
            let same : tree r' 0 ≡ tree r 0 = sym old.1 ∙ ap g.place w ∙ at_next in
            let root : r ≡ r' = cc in
            subst (λ (y : ℕ). LeafOk o top M g' y r') (sym w) (subst (λ (y : ℕ). LeafOk o top M g' n y) root leaf_n)
        | inr w ↦ leaf_else x r' w old.0 old.1 (S.leaves x r' old.1)
      ]

  lefts' : (x r' : ℕ) → g'.place x ≡ left r' → LeftOk o top M g' x r'
  unfolding g'
  lefts' x r' e = elim (same_or_not d x) [
    | inl w ↦
        let same : left r' ≡ left r = sym e ∙ ap g'.place w ∙ place_d in
        let root : r ≡ r' = cc in
        subst (λ (y : ℕ). LeftOk o top M g' y r') (sym w) (record {
          right = V.right;
          node = V.after_leaf;
          there = right_there;
          leads = inl (subst (λ (t : ℕ). put g.place d (left r) t ≡ tree r' 0) (sym right_is)
              (place_else n (λ t. apart_dn (sym t)) ∙ at_next ∙ ap (λ (t : ℕ). tree t 0) root));
          lower = inr (subst (λ (t : ℕ). put g.low n (g.low d) t ≡ put g.low n (g.low d) d) (sym right_is)
              (low_n ∙ sym (low_else d apart_dn)));
        })
    | inr w ↦
        let old : g.place x ≡ left r' = sym (place_else x w) ∙ e in
        let l = S.lefts x r' old in
        let xn : x ≢ n = λ z. tree_not_left r 0 r' (sym at_next ∙ ap g.place (sym z) ∙ old) in
        record {
          right = l.right;
          node = V.else x w (λ z. tree_not_left r 1 r' (sym V.parent ∙ ap g.place (sym z) ∙ old))
              (λ high keys t. gone_not_leaf l.right d high keys (sym l.node ∙ t)) ∙ l.node;
          there = l.there;
          leads = elim (same_or_not d l.right) [
            | inl t ↦ inr (subst (λ (y : ℕ). put g.place d (left r) y ≡ left r') (sym t) (place_d ∙ root l.leads t))
            | inr t ↦ subst (λ (z : TreePlace). (z ≡ tree r' 0) ⊎ (z ≡ left r')) (sym (place_else l.right t)) l.leads
          ];
          lower = subst (λ (z : E). AtMost o top (put g.low n (g.low d) l.right) z) (sym (low_else x xn))
              (elim (same_or_not n l.right) [
                | inl t ↦ subst (λ (y : ℕ). AtMost o top (put g.low n (g.low d) y) (g.low x)) (sym t)
                    (subst (λ (z : E). AtMost o top z (g.low x)) (sym low_n)
                    (inl (less_at_most o top (g.low d) (g.low n) (g.low x)
                    (subst (λ (z : E). o.less (g.low d) z) (sym low_next) span_d)
                    (subst (λ (y : ℕ). AtMost o top (g.low y) (g.low x)) t l.lower))))
                | inr t ↦ subst (λ (z : E). AtMost o top z (g.low x)) (sym (low_else l.right t)) l.lower
              ]);
        }
  ]
    where
      root : {y : ℕ} → (g.place y ≡ tree r' 0) ⊎ (g.place y ≡ left r') → y ≡ d → left r ≡ left r'
      root (inl z) t = ap left (same_tree r r' 0 0 (sym V.at ∙ ap g.place (sym t) ∙ z)).0
      root (inr z) t = absurd (tree_not_left r 0 r' (sym V.at ∙ ap g.place (sym t) ∙ z))

  lists_q : okq.kids ≡ V.front ++ record { page = d; bound = g.high d } ∷ V.next ∷ V.back
  lists_q = (same_inner _ _ _ _ (sym okq.node ∙ V.before_parent)).1

  -- no other inner page has one of the two as a child
  only_parent : (x r' h : ℕ) (ok : InnerOk o top N g x r' h) → g.place x ≡ tree r' (suc h) → (c k : Child E)
      → In c ok.kids → In k (V.front ++ record { page = d; bound = g.high d } ∷ V.next ∷ V.back) → c.page ≡ k.page
      → x ≡ q
  only_parent x r' h ok e c k i j z =
      one_parent o top N g S x q r r' 0 h ok okq e V.parent c k i
      (subst (λ (l : List (Child E)). In k l) (sym lists_q) j) z

  same_as_before : (c : Child E) → g.place c.page ≡ tree r 0 → c.page ≢ d → c.page ≢ n
      → (g'.place c.page ≡ g.place c.page) × (g'.low c.page ≡ g.low c.page) × (g'.high c.page ≡ g.high c.page)
  same_as_before c e v u = (place_else c.page v, low_else c.page u, high_same c.page)

  forgets : (lo hi : E) (xs : List (Child E))
      → Kids o top g r 0 lo (xs ++ record { page = d; bound = g.high d } ∷ V.next ∷ V.back) hi
      → Kids o top g' r 0 lo (xs ++ V.next ∷ V.back) hi
  unfolding n
  forgets lo hi [] ok = (
    place_else n (λ t. apart_dn (sym t)) ∙ at_next,
    low_n ∙ ok.1,
    high_same n ∙ ok.3.2,
    kids_kept o top g g' r 0 V.next.bound hi V.back (λ c i.
        let k = kid_place o top g r 0 V.next.bound hi V.back (spans 0) ok.3.3 c i in
        let high_at : AtMost o top (g.high n) (g.low c.page) =
        subst (λ (t : E). AtMost o top t (g.low c.page)) (sym ok.3.2) k.1 in
        same_as_before c k.0
        (λ z. o.irrefl (g.low d) (o.trans _ _ _ span_d
        (subst (λ (t : E). o.less t (g.low d)) low_next
        (less_at_most o top (g.low n) (g.high n) (g.low d) span_n
        (subst (λ (y : ℕ). AtMost o top (g.high n) (g.low y)) z high_at)))))
        (λ z. o.irrefl (g.low n) (less_at_most o top (g.low n) (g.high n) (g.low n) span_n
        (subst (λ (y : ℕ). AtMost o top (g.high n) (g.low y)) z high_at)))) ok.3.3,
  )
  forgets lo hi (x ∷ xs) ok =
      let kd = kid_place o top g r 0 x.bound hi _ (spans 0) ok.3 (record { page = d; bound = g.high d })
      (in_middle xs _ _) in
      let kn = kid_place o top g r 0 x.bound hi _ (spans 0) ok.3 V.next (in_back V.next xs _ (inr (inl refl))) in
      let xd : x.page ≢ d = λ z.
      o.irrefl (g.low d) (less_at_most o top (g.low d) (g.high d) (g.low d) span_d
      (subst (λ (t : E). AtMost o top t (g.low d)) (sym ok.2 ∙ ap g.high z) kd.1)) in
      let xn : x.page ≢ n = λ z.
      o.irrefl (g.low n) (less_at_most o top (g.low n) (g.high n) (g.low n) span_n
      (subst (λ (t : E). AtMost o top t (g.low n)) (sym ok.2 ∙ ap g.high z) kn.1)) in
      (place_else x.page xd ∙ ok.0, low_else x.page xn ∙ ok.1, high_same x.page ∙ ok.2, forgets x.bound hi xs ok.3)

  inner_right : (x r' h right : ℕ) → RightOk o top g r' (suc h) x right → RightOk o top g' r' (suc h) x right
  unfolding g'
  inner_right x r' h right (inl z) = inl z
  inner_right x r' h right (inr z) =
      inr (
        z.0,
        place_else right (λ t. zero_suc r r' h (sym V.at ∙ ap g.place (sym t) ∙ z.1))
            ∙ z.1,
        low_else right (λ t. zero_suc r r' h (sym at_next ∙ ap g.place (sym t) ∙ z.1)) ∙ z.2,
      )

  inners' : (x r' h : ℕ) → g'.place x ≡ tree r' (suc h) → InnerOk o top M g' x r' h
  unfolding n
  inners' x r' h e =
      let old = (tree_old x r' (suc h) e).1 in
      let xd = (tree_old x r' (suc h) e).0 in
      let xn : x ≢ n = λ z. zero_suc r r' h (sym at_next ∙ ap g.place (sym z) ∙ old) in
      elim (same_or_not q x) [
        | inl v ↦
            let same : tree r' (suc h) ≡ tree r 1 = sym old ∙ ap g.place v ∙ V.parent in
            let root : r ≡ r' = cc in
            let height : suc 0 ≡ suc h = cc in
            let low_height : 0 ≡ h = omega arith in
            subst (λ (y : ℕ). InnerOk o top M g' y r' h) (sym v)
            (subst₂ (λ (a b : ℕ). InnerOk o top M g' q a b) root low_height inner_q)
        | inr v ↦
            let l = S.inners x r' h old in
            record {
              right = l.right;
              kids = l.kids;
              node = V.else x xd v (λ high keys t. inner_not_leaf l.right d l.kids high keys (sym l.node ∙ t)) ∙ l.node;
              kids_ok = subst₂ (λ (a b : E). Kids o top g' r' h a l.kids b) (sym (low_else x xn)) (sym (high_same x))
                  (kids_kept o top g g' r' h (g.low x) (g.high x) l.kids (λ c i. (
                    place_else c.page (λ z. v
                        (only_parent x r' h l old c (record {
                          page = d;
                          bound = g.high d;
                        }) i (in_middle V.front _ _) z)),
                    low_else c.page (λ z. v (only_parent x r' h l old c V.next i
                        (in_back V.next V.front _ (inr (inl refl))) z)),
                    high_same c.page,
                  )) l.kids_ok);
              right_ok = inner_right x r' h l.right l.right_ok;
            }
      ]
    where
      q_not_n : q ≢ n
      q_not_n z = n_not_q (sym z)

      inner_q : InnerOk o top M g' q r 0
      inner_q = record {
        right = V.parent_right;
        kids = V.front ++ V.next ∷ V.back;
        node = V.after_parent;
        kids_ok = subst₂ (λ (a b : E). Kids o top g' r 0 a (V.front ++ V.next ∷ V.back) b) (sym (low_else q q_not_n))
            (sym (high_same q)) (forgets (g.low q) (g.high q) V.front kids_q);
        right_ok = inner_right q r 0 V.parent_right
            (subst (λ (y : ℕ). RightOk o top g r 1 q y) (same_inner _ _ _ _ (sym okq.node ∙ V.before_parent)).0
            okq.right_ok);
      }

  pub delete_keeps : Sane o top M (delete_ghost o top g d V.next.page r)
  unfolding g' n
  delete_keeps = record { leaves = leaves'; inners = inners'; lefts = lefts'; span = span'; apart = apart' }

  pub low_next_page : g.low V.next.page ≡ g.high d
  unfolding n
  low_next_page = low_next
