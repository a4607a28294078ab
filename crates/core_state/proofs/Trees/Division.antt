-- A page of any height is divided, and its parent names the new page after it: what this leaves as it was.
use Rattle.std.proofs.Common.{◌≡◌, ◌≢◌, ◌⊎◌, ℕ, suc, List, [], ◌∷◌, ◌++◌, sym, ap, subst, subst₂, ◌∙◌, inl, inr, arith}
use mathlib.Core.Logic.{⊎_swap}
use Rattle.core_state.specs.Log.{In}
use Rattle.core_state.specs.Trees.Nodes.{Order, Child, Node, TreePlace, TreeGhost, put, AtMost, RightOk, Kids, LeafOk}
use Rattle.core_state.specs.Trees.Nodes.{InnerOk, LeftOk, Sane, split_ghost}
use Rattle.core_state.specs.Trees.Nodes.Node.{leaf, inner}
use Rattle.core_state.specs.Trees.Nodes.TreePlace.{none, tree, left}
use Rattle.core_state.proofs.PageLists.{same_or_not}
use Rattle.core_state.proofs.Trees.Order.{put_here, put_else, tree_not_none, tree_not_left, left_not_none, same_tree}
use Rattle.core_state.proofs.Trees.Order.{zero_suc, same_suc, same_inner, less_at_most, at_most_less}
use Rattle.core_state.proofs.Trees.Members.{in_middle}
use Rattle.core_state.proofs.Trees.Kids.{kid_place, kids_kept}
use Rattle.core_state.proofs.Trees.Find.{not_before, kid_of, one_parent}

-- the page p of height H in the tree r is divided at m; the new page is n, the parent q
pub record IsDivision {E : Type 0} (o : Order E) (N M : ℕ → Node E) (g : TreeGhost E) (p n q r H : ℕ)
    (m : E) : Type 0 where
  pub at : g.place p ≡ tree r H
  pub new : g.place n ≡ none
  pub not_zero : n ≢ 0
  pub parent : g.place q ≡ tree r (suc H)
  pub above : o.less (g.low p) m
  pub below : o.less m (g.high p)
  pub parent_right : ℕ
  pub kids_left : List (Child E)
  pub kids_right : List (Child E)
  pub before_parent : N q ≡ inner parent_right (kids_left ++ record { page = p; bound = g.high p } ∷ kids_right)
  pub after_parent : M q ≡ inner parent_right
      (kids_left ++ record { page = p; bound = m } ∷ record { page = n; bound = g.high p } ∷ kids_right)
  pub else : (x : ℕ) → x ≢ p → x ≢ n → x ≢ q → M x ≡ N x

module _ {E : Type 0} (o : Order E) (top : E) (N M : ℕ → Node E) (g : TreeGhost E) (S : Sane o top N g)
    (p n q r H : ℕ) (m : E) (V : IsDivision o N M g p n q r H m) where
  new_apart : (x r' h : ℕ) → g.place x ≡ tree r' h → x ≢ n
  new_apart x r' h e w = tree_not_none r' h (sym e ∙ ap g.place w ∙ V.new)

  page_new : p ≢ n
  page_new = new_apart p r H V.at

  unfoldable pub now : TreeGhost E
  now = split_ghost o top g p n r H m

  place_else : (x : ℕ) → x ≢ n → now.place x ≡ g.place x
  unfolding now
  place_else x h = put_else g.place n (tree r H) x h

  pub place_new : now.place n ≡ tree r H
  unfolding now
  place_new = put_here g.place n (tree r H)

  low_else : (x : ℕ) → x ≢ n → now.low x ≡ g.low x
  unfolding now
  low_else x h = put_else g.low n m x h

  pub low_page : now.low p ≡ g.low p
  low_page = low_else p page_new

  pub low_new : now.low n ≡ m
  unfolding now
  low_new = put_here g.low n m

  high_else : (x : ℕ) → x ≢ n → x ≢ p → now.high x ≡ g.high x
  unfolding now
  high_else x h k = put_else (put g.high n (g.high p)) p m x k ∙ put_else g.high n (g.high p) x h

  pub high_page : now.high p ≡ m
  unfolding now
  high_page = put_here (put g.high n (g.high p)) p m

  pub high_new : now.high n ≡ g.high p
  unfolding now
  high_new = put_else (put g.high n (g.high p)) p m n (λ e. page_new (sym e)) ∙ put_here g.high n (g.high p)

  -- a page that has a place now is the new one, the divided one, or another with its place
  pub data Was (x r' h : ℕ) : Type 0 where
    is_new : x ≡ n → r ≡ r' → H ≡ h → Was x r' h
    is_page : x ≡ p → r ≡ r' → H ≡ h → Was x r' h
    is_other : x ≢ n → x ≢ p → g.place x ≡ tree r' h → Was x r' h

  pub was : (x r' h : ℕ) → now.place x ≡ tree r' h → Was x r' h
  was x r' h e = elim (same_or_not n x) [
    | inl w ↦ let s = same_tree r r' H h (sym place_new ∙ ap now.place (sym w) ∙ e) in Was.is_new w s.0 s.1
    | inr w ↦ let old : g.place x ≡ tree r' h = sym (place_else x w) ∙ e in elim (same_or_not p x) [
      | inl v ↦ let s = same_tree r r' H h (sym V.at ∙ ap g.place (sym v) ∙ old) in Was.is_page v s.0 s.1
      | inr v ↦ Was.is_other w v old
    ]
  ]

  spans : (x r' h : ℕ) → now.place x ≡ tree r' h → o.less (now.low x) (now.high x)
  spans x r' h e = elim (was x r' h e) [
    | is_new w _ _ ↦ subst (λ (y : ℕ). o.less (now.low y) (now.high y)) (sym w) (rw (low_new, high_new) V.below)
    | is_page v _ _ ↦ subst (λ (y : ℕ). o.less (now.low y) (now.high y)) (sym v) (rw (low_page, high_page) V.above)
    | is_other w v old ↦ rw (low_else x w, high_else x w v) (S.span x r' h old)
  ]

  -- a link to a page of the level before leads there now
  link_kept : (r' h right : ℕ) (a b : E) → g.place right ≡ tree r' h → g.low right ≡ a → b ≡ a
      → (now.place right ≡ tree r' h) × (now.low right ≡ b)
  link_kept r' h right a b e l same = let w = new_apart right r' h e in
      (place_else right w ∙ e, low_else right w ∙ l ∙ sym same)

  right_kept : (x r' h right : ℕ) → x ≢ n → x ≢ p → RightOk o top g r' h x right → RightOk o top now r' h x right
  right_kept x r' h right w v (inl z) = inl (z.0, high_else x w v ∙ z.1)
  right_kept x r' h right w v (inr z) = let k =
      link_kept r' h right (g.high x) (now.high x) z.1 z.2 (high_else x w v) in inr (z.0, k.0, k.1)

  -- the divided page leads to the new one, and that to where the divided page led
  pub right_page : RightOk o top now r H p n
  right_page = inr (V.not_zero, place_new, low_new ∙ sym high_page)

  pub right_new : (right : ℕ) → RightOk o top g r H p right → RightOk o top now r H n right
  right_new right (inl z) = inl (z.0, high_new ∙ z.1)
  right_new right (inr z) = let k = link_kept r H right (g.high p) (now.high n) z.1 z.2 high_new in inr (z.0, k.0, k.1)

  abbrev Apart : ℕ → ℕ → Type 0
  Apart x y = AtMost o top (now.high x) (now.low y) ⊎ AtMost o top (now.high y) (now.low x)

  new_against : (y : ℕ) → y ≢ n → g.place y ≡ tree r H → Apart n y
  new_against y ne e = elim (same_or_not p y) [
    | inl v ↦ inr (inr (ap now.high v ∙ high_page ∙ sym low_new))
    | inr v ↦ elim (S.apart p y r H V.at e (λ z. v (sym z))) [
      | inl a ↦ inl (subst₂ (λ (u w : E). AtMost o top u w) (sym high_new) (sym (low_else y ne)) a)
      | inr a ↦ inr (subst₂ (λ (u w : E). AtMost o top u w) (sym (high_else y ne v)) (sym low_new)
          (inl (at_most_less o top (g.high y) (g.low p) m a V.above)))
    ]
  ]

  page_against : (y : ℕ) → y ≢ n → y ≢ p → g.place y ≡ tree r H → Apart p y
  page_against y ne v e = elim (S.apart p y r H V.at e (λ z. v (sym z))) [
    | inl a ↦ inl (subst₂ (λ (u w : E). AtMost o top u w) (sym high_page) (sym (low_else y ne))
        (inl (less_at_most o top m (g.high p) (g.low y) V.below a)))
    | inr a ↦ inr (subst₂ (λ (u w : E). AtMost o top u w) (sym (high_else y ne v)) (sym low_page) a)
  ]

  others_apart : (x y r' h : ℕ) → x ≢ n → x ≢ p → y ≢ n → y ≢ p → g.place x ≡ tree r' h → g.place y ≡ tree r' h → x ≢ y
      → Apart x y
  others_apart x y r' h a b c d ex ey ne =
      rw (high_else x a b, low_else x a, high_else y c d, low_else y c) (S.apart x y r' h ex ey ne)

  level : (y r' h : ℕ) → g.place y ≡ tree r' h → r ≡ r' → H ≡ h → g.place y ≡ tree r H
  level y r' h e a b = subst₂ (λ (s t : ℕ). g.place y ≡ tree s t) (sym a) (sym b) e

  aparts : (x y r' h : ℕ) → now.place x ≡ tree r' h → now.place y ≡ tree r' h → x ≢ y → Apart x y
  aparts x y r' h ex ey ne = elim (was x r' h ex) [
    | is_new w a b ↦
        let yn : y ≢ n = λ z. ne (w ∙ sym z) in
        subst (λ (z : ℕ). Apart z y) (sym w) (new_against y yn (level y r' h (sym (place_else y yn) ∙ ey) a b))
    | is_page v a b ↦ elim (was y r' h ey) [
      | is_new u _ _ ↦ subst₂ Apart (sym v) (sym u) (⊎_swap (new_against p page_new V.at))
      | is_page u _ _ ↦ absurd (ne (v ∙ sym u))
      | is_other u t old ↦ subst (λ (z : ℕ). Apart z y) (sym v) (page_against y u t (level y r' h old a b))
    ]
    | is_other w v old ↦ elim (was y r' h ey) [
      | is_new u a b ↦ subst (λ (z : ℕ). Apart x z) (sym u) (⊎_swap (new_against x w (level x r' h old a b)))
      | is_page u a b ↦ subst (λ (z : ℕ). Apart x z) (sym u) (⊎_swap (page_against x w v (level x r' h old a b)))
      | is_other u t old_y ↦ others_apart x y r' h w v u t old old_y ne
    ]
  ]

  -- what was left of a tree stays
  lefts' : (x r' : ℕ) → now.place x ≡ left r' → LeftOk o top M now x r'
  lefts' x r' e = elim (same_or_not n x) [
    | inl w ↦ absurd (tree_not_left r H r' (sym place_new ∙ ap now.place (sym w) ∙ e))
    | inr w ↦
        let old : g.place x ≡ left r' = sym (place_else x w) ∙ e in
        let l = S.lefts x r' old in
        let not_page : x ≢ p = λ z. tree_not_left r H r' (sym V.at ∙ ap g.place (sym z) ∙ old) in
        let not_parent : x ≢ q = λ z. tree_not_left r (suc H) r' (sym V.parent ∙ ap g.place (sym z) ∙ old) in
        let not_new : l.right ≢ n = λ z. elim l.leads [
          | inl t ↦ tree_not_none r' 0 (sym t ∙ ap g.place z ∙ V.new)
          | inr t ↦ left_not_none r' (sym t ∙ ap g.place z ∙ V.new)
        ] in
        record {
          right = l.right;
          node = V.else x not_page w not_parent ∙ l.node;
          there = l.there;
          leads = subst (λ (z : TreePlace). (z ≡ tree r' 0) ⊎ (z ≡ left r')) (sym (place_else l.right not_new)) l.leads;
          lower = subst₂ (λ (a b : E). AtMost o top a b) (sym (low_else l.right not_new)) (sym (low_else x w)) l.lower;
        }
  ]

  -- a leaf that is neither part, and isn't the parent, since a parent is no leaf
  other_leaf : (x r' : ℕ) → x ≢ n → x ≢ p → g.place x ≡ tree r' 0 → LeafOk o top M now x r'
  other_leaf x r' w v old =
      let l = S.leaves x r' old in
      let not_parent : x ≢ q = λ z. zero_suc r' r H (sym old ∙ ap g.place z ∙ V.parent) in
      record {
        right = l.right;
        keys = l.keys;
        node = V.else x v w not_parent ∙ l.node ∙ ap (λ (h : E). leaf l.right h l.keys) (sym (high_else x w v));
        within = λ k i. (
          subst (λ (y : E). o.less y k) (sym (low_else x w)) (l.within k i).0,
          subst (λ (y : E). AtMost o top k y) (sym (high_else x w v)) (l.within k i).1,
        );
        right_ok = right_kept x r' 0 l.right w v l.right_ok;
      }

  abbrev as_child : Child E
  as_child = record { page = p; bound = g.high p }

  okq : InnerOk o top N g q r H
  okq = S.inners q r H V.parent

  lists_q : okq.kids ≡ V.kids_left ++ as_child ∷ V.kids_right
  lists_q = (same_inner okq.right V.parent_right okq.kids _ (sym okq.node ∙ V.before_parent)).1

  -- the parent is the only one
  only_parent : (x r' h : ℕ) (ok : InnerOk o top N g x r' h) → g.place x ≡ tree r' (suc h) → (c : Child E)
      → In c ok.kids → c.page ≡ p → x ≡ q
  only_parent x r' h ok e c i z = one_parent o top N g S x q r r' H h ok okq e V.parent c as_child i
      (subst (λ (l : List (Child E)). In as_child l) (sym lists_q) (in_middle V.kids_left as_child V.kids_right)) z

  same_as_before : (x : ℕ) → x ≢ n → x ≢ p → (now.place x ≡ g.place x) × (now.low x ≡ g.low x) × (now.high x ≡ g.high x)
  same_as_before x w v = (place_else x w, low_else x w, high_else x w v)

  -- children that lie after the divided page, or before it, stay
  kids_behind : (hi : E) (ys : List (Child E)) → Kids o top g r H (g.high p) ys hi → Kids o top now r H (g.high p) ys hi
  kids_behind hi ys ok = kids_kept o top g now r H (g.high p) hi ys (λ c i.
      let k = kid_place o top g r H (g.high p) hi ys (λ (y : ℕ) t. S.span y r H t) ok c i in
      same_as_before c.page (new_apart c.page r H k.0)
      (λ z. not_before o top N g S p r H V.at (subst (λ (y : ℕ). AtMost o top (g.high p) (g.low y)) z k.1))) ok

  before_page : (x : Child E) (hi : E) (xs ys : List (Child E)) → g.high x.page ≡ x.bound
      → Kids o top g r H x.bound (xs ++ as_child ∷ ys) hi → x.page ≢ p
  before_page x hi xs ys e ok z =
      let k = kid_place o top g r H x.bound hi (xs ++ as_child ∷ ys) (λ (y : ℕ) t. S.span y r H t) ok as_child
      (in_middle xs as_child ys) in
      not_before o top N g S p r H V.at (subst (λ (y : E). AtMost o top y (g.low p)) (sym e ∙ ap g.high z) k.1)

  divided : (lo hi : E) (xs ys : List (Child E)) → Kids o top g r H lo (xs ++ as_child ∷ ys) hi
      → Kids o top now r H lo (xs ++ record { page = p; bound = m } ∷ record { page = n; bound = g.high p } ∷ ys) hi
  divided lo hi [] ys ok = (
    place_else p page_new ∙ ok.0,
    low_page
        ∙ ok.1,
    high_page,
    (place_new, low_new, high_new, kids_behind hi ys ok.3),
  )
  divided lo hi (x ∷ xs) ys ok =
      let s = same_as_before x.page (new_apart x.page r H ok.0) (before_page x hi xs ys ok.2 ok.3) in
      (s.0 ∙ ok.0, s.1 ∙ ok.1, s.2 ∙ ok.2, divided x.bound hi xs ys ok.3)

  q_new : q ≢ n
  q_new = new_apart q r (suc H) V.parent

  q_page : q ≢ p
  q_page z = same_suc r r H (sym V.at ∙ ap g.place (sym z) ∙ V.parent)

  inner_q : InnerOk o top M now q r H
  inner_q = record {
    right = V.parent_right;
    kids = V.kids_left ++ record { page = p; bound = m } ∷ record { page = n; bound = g.high p } ∷ V.kids_right;
    node = V.after_parent;
    kids_ok = subst₂ (λ (a b : E).
        Kids o top now r H a (V.kids_left ++ record { page = p; bound = m } ∷ record {
          page = n;
          bound =
              g.high p;
        } ∷ V.kids_right) b) (sym (low_else q q_new)) (sym (high_else q q_new q_page))
        (divided (g.low q) (g.high q) V.kids_left V.kids_right
        (subst (λ (l : List (Child E)). Kids o top g r H (g.low q) l (g.high q)) lists_q okq.kids_ok));
    right_ok = right_kept q r (suc H) V.parent_right q_new q_page
        (subst (λ (y : ℕ). RightOk o top g r (suc H) q y)
        (same_inner okq.right V.parent_right okq.kids _ (sym okq.node ∙ V.before_parent)).0 okq.right_ok);
  }

  -- an inner page that is neither part
  other_inner : (x r' h : ℕ) → x ≢ n → x ≢ p → g.place x ≡ tree r' (suc h) → InnerOk o top M now x r' h
  other_inner x r' h w u old = elim (same_or_not q x) [
    | inl v ↦
        let s = same_tree r r' (suc H) (suc h) (sym V.parent ∙ ap g.place (sym v) ∙ old) in
        let t : H ≡ h = omega (arith, s.1) in
        subst (λ (y : ℕ). InnerOk o top M now y r' h) (sym v)
        (subst₂ (λ (a b : ℕ). InnerOk o top M now q a b) s.0 t inner_q)
    | inr v ↦
        let l = S.inners x r' h old in
        record {
          right = l.right;
          kids = l.kids;
          node = V.else x u w v ∙ l.node;
          kids_ok = subst₂ (λ (a b : E). Kids o top now r' h a l.kids b) (sym (low_else x w)) (sym (high_else x w u))
              (kids_kept o top g now r' h (g.low x) (g.high x) l.kids (λ c i.
              same_as_before c.page (new_apart c.page r' h (kid_of o top N g S x r' h l c i).0)
              (λ z. v (only_parent x r' h l old c i z))) l.kids_ok);
          right_ok = right_kept x r' (suc h) l.right w u l.right_ok;
        }
  ]

  -- children of the divided page stay, since they are one below it
  pub kids_below : (h : ℕ) (lo hi : E) (cs : List (Child E)) → H ≡ suc h → Kids o top g r h lo cs hi
      → Kids o top now r h lo cs hi
  kids_below h lo hi cs e ok = kids_kept o top g now r h lo hi cs (λ c i.
      let k = kid_place o top g r h lo hi cs (λ (y : ℕ) t. S.span y r h t) ok c i in
      same_as_before c.page (new_apart c.page r h k.0)
      (λ z. same_suc r r h (sym k.0 ∙ ap g.place z ∙ V.at ∙ ap (tree r) e))) ok

  -- the trees stay sane where both parts are
  pub division_keeps : (H ≡ 0 → LeafOk o top M now p r × LeafOk o top M now n r)
      → ((h : ℕ) → H ≡ suc h → InnerOk o top M now p r h × InnerOk o top M now n r h) → Sane o top M now
  division_keeps as_leaf as_inner = record {
    leaves = λ x r' e. elim (was x r' 0 e) [
      | is_new w a b ↦ subst₂ (λ (y z : ℕ). LeafOk o top M now y z) (sym w) a (as_leaf b).1
      | is_page v a b ↦ subst₂ (λ (y z : ℕ). LeafOk o top M now y z) (sym v) a (as_leaf b).0
      | is_other w v old ↦ other_leaf x r' w v old
    ];
    inners = λ x r' h e. elim (was x r' (suc h) e) [
      | is_new w a b ↦ subst₂ (λ (y z : ℕ). InnerOk o top M now y z h) (sym w) a (as_inner h b).1
      | is_page v a b ↦ subst₂ (λ (y z : ℕ). InnerOk o top M now y z h) (sym v) a (as_inner h b).0
      | is_other w v old ↦ other_inner x r' h w v old
    ];
    lefts = lefts';
    span = spans;
    apart = aparts;
  }
