-- New trees, divided pages, grown roots and deleted leaves leave all trees hanging together below their roots.
use Rattle.std.proofs.Common.{◌≡◌, ◌≢◌, ◌⊎◌, ◌≤◌, ℕ, zero, suc, ◌∷◌, ◌++◌, refl, sym, ap, ap₂, subst, ◌∙◌, inl, inr}
use Rattle.std.proofs.Common.{arith}
use Rattle.core_state.specs.Log.{In}
use Rattle.core_state.specs.Trees.Nodes.{Order, Node, TreePlace, TreeGhost, put, Sane, split_ghost}
use Rattle.core_state.specs.Trees.Nodes.Node.{inner}
use Rattle.core_state.specs.Trees.Nodes.TreePlace.{tree, left}
use Rattle.core_state.specs.Inner.Shapes.{IsNewTree}
use Rattle.core_state.proofs.PageLists.{same_or_not}
use Rattle.core_state.proofs.Trees.Order.{put_here, put_else, tree_not_left, same_tree}
use Rattle.core_state.proofs.Trees.Below.{child_pages, children}
use Rattle.core_state.proofs.Trees.Division.{IsDivision}
use Rattle.core_state.proofs.Trees.Grow.{IsGrow, grow_ghost}
use Rattle.core_state.proofs.Trees.Lists.{make_ghost}
use Rattle.core_state.proofs.Trees.Parents.{HasParent, HangsOn, seen, pages_append, pages_front, pages_back, was, stays}
use Rattle.core_state.proofs.Trees.Parents.{not_new, lefts_stay}

module _ {E : Type 0} (o : Order E) (bottom top : E) (N M : ℕ → Node E) (g : TreeGhost E)
    (H : HangsOn bottom top N g) where
  pub make_hangs : (n : ℕ) → IsNewTree N M g bottom top o n → HangsOn bottom top M (make_ghost g bottom top n)
  make_hangs n V = record {
    parent = λ x s k e. elim (was bottom top N M g H n n 0 V.new x s k e) [
      | inl w ↦ inl (w.0 ∙ w.1)
      | inr w ↦ elim (H.parent x s k w.1) [
        | inl z ↦ inl z
        | inr y ↦ inr (
          y.0,
          on y.0 s (suc k) y.1,
          seen x (N y.0) (M y.0) (sym (V.else y.0 (not_new bottom top N M g H n n 0 V.new y.0 s (suc k) y.1))) y.2,
        )
      ]
    ];
    highest = λ x s k h e f. elim (was bottom top N M g H n n 0 V.new x s k e) [
      | inl w ↦ least_height k h w.2
      | inr w ↦ elim (was bottom top N M g H n n 0 V.new s s h f) [
        | inl v ↦ absurd (V.no_tree x k (w.1 ∙ ap (λ (z : ℕ). tree z k) v.0))
        | inr v ↦ H.highest x s k h w.1 v.1
      ]
    ];
    low = λ s h e. elim (was bottom top N M g H n n 0 V.new s s h e) [
      | inl w ↦ ap (put g.low n bottom) w.0 ∙ put_here g.low n bottom
      | inr w ↦ put_else g.low n bottom s w.0 ∙ H.low s h w.1
    ];
    high = λ s h e. elim (was bottom top N M g H n n 0 V.new s s h e) [
      | inl w ↦ ap (put g.high n top) w.0 ∙ put_here g.high n top
      | inr w ↦ put_else g.high n top s w.0 ∙ H.high s h w.1
    ];
    trees = λ p s h e. elim (was bottom top N M g H n n 0 V.new p s h e) [
      | inl w ↦ (0, subst (λ (z : ℕ). put g.place n (tree n 0) z ≡ tree z 0) w.1 (put_here g.place n (tree n 0)))
      | inr w ↦ let t = H.trees p s h w.1 in (t.0, on s s t.0 t.1)
    ];
    lefts = λ p s e. let t = H.lefts p s (lefts_stay bottom top N M g H n n 0 V.new p s e) in
        (t.0, on s s (suc t.0) t.1);
  }
    where
      on : (x s k : ℕ) → g.place x ≡ tree s k → put g.place n (tree n 0) x ≡ tree s k
      on x s k e = stays bottom top N M g H n n 0 V.new x s k e

      least_height : (k h : ℕ) → 0 ≡ k → k ≤ h
      least_height k h e = omega (arith, e)

  -- a page of any height is divided; its children are those of the two parts
  module _ (p n q r Hp : ℕ) (m : E) (V : IsDivision o N M g p n q r Hp m) (moved : (x : ℕ) → In x (children (N p))
      → In x (children (M p)) ⊎ In x (children (M n))) where
    root_there : (t : ℕ) × (g.place r ≡ tree r t)
    root_there = H.trees p r Hp V.at

    root_old : r ≢ n
    root_old = not_new bottom top N M g H n r Hp V.new r r root_there.0 root_there.1

    on_new : (x s k : ℕ) → g.place x ≡ tree s k → put g.place n (tree r Hp) x ≡ tree s k
    on_new x s k e = stays bottom top N M g H n r Hp V.new x s k e

    now_children : children (M q) ≡ child_pages
        (V.kids_left ++ record { page = p; bound = m } ∷ record { page = n; bound = g.high p } ∷ V.kids_right)
    now_children = ap children V.after_parent

    -- children of the parent, and the new page
    in_parent : (x : ℕ) → In x (children (N q)) → In x (children (M q))
    in_parent x i = subst (In x) (sym now_children)
        (elim (pages_append x V.kids_left _ (seen x (N q) _ V.before_parent i)) [
          | inl a ↦ pages_front x V.kids_left _ a
          | inr (inl e) ↦ pages_back x V.kids_left _ (inl e)
          | inr (inr c) ↦ pages_back x V.kids_left _ (inr (inr c))
        ])

    new_child : In n (children (M q))
    new_child = subst (In n) (sym now_children) (pages_back n V.kids_left _ (inr (inl refl)))

    kept_parent : (x s k : ℕ) → HasParent N g x s k → HasParent M (split_ghost o top g p n r Hp m) x s k
    kept_parent x s k (y, at_y, i) = elim (same_or_not p y) [
      | inl w ↦
          let same : tree s (suc k) ≡ tree r Hp = sym at_y ∙ ap g.place w ∙ V.at in
          elim (moved x (subst (λ (z : ℕ). In x (children (N z))) w i)) [
            | inl a ↦ (p, on_new p s (suc k) (V.at ∙ sym same), a)
            | inr c ↦ (n, put_here g.place n (tree r Hp) ∙ sym same, c)
          ]
      | inr v ↦ elim (same_or_not q y) [
        | inl w ↦ (
          q,
          on_new q s (suc k) (subst (λ (z : ℕ). g.place z ≡ tree s (suc k)) w at_y),
          in_parent x (subst (λ (z : ℕ). In x (children (N z))) w i),
        )
        | inr u ↦ (
          y,
          on_new y s (suc k) at_y,
          seen x (N y) (M y) (sym (V.else y v (not_new bottom top N M g H n r Hp V.new y s (suc k) at_y) u)) i,
        )
      ]
    ]

    no_root : (s h : ℕ) → (s ≡ n) × (r ≡ s) × (Hp ≡ h) → ⊥
    no_root s h w = root_old (w.1 ∙ w.0)

    pub division_hangs : HangsOn bottom top M (split_ghost o top g p n r Hp m)
    division_hangs = record {
      parent = λ x s k e. elim (was bottom top N M g H n r Hp V.new x s k e) [
        | inl w ↦ inr (
          q,
          on_new q s (suc k) (V.parent ∙ ap₂ (λ (a c : ℕ). tree a (suc c)) w.1 w.2),
          subst (λ (z : ℕ). In z (children (M q))) (sym w.0) new_child,
        )
        | inr w ↦ elim (H.parent x s k w.1) [ inl z ↦ inl z | inr y ↦ inr (kept_parent x s k y) ]
      ];
      highest = λ x s k h e f. elim (was bottom top N M g H n r Hp V.new s s h f) [
        | inl v ↦ absurd (no_root s h v)
        | inr v ↦ elim (was bottom top N M g H n r Hp V.new x s k e) [
          | inl w ↦ subst (λ (z : ℕ). z ≤ h) w.2
              (H.highest p r Hp h V.at (subst (λ (z : ℕ). g.place z ≡ tree z h) (sym w.1) v.1))
          | inr w ↦ H.highest x s k h w.1 v.1
        ]
      ];
      low = λ s h e. elim (was bottom top N M g H n r Hp V.new s s h e) [
        | inl v ↦ absurd (no_root s h v)
        | inr v ↦ put_else g.low n m s v.0 ∙ H.low s h v.1
      ];
      high = λ s h e. elim (was bottom top N M g H n r Hp V.new s s h e) [
        | inl v ↦ absurd (no_root s h v)
        | inr v ↦ put_else (put g.high n (g.high p)) p m s (not_root s h v.1) ∙ put_else g.high n (g.high p) s v.0
            ∙ H.high s h v.1
      ];
      trees = λ x s h e. elim (was bottom top N M g H n r Hp V.new x s h e) [
        | inl w ↦ (
          root_there.0,
          subst (λ (z : ℕ). put g.place n (tree r Hp) z ≡ tree z root_there.0) w.1
              (on_new r r root_there.0 root_there.1),
        )
        | inr w ↦ let t = H.trees x s h w.1 in (t.0, on_new s s t.0 t.1)
      ];
      lefts = λ x s e. let t = H.lefts x s (lefts_stay bottom top N M g H n r Hp V.new x s e) in
          (t.0, on_new s s (suc t.0) t.1);
    }
      where
        -- a divided page has a parent, so it is no root
        not_root : (s h : ℕ) → g.place s ≡ tree s h → s ≢ p
        not_root s h e z =
            let same = same_tree s r h Hp (sym e ∙ ap g.place z ∙ V.at) in
            let low = H.highest q r (suc Hp) h V.parent (subst (λ (y : ℕ). g.place y ≡ tree y h) same.0 e) in
            absurd (omega (arith, low, same.1))

  -- a root grows
  module _ (S : Sane o top N g) (r n Hr : ℕ) (V : IsGrow N M g bottom top r n Hr) where
    abbrev at_now : ℕ → TreePlace
    at_now = put (put g.place n (tree r Hr)) r (tree r (suc Hr))

    root_old_page : r ≢ n
    root_old_page = not_new bottom top N M g H n r Hr V.new r r Hr V.at

    root_now : at_now r ≡ tree r (suc Hr)
    root_now = put_here (put g.place n (tree r Hr)) r (tree r (suc Hr))

    new_now : at_now n ≡ tree r Hr
    new_now = put_else (put g.place n (tree r Hr)) r (tree r (suc Hr)) n (λ e. root_old_page (sym e))
        ∙ put_here g.place n (tree r Hr)

    else_now : (x : ℕ) → x ≢ r → x ≢ n → at_now x ≡ g.place x
    else_now x a c = put_else (put g.place n (tree r Hr)) r (tree r (suc Hr)) x a ∙ put_else g.place n (tree r Hr) x c

    data Was (x s k : ℕ) : Type 0 where
      is_root : x ≡ r → r ≡ s → suc Hr ≡ k → Was x s k
      is_new : x ≡ n → r ≡ s → Hr ≡ k → Was x s k
      is_other : x ≢ r → x ≢ n → g.place x ≡ tree s k → Was x s k

    before : (x s k : ℕ) → at_now x ≡ tree s k → Was x s k
    before x s k e = elim (same_or_not r x) [
      | inl w ↦ let t = same_tree r s (suc Hr) k (sym root_now ∙ ap at_now (sym w) ∙ e) in Was.is_root w t.0 t.1
      | inr w ↦ elim (same_or_not n x) [
        | inl v ↦ let t = same_tree r s Hr k (sym new_now ∙ ap at_now (sym v) ∙ e) in Was.is_new v t.0 t.1
        | inr v ↦ Was.is_other w v (sym (else_now x w v) ∙ e)
      ]
    ]

    -- a tree's root, as it is now
    stands : (s k : ℕ) → g.place s ≡ tree s k → (j : ℕ) × (at_now s ≡ tree s j) × (k ≤ j)
    stands s k e = elim (same_or_not r s) [
      | inl w ↦ (
        suc Hr,
        subst (λ (z : ℕ). at_now z ≡ tree z (suc Hr)) (sym w) root_now,
        taller k (same_tree s r k Hr (sym e ∙ ap g.place w ∙ V.at)).1,
      )
      | inr w ↦ (k, else_now s w (not_new bottom top N M g H n r Hr V.new s s k e) ∙ e, itself k)
    ]
      where
        taller : (k : ℕ) → k ≡ Hr → k ≤ suc Hr
        taller k e = omega (arith, e)

        itself : (k : ℕ) → k ≤ k
        itself k = omega arith

    root_at_now : (s : ℕ) → r ≡ s → at_now s ≡ tree s (suc Hr)
    root_at_now s e = subst (λ (z : ℕ). at_now z ≡ tree z (suc Hr)) e root_now

    -- the root's children are the new page's now
    moved_down : (x k : ℕ) → Hr ≡ suc k → In x (children (N r)) → In x (children (M n))
    moved_down x k e i =
        let ok = S.inners r r k (V.at ∙ ap (tree r) e) in
        seen x (inner 0 ok.kids) (M n) (sym (V.new_inner ok.right ok.kids ok.node))
        (seen x (N r) (inner ok.right ok.kids) ok.node i)

    parent_now : (x s k : ℕ) → HasParent N g x s k → HasParent M (grow_ghost g bottom top r n Hr) x s k
    parent_now x s k (y, at_y, i) = elim (same_or_not r y) [
      | inl w ↦
          let same = same_tree s r (suc k) Hr (sym at_y ∙ ap g.place w ∙ V.at) in (
            n,
            new_now ∙ ap₂ tree (sym same.0) (sym same.1),
            moved_down x k (sym same.1) (subst (λ (z : ℕ). In x (children (N z))) w i),
          )
      | inr w ↦
          let v = not_new bottom top N M g H n r Hr V.new y s (suc k) at_y in
          (y, else_now y w v ∙ at_y, seen x (N y) (M y) (sym (V.else y w v)) i)
    ]

    pub grow_hangs : HangsOn bottom top M (grow_ghost g bottom top r n Hr)
    grow_hangs = record {
      parent = λ x s k e. elim (before x s k e) [
        | is_root w a c ↦ inl (w ∙ a)
        | is_new w a c ↦ inr (
          r,
          root_now ∙ ap₂ (λ (u v : ℕ). tree u (suc v)) a c,
          subst (λ (z : ℕ). In z (children (M r))) (sym w) (seen n _ (M r) (sym V.root_after) (inl refl)),
        )
        | is_other w v old ↦ elim (H.parent x s k old) [ inl z ↦ inl z | inr y ↦ inr (parent_now x s k y) ]
      ];
      highest = λ x s k h e f. elim (before s s h f) [
        | is_root w a c ↦ elim (before x s k e) [
          | is_root w' a' c' ↦ omega (arith, c, c')
          | is_new w' a' c' ↦ omega (arith, c, c')
          | is_other w' v' old ↦ let low = H.highest x s k Hr old (subst (λ (z : ℕ). g.place z ≡ tree z Hr) a V.at) in
              omega (arith, low, c)
        ]
        | is_new w a c ↦ absurd (root_old_page (a ∙ w))
        | is_other w v old ↦ elim (before x s k e) [
          | is_root w' a' c' ↦ absurd (w (sym a'))
          | is_new w' a' c' ↦ absurd (w (sym a'))
          | is_other w' v' old' ↦ H.highest x s k h old' old
        ]
      ];
      low = λ s h e. elim (before s s h e) [
        | is_root w a c ↦ put_else g.low n bottom s (λ z. root_old_page (sym w ∙ z)) ∙ ap g.low w ∙ V.low_root
        | is_new w a c ↦ absurd (root_old_page (a ∙ w))
        | is_other w v old ↦ put_else g.low n bottom s v ∙ H.low s h old
      ];
      high = λ s h e. elim (before s s h e) [
        | is_root w a c ↦ put_else g.high n top s (λ z. root_old_page (sym w ∙ z)) ∙ ap g.high w ∙ V.high_root
        | is_new w a c ↦ absurd (root_old_page (a ∙ w))
        | is_other w v old ↦ put_else g.high n top s v ∙ H.high s h old
      ];
      trees = λ x s h e. elim (before x s h e) [
        | is_root w a c ↦ (suc Hr, root_at_now s a)
        | is_new w a c ↦ (suc Hr, root_at_now s a)
        | is_other w v old ↦ let t = H.trees x s h old in let u = stands s t.0 t.1 in (u.0, u.1)
      ];
      lefts = λ x s e. lefts_now x s e;
    }
      where
        lefts_now : (x s : ℕ) → at_now x ≡ left s → (k : ℕ) × (at_now s ≡ tree s (suc k))
        lefts_now x s e = elim (same_or_not r x) [
          | inl w ↦ absurd (tree_not_left r (suc Hr) s (sym root_now ∙ ap at_now (sym w) ∙ e))
          | inr w ↦ elim (same_or_not n x) [
            | inl v ↦ absurd (tree_not_left r Hr s (sym new_now ∙ ap at_now (sym v) ∙ e))
            | inr v ↦ let t = H.lefts x s (sym (else_now x w v) ∙ e) in above s t.0 (stands s (suc t.0) t.1)
          ]
        ]
          where
            above : (s k : ℕ) → (j : ℕ) × (at_now s ≡ tree s j) × (suc k ≤ j) → (i : ℕ) × (at_now s ≡ tree s (suc i))
            above s k (zero, e, l) = absurd (omega (arith, l))
            above s k (suc j, e, l) = (j, e)
