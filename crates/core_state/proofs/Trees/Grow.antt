-- A root that grows keeps its tree sane: the new page takes its content, and the root has it as its one child.
use Rattle.std.proofs.Common.{◌≡◌, ◌≢◌, ◌⊎◌, ℕ, suc, List, [], ◌∷◌, refl, sym, ap, subst, subst₂, ap₂, ◌∙◌, inl, inr}
use Rattle.std.proofs.Common.{arith}
use Rattle.core_state.specs.Trees.Nodes.{Order, Child, Node, TreePlace, TreeGhost, put, AtMost, RightOk, Kids, LeafOk}
use Rattle.core_state.specs.Trees.Nodes.{InnerOk, LeftOk, Sane}
use Rattle.core_state.specs.Trees.Nodes.Node.{leaf, inner}
use Rattle.core_state.specs.Trees.Nodes.TreePlace.{none, tree, left}
use Rattle.core_state.proofs.PageLists.{same_or_not}
use Rattle.core_state.proofs.Trees.Order.{put_here, put_else, tree_not_none, tree_not_left, left_not_none, same_tree}
use Rattle.core_state.proofs.Trees.Kids.{kid_place, kids_kept}

-- the root r of a tree of height H grows; the new page is n
pub record IsGrow {E : Type 0} (N M : ℕ → Node E) (g : TreeGhost E) (bottom top : E) (r n H : ℕ) : Type 0 where
  pub at : g.place r ≡ tree r H
  pub new : g.place n ≡ none
  pub not_zero : n ≢ 0
  pub low_root : g.low r ≡ bottom
  pub high_root : g.high r ≡ top
  pub only_root : (x : ℕ) → g.place x ≡ tree r H → x ≡ r
  pub no_higher : (x : ℕ) → g.place x ≡ tree r (suc H) → ⊥
  pub no_left : (x : ℕ) → g.place x ≡ left r → H ≢ 0
  pub root_after : M r ≡ inner 0 (record { page = n; bound = top } ∷ [])
  pub new_leaf : (right : ℕ) (high : E) (keys : List E) → N r ≡ leaf right high keys → M n ≡ leaf 0 high keys
  pub new_inner : (right : ℕ) (kids : List (Child E)) → N r ≡ inner right kids → M n ≡ inner 0 kids
  pub else : (x : ℕ) → x ≢ r → x ≢ n → M x ≡ N x

suc_not : (h : ℕ) → suc h ≡ h → ⊥
suc_not h e = omega arith

suc_zero : (h : ℕ) → suc h ≡ 0 → ⊥
suc_zero h e = omega arith

abbrev pub grow_ghost : {E : Type 0} → TreeGhost E → E → E → ℕ → ℕ → ℕ → TreeGhost E
grow_ghost g bottom top r n H =
    record {
      place = put (put g.place n (tree r H)) r (tree r (suc H));
      low = put g.low n bottom;
      high =
          put g.high n top;
    }

module _ {E : Type 0} (o : Order E) (bottom top : E) (N M : ℕ → Node E) (g : TreeGhost E) (S : Sane o top N g)
    (r n H : ℕ)
    (V : IsGrow N M g bottom top r n H) where
  g' : TreeGhost E
  g' = grow_ghost g bottom top r n H

  root_new : r ≢ n
  root_new e = tree_not_none r H (sym V.at ∙ ap g.place e ∙ V.new)

  not_new : (x r' h : ℕ) → g.place x ≡ tree r' h → x ≢ n
  not_new x r' h e w = tree_not_none r' h (sym e ∙ ap g.place w ∙ V.new)

  place_root : g'.place r ≡ tree r (suc H)
  unfolding g'
  place_root = put_here (put g.place n (tree r H)) r (tree r (suc H))

  place_new : g'.place n ≡ tree r H
  unfolding g'
  place_new = put_else (put g.place n (tree r H)) r (tree r (suc H)) n (λ e. root_new (sym e))
      ∙ put_here g.place n (tree r H)

  place_else : (x : ℕ) → x ≢ r → x ≢ n → g'.place x ≡ g.place x
  unfolding g'
  place_else x a b = put_else (put g.place n (tree r H)) r (tree r (suc H)) x a ∙ put_else g.place n (tree r H) x b

  low_new : g'.low n ≡ bottom
  unfolding g'
  low_new = put_here g.low n bottom

  low_else : (x : ℕ) → x ≢ n → g'.low x ≡ g.low x
  unfolding g'
  low_else x a = put_else g.low n bottom x a

  high_new : g'.high n ≡ top
  unfolding g'
  high_new = put_here g.high n top

  high_else : (x : ℕ) → x ≢ n → g'.high x ≡ g.high x
  unfolding g'
  high_else x a = put_else g.high n top x a

  span_root : o.less bottom top
  span_root = subst₂ (λ (a b : E). o.less a b) V.low_root V.high_root (S.span r r H V.at)

  -- which page has a place in a tree now
  now : (x r' h : ℕ) → g'.place x ≡ tree r' h → ((x ≡ r) × (r ≡ r') × (suc H ≡ h))
      ⊎ (((x ≡ n) × (r ≡ r') × (H ≡ h)) ⊎ ((x ≢ r) × (x ≢ n) × (g.place x ≡ tree r' h)))
  now x r' h e = elim (same_or_not r x) [
    | inl w ↦ let s = same_tree r r' (suc H) h (sym place_root ∙ ap g'.place (sym w) ∙ e) in inl (w, s.0, s.1)
    | inr w ↦ elim (same_or_not n x) [
      | inl v ↦ let s = same_tree r r' H h (sym place_new ∙ ap g'.place (sym v) ∙ e) in inr (inl (v, s.0, s.1))
      | inr v ↦ inr (inr (w, v, sym (place_else x w v) ∙ e))
    ]
  ]

  span' : (x r' h : ℕ) → g'.place x ≡ tree r' h → o.less (g'.low x) (g'.high x)
  span' x r' h e = elim (now x r' h e) [
    | inl a ↦ subst (λ (y : ℕ). o.less (g'.low y) (g'.high y)) (sym a.0)
        (subst₂ (λ (s t : E). o.less s t) (sym (low_else r root_new)) (sym (high_else r root_new)) (S.span r r H V.at))
    | inr (inl a) ↦ subst (λ (y : ℕ). o.less (g'.low y) (g'.high y)) (sym a.0)
        (subst₂ (λ (s t : E). o.less s t) (sym low_new) (sym high_new) span_root)
    | inr (inr a) ↦ subst₂ (λ (s t : E). o.less s t) (sym (low_else x a.1)) (sym (high_else x a.1)) (S.span x r' h a.2)
  ]

  apart' : (x y r' h : ℕ) → g'.place x ≡ tree r' h → g'.place y ≡ tree r' h → x ≢ y
      → AtMost o top (g'.high x) (g'.low y) ⊎ AtMost o top (g'.high y) (g'.low x)
  apart' x y r' h ex ey ne = elim (now x r' h ex) [
    | inl a ↦ elim (now y r' h ey) [
      | inl b ↦ absurd (ne (a.0 ∙ sym b.0))
      | inr (inl b) ↦ absurd (suc_not H (a.2 ∙ sym b.2))
      | inr (inr b) ↦ absurd (V.no_higher y (b.2 ∙ ap₂ tree (sym a.1) (sym a.2)))
    ]
    | inr (inl a) ↦ elim (now y r' h ey) [
      | inl b ↦ absurd (suc_not H (b.2 ∙ sym a.2))
      | inr (inl b) ↦ absurd (ne (a.0 ∙ sym b.0))
      | inr (inr b) ↦ absurd (b.0 (V.only_root y (b.2 ∙ ap₂ tree (sym a.1) (sym a.2))))
    ]
    | inr (inr a) ↦ elim (now y r' h ey) [
      | inl b ↦ absurd (V.no_higher x (a.2 ∙ ap₂ tree (sym b.1) (sym b.2)))
      | inr (inl b) ↦ absurd (a.0 (V.only_root x (a.2 ∙ ap₂ tree (sym b.1) (sym b.2))))
      | inr (inr b) ↦ subst₂ (λ (s t : E). AtMost o top s (g'.low y) ⊎ AtMost o top (g'.high y) t)
          (sym (high_else x a.1)) (sym (low_else x a.1))
          (subst₂ (λ (s t : E). AtMost o top (g.high x) s ⊎ AtMost o top t (g.low x)) (sym (low_else y b.1))
          (sym (high_else y b.1)) (S.apart x y r' h a.2 b.2 ne))
    ]
  ]

  right_kept : (x r' h right : ℕ) → x ≢ r → x ≢ n → g.place x ≡ tree r' h → RightOk o top g r' h x right
      → RightOk o top g' r' h x right
  right_kept x r' h right a b e (inl z) = inl (z.0, high_else x b ∙ z.1)
  right_kept x r' h right a b e (inr z) =
      let rn : right ≢ n = not_new right r' h z.1 in
      let rr : right ≢ r = λ t. let s = same_tree r' r h H (sym z.1 ∙ ap g.place t ∙ V.at) in
      a (V.only_root x (e ∙ ap₂ tree s.0 s.1)) in
      inr (z.0, place_else right rr rn ∙ z.1, low_else right rn ∙ z.2 ∙ sym (high_else x b))

  leaf_of : (h : ℕ) → H ≡ h → g.place r ≡ tree r h
  leaf_of h e = V.at ∙ ap (tree r) e

  leaf_new : H ≡ 0 → LeafOk o top M g' n r
  leaf_new zero_height =
      let l = S.leaves r r (leaf_of 0 zero_height) in
      record {
        right = 0;
        keys = l.keys;
        node = V.new_leaf l.right (g.high r) l.keys l.node
            ∙ ap (λ (t : E). leaf 0 t l.keys) (V.high_root ∙ sym high_new);
        within = λ k i. (
          subst (λ (t : E). o.less t k) (V.low_root ∙ sym low_new) (l.within k i).0,
          subst (λ (t : E). AtMost o top k t) (V.high_root ∙ sym high_new) (l.within k i).1,
        );
        right_ok = inl (refl, high_new);
      }

  leaves' : (x r' : ℕ) → g'.place x ≡ tree r' 0 → LeafOk o top M g' x r'
  leaves' x r' e = elim (now x r' 0 e) [
    | inl a ↦ absurd (suc_zero H a.2)
    | inr (inl a) ↦ subst (λ (y : ℕ). LeafOk o top M g' y r') (sym a.0)
        (subst (λ (y : ℕ). LeafOk o top M g' n y) a.1 (leaf_new a.2))
    | inr (inr a) ↦
        let l = S.leaves x r' a.2 in
        record {
          right = l.right;
          keys = l.keys;
          node = V.else x a.0 a.1 ∙ l.node ∙ ap (λ (t : E). leaf l.right t l.keys) (sym (high_else x a.1));
          within = λ k i. (
            subst (λ (t : E). o.less t k) (sym (low_else x a.1)) (l.within k i).0,
            subst (λ (t : E). AtMost o top k t) (sym (high_else x a.1)) (l.within k i).1,
          );
          right_ok = right_kept x r' 0 l.right a.0 a.1 a.2 l.right_ok;
        }
  ]

  -- no kid is the root, none is the new page
  kids_same : (x r' h : ℕ) → (g.place x ≡ tree r' (suc h)) → (lo hi : E) (cs : List (Child E))
      → Kids o top g r' h lo cs hi → Kids o top g' r' h lo cs hi
  kids_same x r' h e lo hi cs ok = kids_kept o top g g' r' h lo hi cs (λ c i.
      let k = kid_place o top g r' h lo hi cs (λ (y : ℕ) t. S.span y r' h t) ok c i in
      let cn : c.page ≢ n = not_new c.page r' h k.0 in
      let cr : c.page ≢ r = λ t. let s = same_tree r' r h H (sym k.0 ∙ ap g.place t ∙ V.at) in
      V.no_higher x (e ∙ ap₂ tree s.0 (ap suc s.1)) in
      (place_else c.page cr cn, low_else c.page cn, high_else c.page cn)) ok

  inner_root : InnerOk o top M g' r r H
  inner_root = record {
    right = 0;
    kids = record { page = n; bound = top } ∷ [];
    node = V.root_after;
    kids_ok = (
      place_new,
      low_new ∙ sym V.low_root ∙ sym (low_else r root_new),
      high_new,
      sym V.high_root
          ∙ sym (high_else r root_new),
    );
    right_ok = inl (refl, high_else r root_new ∙ V.high_root);
  }

  inner_new : (h : ℕ) → H ≡ suc h → InnerOk o top M g' n r h
  inner_new h e =
      let l = S.inners r r h (leaf_of (suc h) e) in
      record {
        right = 0;
        kids = l.kids;
        node = V.new_inner l.right l.kids l.node;
        kids_ok = subst₂ (λ (s t : E). Kids o top g' r h s l.kids t) (V.low_root ∙ sym low_new) (V.high_root
            ∙ sym high_new) (kids_same r r h (leaf_of (suc h) e) (g.low r) (g.high r) l.kids l.kids_ok);
        right_ok = inl (refl, high_new);
      }

  inners' : (x r' h : ℕ) → g'.place x ≡ tree r' (suc h) → InnerOk o top M g' x r' h
  inners' x r' h e = elim (now x r' (suc h) e) [
    | inl a ↦ let same : H ≡ h = omega arith in
        subst (λ (y : ℕ). InnerOk o top M g' y r' h) (sym a.0)
        (subst₂ (λ (s t : ℕ). InnerOk o top M g' r s t) a.1 same inner_root)
    | inr (inl a) ↦ subst (λ (y : ℕ). InnerOk o top M g' y r' h) (sym a.0)
        (subst (λ (s : ℕ). InnerOk o top M g' n s h) a.1 (inner_new h a.2))
    | inr (inr a) ↦
        let l = S.inners x r' h a.2 in
        record {
          right = l.right;
          kids = l.kids;
          node = V.else x a.0 a.1 ∙ l.node;
          kids_ok = subst₂ (λ (s t : E). Kids o top g' r' h s l.kids t) (sym (low_else x a.1)) (sym (high_else x a.1))
              (kids_same x r' h a.2 (g.low x) (g.high x) l.kids l.kids_ok);
          right_ok = right_kept x r' (suc h) l.right a.0 a.1 a.2 l.right_ok;
        }
  ]

  lefts' : (x r' : ℕ) → g'.place x ≡ left r' → LeftOk o top M g' x r'
  lefts' x r' e = elim (same_or_not r x) [
    | inl w ↦ absurd (tree_not_left r (suc H) r' (sym place_root ∙ ap g'.place (sym w) ∙ e))
    | inr w ↦ elim (same_or_not n x) [
      | inl v ↦ absurd (tree_not_left r H r' (sym place_new ∙ ap g'.place (sym v) ∙ e))
      | inr v ↦
          let old : g.place x ≡ left r' = sym (place_else x w v) ∙ e in
          let l = S.lefts x r' old in
          let rn : l.right ≢ n = λ t. elim l.leads [
            | inl z ↦ tree_not_none r' 0 (sym z ∙ ap g.place t ∙ V.new)
            | inr z ↦
                left_not_none r' (sym z ∙ ap g.place t ∙ V.new)
          ] in
          let rr : l.right ≢ r = λ t. elim l.leads [
            | inl z ↦ let s = same_tree r' r 0 H (sym z ∙ ap g.place t ∙ V.at) in
                V.no_left x (old ∙ ap left s.0) (sym s.1)
            | inr z ↦ tree_not_left r H r' (sym V.at ∙ ap g.place (sym t) ∙ z)
          ] in
          record {
            right = l.right;
            node = V.else x w v ∙ l.node;
            there = l.there;
            leads = subst (λ (z : TreePlace). (z ≡ tree r' 0) ⊎ (z ≡ left r')) (sym (place_else l.right rr rn)) l.leads;
            lower = subst₂ (λ (s t : E). AtMost o top s t) (sym (low_else l.right rn)) (sym (low_else x v)) l.lower;
          }
    ]
  ]

  pub grow_keeps : Sane o top M (grow_ghost g bottom top r n H)
  unfolding g'
  grow_keeps = record { leaves = leaves'; inners = inners'; lefts = lefts'; span = span'; apart = apart' }
