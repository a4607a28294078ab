-- Each step of trees leaves them hanging together below their roots.
use Rattle.std.proofs.Common.{◌≡◌, ◌≢◌, ◌⊎◌, ℕ, zero, suc, List, [], ◌∷◌, ◌++◌, refl, sym, ap, subst, ◌∙◌, inl, inr}
use Rattle.std.proofs.Common.{arith}
use Rattle.core_state.specs.Log.{In}
use Rattle.core_state.specs.Trees.Nodes.{Order, Node, TreePlace, TreeGhost, put, Sane, IsSplitLeaf, IsDeleteLeaf}
use Rattle.core_state.specs.Trees.Nodes.{delete_ghost}
use Rattle.core_state.specs.Trees.Nodes.Node.{leaf, inner}
use Rattle.core_state.specs.Trees.Nodes.TreePlace.{tree, left}
use Rattle.core_state.specs.Inner.Shapes.{IsSplitInner}
use Rattle.core_state.proofs.PageLists.{same_or_not, in_back}
use Rattle.core_state.proofs.Trees.Order.{put_here, put_else, tree_not_left, same_tree, same_left}
use Rattle.core_state.proofs.Trees.Find.{child_here}
use Rattle.core_state.proofs.Trees.Below.{child_pages, children}
use Rattle.core_state.proofs.Trees.Split.{leaf_division, inner_division}
use Rattle.core_state.proofs.Trees.Steps.{Grows, Step}
use Rattle.core_state.proofs.Trees.Parents.{HasParent, HangsOn, hangs, rooted, seen, pages_append, pages_front}
use Rattle.core_state.proofs.Trees.Parents.{pages_back, quiet_hangs, new_keys_hang}
use Rattle.core_state.proofs.Trees.ParentSteps.{make_hangs, division_hangs, grow_hangs}
use Rattle.core_state.proofs.Law.Rooted.{AreRooted}

module _ {E : Type 0} (o : Order E) (bottom top : E) (N M : ℕ → Node E) (g : TreeGhost E) (H : HangsOn bottom top N g)
    (S : Sane o top N g) where
  -- an empty leaf is deleted
  module _ (d q r : ℕ) (V : IsDeleteLeaf o top N M g d q r) where
    abbrev next : ℕ
    next = V.next.page

    abbrev at_now : ℕ → TreePlace
    at_now = put g.place d (left r)

    before : (x s k : ℕ) → at_now x ≡ tree s k → (x ≢ d) × (g.place x ≡ tree s k)
    before x s k e =
        let w : x ≢ d = λ z. tree_not_left s k r (sym e ∙ ap at_now z ∙ put_here g.place d (left r)) in
        (w, sym (put_else g.place d (left r) x w) ∙ e)

    stays_now : (x s k : ℕ) → x ≢ d → g.place x ≡ tree s k → at_now x ≡ tree s k
    stays_now x s k w e = put_else g.place d (left r) x w ∙ e

    -- the leaf has a parent, so it is no root
    not_root : (s h : ℕ) → g.place s ≡ tree s h → s ≢ d
    not_root s h e z =
        let same = same_tree s r h 0 (sym e ∙ ap g.place z ∙ V.at) in
        let low = H.highest q r 1 h V.parent (subst (λ (y : ℕ). g.place y ≡ tree y h) same.0 e) in
        absurd (omega (arith, low, same.1))

    -- nor is the next one, which has the same parent
    next_not_root : (s h : ℕ) → g.place s ≡ tree s h → s ≢ next
    next_not_root s h e z =
        let at_next = (child_here o top N g S q r 0 V.parent_right _ V.next V.parent V.before_parent
        (in_back V.next V.front _ (inr (inl refl)))).0 in
        let same = same_tree s r h 0 (sym e ∙ ap g.place z ∙ at_next) in
        let low = H.highest q r 1 h V.parent (subst (λ (y : ℕ). g.place y ≡ tree y h) same.0 e) in
        absurd (omega (arith, low, same.1))

    -- the parent keeps all children but the leaf
    in_parent : (x : ℕ) → x ≢ d → In x (children (N q)) → In x (children (M q))
    in_parent x w i = seen x (inner V.parent_right (V.front ++ V.next ∷ V.back)) (M q) (sym V.after_parent)
        (elim (pages_append x V.front _ (seen x (N q) _ V.before_parent i)) [
          | inl a ↦ pages_front x V.front _ a
          | inr (inl e) ↦ absurd (w e)
          | inr (inr c) ↦ pages_back x V.front _ c
        ])

    no_leaf : (x : ℕ) (y right : ℕ) (high : E) (ks : List E) → N y ≡ leaf right high ks → In x (children (N y)) → ⊥
    no_leaf x y right high ks e i = seen x (N y) (leaf right high ks) e i

    parent_now : (x s k : ℕ) → x ≢ d → HasParent N g x s k → HasParent M (delete_ghost o top g d next r) x s k
    parent_now x s k w (y, at_y, i) = elim (same_or_not d y) [
      | inl e ↦ absurd (no_leaf x d V.right (g.high d) [] V.before (subst (λ (z : ℕ). In x (children (N z))) e i))
      | inr v ↦ elim (same_or_not q y) [
        | inl e ↦ (
          q,
          stays_now q s (suc k) (λ z. v (e ∙ z)) (ap g.place (sym e) ∙ at_y),
          in_parent x w (subst (λ (z : ℕ). In x (children (N z))) e i),
        )
        | inr u ↦ (
          y,
          stays_now y s (suc k) v at_y,
          seen x (N y) (M y) (sym (V.else y v u (λ high ks f. no_leaf x y d high ks f i))) i,
        )
      ]
    ]

    root_of : (s k : ℕ) → g.place s ≡ tree s k → at_now s ≡ tree s k
    root_of s k e = stays_now s s k (not_root s k e) e

    pub delete_hangs : HangsOn bottom top M (delete_ghost o top g d next r)
    delete_hangs = record {
      parent = λ x s k e. let w = before x s k e in
          elim (H.parent x s k w.1) [ inl z ↦ inl z | inr y ↦ inr (parent_now x s k w.0 y) ];
      highest = λ x s k h e f. H.highest x s k h (before x s k e).1 (before s s h f).1;
      low = λ s h e. let w = before s s h e in put_else g.low next (g.low d) s (next_not_root s h w.1) ∙ H.low s h w.1;
      high = λ s h e. H.high s h (before s s h e).1;
      trees = λ x s h e. let t = H.trees x s h (before x s h e).1 in (t.0, root_of s t.0 t.1);
      lefts = λ x s e. elim (same_or_not d x) [
        | inl w ↦ of_leaf s (same_left r s (sym (put_here g.place d (left r)) ∙ ap at_now (sym w) ∙ e))
            (H.trees d r 0 V.at)
        | inr w ↦ let t = H.lefts x s (sym (put_else g.place d (left r) x w) ∙ e) in (t.0, root_of s (suc t.0) t.1)
      ];
    }
      where
        of_leaf : (s : ℕ) → r ≡ s → (t : ℕ) × (g.place r ≡ tree r t) → (k : ℕ) × (at_now s ≡ tree s (suc k))
        of_leaf s e (zero, f) = let low = H.highest q r 1 0 V.parent f in absurd (omega (arith, low))
        of_leaf s e (suc k, f) = (k, subst (λ (z : ℕ). at_now z ≡ tree z (suc k)) e (root_of r (suc k) f))

  -- a divided page's children are those of its parts
  leaf_moved : (p n q r : ℕ) (m : E) → IsSplitLeaf o top N M g p n q r m → (x : ℕ) → In x (children (N p))
      → In x (children (M p)) ⊎ In x (children (M n))
  leaf_moved p n q r m V x i = absurd (seen x (N p) (leaf V.right (g.high p) V.keys) V.before i)

  inner_moved : (p n q r k : ℕ) (V : IsSplitInner N M g p n q r k) → (x : ℕ) → In x (children (N p))
      → In x (children (M p)) ⊎ In x (children (M n))
  inner_moved p n q r k V x i = elim (pages_append x V.front _ (seen x (N p) _ V.before i)) [
    | inl a ↦ inl (first (pages_front x V.front _ a))
    | inr (inl e) ↦ inl (first (pages_back x V.front _ (inl e)))
    | inr (inr c) ↦ inr (seen x (inner V.right V.back) (M n) (sym V.after_new) c)
  ]
    where
      first : In x (child_pages (V.front ++ V.last ∷ [])) → In x (children (M p))
      first m = seen x (inner n (V.front ++ V.last ∷ [])) (M p) (sym V.after_page) m

  abbrev Hangs : TreeGhost E → Type 0
  Hangs G = HangsOn bottom top M G

  grows_hang : (g' : TreeGhost E) → Grows o bottom top N M g g' → Hangs g'
  grows_hang g' (Grows.quiet same e) = subst Hangs (sym e) (quiet_hangs bottom top N M g H same)
  grows_hang g' (Grows.new_keys p r V e) = subst Hangs (sym e) (new_keys_hang bottom top N M g H o p r V)
  grows_hang g' (Grows.make n V e) = subst Hangs (sym e) (make_hangs o bottom top N M g H n V)
  grows_hang g' (Grows.split_leaf p n q r m V e) =
      subst Hangs (sym e) (division_hangs o bottom top N M g H p n q r 0 m (leaf_division o top N M g S p n q r m V)
      (leaf_moved p n q r m V))
  grows_hang g' (Grows.split_inner p n q r k V e) =
      subst Hangs (sym e) (division_hangs o bottom top N M g H p n q r (suc k) V.last.bound
      (inner_division o top N M g S p n q r k V) (inner_moved p n q r k V))
  grows_hang g' (Grows.grow r n h V e) = subst Hangs (sym e) (grow_hangs o bottom top N M g H S r n h V)

  step_hangs : (g' : TreeGhost E) → Step o bottom top N M g g' → Hangs g'
  step_hangs g' (Step.grows s) = grows_hang g' s
  step_hangs g' (Step.delete d q r V e) = subst Hangs (sym e) (delete_hangs d q r V)

-- trees that are sane and rooted stay rooted over each step
pub rooted_step : {E : Type 0} (o : Order E) (bottom top : E) (N M : ℕ → Node E) (g g' : TreeGhost E) → Sane o top N g
    → AreRooted bottom top N g → Step o bottom top N M g g' → AreRooted bottom top M g'
rooted_step o bottom top N M g g' S A s =
    rooted bottom top M g' (step_hangs o bottom top N M g (hangs bottom top N g A) S g' s)
