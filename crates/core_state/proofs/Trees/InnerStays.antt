-- An inner page stays one of its tree and keeps its low bound over each step; so does a deleted leaf.
use Rattle.std.proofs.Common.{◌≡◌, ◌≢◌, ℕ, suc, refl, sym, ap, subst, ◌∙◌, inl, inr}
use Rattle.core_state.specs.Trees.Nodes.{Order, Node, TreePlace, TreeGhost, put, AtMost, Sane, IsDeleteLeaf}
use Rattle.core_state.specs.Trees.Nodes.TreePlace.{none, tree, left}
use Rattle.core_state.proofs.PageLists.{same_or_not, in_back}
use Rattle.core_state.proofs.Trees.Order.{put_here, put_else, tree_not_none, tree_not_left, same_tree, zero_suc}
use Rattle.core_state.proofs.Trees.Find.{child_here}
use Rattle.core_state.proofs.Trees.Grow.{IsGrow, grow_ghost}
use Rattle.core_state.proofs.Trees.Steps.{Grows, Step, grows_gone}

module _ {E : Type 0} (o : Order E) (bottom top : E) (least : (x : E) → AtMost o top x top) (wide : o.less bottom top)
    (N M : ℕ → Node E) (g : TreeGhost E) (S : Sane o top N g) (nil : g.place 0 ≡ none) where
  -- an inner page of the tree r with the low bound that p had
  abbrev pub IsInner : TreeGhost E → ℕ → ℕ → Type 0
  IsInner G r p = (h : ℕ) × (G.place p ≡ tree r (suc h)) × (G.low p ≡ g.low p)

  abbrev pub IsGone : TreeGhost E → ℕ → ℕ → Type 0
  IsGone G r p = (G.place p ≡ left r) × (G.low p ≡ g.low p)

  taken : (n p r h : ℕ) (x : TreePlace) (l : E) → g.place n ≡ none → g.place p ≡ tree r (suc h)
      → ((put g.place n x) p ≡ tree r (suc h)) × ((put g.low n l) p ≡ g.low p)
  taken n p r h x l new at =
      let w : p ≢ n = λ e. tree_not_none r (suc h) (sym at ∙ ap g.place e ∙ new) in
      (put_else g.place n x p w ∙ at, put_else g.low n l p w)

  grown : (s n H p r h : ℕ) → IsGrow N M g bottom top s n H → g.place p ≡ tree r (suc h)
      → IsInner (grow_ghost g bottom top s n H) r p
  grown s n H p r h V at = elim (same_or_not s p) [
    | inl e ↦
        let same = same_tree s r H (suc h) (sym V.at ∙ ap g.place (sym e) ∙ at) in (
          H,
          ap (put (put g.place n (tree s H)) s (tree s (suc H))) e
              ∙ put_here (put g.place n (tree s H)) s (tree s (suc H)) ∙ ap (λ (z : ℕ). tree z (suc H)) same.0,
          put_else g.low n bottom p w,
        )
    | inr d ↦ (
      h,
      put_else (put g.place n (tree s H)) s (tree s (suc H)) p d ∙ put_else g.place n (tree s H) p w
          ∙ at,
      put_else g.low n bottom p w,
    )
  ]
    where
      w : p ≢ n
      w e = tree_not_none r (suc h) (sym at ∙ ap g.place e ∙ V.new)

  next_place : (d q s : ℕ) (V : IsDeleteLeaf o top N M g d q s) → g.place V.next.page ≡ tree s 0
  next_place d q s V = (child_here o top N g S q s 0 V.parent_right _ V.next V.parent V.before_parent
      (in_back V.next V.front _ (inr (inl refl)))).0

  grows_inner : (g' : TreeGhost E) → Grows o bottom top N M g g' → (p r h : ℕ) → g.place p ≡ tree r (suc h)
      → IsInner g' r p
  grows_inner g' (Grows.quiet same e) p r h at = subst (λ (G : TreeGhost E). IsInner G r p) (sym e) (h, at, refl)
  grows_inner g' (Grows.new_keys s t V e) p r h at = subst (λ (G : TreeGhost E). IsInner G r p) (sym e) (h, at, refl)
  grows_inner g' (Grows.make n V e) p r h at =
      subst (λ (G : TreeGhost E). IsInner G r p) (sym e) (
        h,
        (taken n p r h (tree n 0) bottom V.new at).0,
        (taken n p r h (tree n 0) bottom V.new at).1,
      )
  grows_inner g' (Grows.split_leaf s n q t m V e) p r h at =
      subst (λ (G : TreeGhost E). IsInner G r p) (sym e) (
        h,
        (taken n p r h (tree t 0) m V.new at).0,
        (taken n p r h (tree t 0) m V.new at).1,
      )
  grows_inner g' (Grows.split_inner s n q t k V e) p r h at =
      subst (λ (G : TreeGhost E). IsInner G r p) (sym e) (
        h,
        (taken n p r h (tree t (suc k)) V.last.bound V.new at).0,
        (taken n p r h (tree t (suc k)) V.last.bound V.new at).1,
      )
  grows_inner g' (Grows.grow s n H V e) p r h at =
      subst (λ (G : TreeGhost E). IsInner G r p) (sym e) (grown s n H p r h V at)

  pub step_inner : (g' : TreeGhost E) → Step o bottom top N M g g' → (p r h : ℕ) → g.place p ≡ tree r (suc h)
      → IsInner g' r p
  step_inner g' (Step.grows s) p r h at = grows_inner g' s p r h at
  step_inner g' (Step.delete d q s V e) p r h at = subst (λ (G : TreeGhost E). IsInner G r p) (sym e) (
    h,
    put_else g.place d (left s) p (λ z. zero_suc s r h (sym V.at ∙ ap g.place (sym z) ∙ at)) ∙ at,
    put_else g.low V.next.page (g.low d) p
        (λ z. zero_suc s r h (sym (next_place d q s V) ∙ ap g.place (sym z) ∙ at)),
  )

  pub step_left : (g' : TreeGhost E) → Step o bottom top N M g g' → (p r : ℕ) → g.place p ≡ left r → IsGone g' r p
  step_left g' (Step.grows s) p r at = grows_gone o bottom top least wide N M g S nil g' s p r at
  step_left g' (Step.delete d q s V e) p r at = subst (λ (G : TreeGhost E). IsGone G r p) (sym e) (
    put_else g.place d (left s) p (λ z. tree_not_left s 0 r (sym V.at ∙ ap g.place (sym z) ∙ at)) ∙ at,
    put_else g.low V.next.page (g.low d) p
        (λ z. tree_not_left s 0 r (sym (next_place d q s V) ∙ ap g.place (sym z) ∙ at)),
  )
