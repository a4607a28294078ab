-- The pages below a root are those that have a place in its tree.
use Rattle.std.proofs.Common.{◌≡◌, ◌⊎◌, ◌≤◌, ◌+◌, ◌-◌, ℕ, zero, suc, List, [], ◌∷◌, refl, sym, subst, inl, inr, arith}
use Rattle.core_state.specs.Log.{In}
use Rattle.core_state.specs.Trees.Nodes.{Order, Child, Node, TreeGhost, Sane}
use Rattle.core_state.specs.Trees.Nodes.Node.{other, leaf, inner, gone}
use Rattle.core_state.specs.Trees.Nodes.TreePlace.{tree}
use Rattle.core_state.proofs.Trees.Kids.{kid_place}

abbrev pub child_pages : {E : Type 0} → List (Child E) → List ℕ
child_pages [] = []
child_pages (c ∷ cs) = c.page ∷ child_pages cs

abbrev pub children : {E : Type 0} → Node E → List ℕ
children other = []
children (leaf right high keys) = []
children (inner right kids) = child_pages kids
children (gone right) = []

pub data Below {E : Type 0} (N : ℕ → Node E) (r : ℕ) : ℕ → Type 0 where
  root : Below N r r
  child : {p q : ℕ} → Below N r p → In q (children (N p)) → Below N r q

-- each page of a tree but its root is a child of one above; the root is the highest
pub record Rooted {E : Type 0} (N : ℕ → Node E) (g : TreeGhost E) (r top : ℕ) : Type 0 where
  pub at_root : g.place r ≡ tree r top
  pub parent : (x h : ℕ) → g.place x ≡ tree r h → (x ≡ r)
      ⊎ ((y : ℕ) × (g.place y ≡ tree r (suc h)) × In x (children (N y)))
  pub highest : (x h : ℕ) → g.place x ≡ tree r h → h ≤ top

pub as_child : {E : Type 0} (q : ℕ) (cs : List (Child E)) → In q (child_pages cs)
    → (c : Child E) × In c cs × (c.page ≡ q)
as_child q [] m = absurd m
as_child q (c ∷ cs) (inl e) = (c, inl refl, sym e)
as_child q (c ∷ cs) (inr m) = let r = as_child q cs m in (r.0, inr r.1, r.2)

module _ {E : Type 0} (o : Order E) (top_key : E) (N : ℕ → Node E) (g : TreeGhost E) (S : Sane o top_key N g)
    (r top : ℕ)
    (T : Rooted N g r top) where
  step_down : (p q h : ℕ) → g.place p ≡ tree r h → In q (children (N p)) → (h' : ℕ) × (g.place q ≡ tree r h')
  step_down p q zero e m = absurd (subst (λ (z : Node E). In q (children z)) (S.leaves p r e).node m)
  step_down p q (suc h) e m =
      let l = S.inners p r h e in
      let c = as_child q l.kids (subst (λ (z : Node E). In q (children z)) l.node m) in
      let k = kid_place o top_key g r h (g.low p) (g.high p) l.kids (λ (y : ℕ) t. S.span y r h t) l.kids_ok c.0 c.1 in
      (h, subst (λ (z : ℕ). g.place z ≡ tree r h) c.2 k.0)

  pub place_of_below : (q : ℕ) → Below N r q → (h : ℕ) × (g.place q ≡ tree r h)
  place_of_below q root = (top, T.at_root)
  place_of_below q (child {p = p} b m) = let up = place_of_below p b in step_down p q up.0 up.1 m

  climb : (d x h : ℕ) → h + d ≡ top → g.place x ≡ tree r h → Below N r x
  climb zero x h e at = elim (T.parent x h at) [
    | inl z ↦ subst (Below N r) (sym z) root
    | inr y ↦ let bound = T.highest y.0 (suc h) y.1 in absurd (omega arith)
  ]
  climb (suc d) x h e at = elim (T.parent x h at) [
    | inl z ↦ subst (Below N r) (sym z) root
    | inr y ↦ child (climb d y.0 (suc h) (omega arith) y.1) y.2
  ]

  pub below_of_place : (x h : ℕ) → g.place x ≡ tree r h → Below N r x
  below_of_place x h at = let bound = T.highest x h at in climb (top - h) x h (omega arith) at
