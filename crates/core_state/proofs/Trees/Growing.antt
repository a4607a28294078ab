-- A step of a tree with what it keeps; a step that touches no page of a tree.
use Rattle.std.proofs.Common.{◌≡◌, ◌≢◌, ℕ, List, refl, inl, inr}
use Rattle.core_state.specs.Log.{In}
use Rattle.core_state.specs.Trees.Nodes.{Order, Node, TreeGhost}
use Rattle.core_state.specs.Trees.Nodes.TreePlace.{none}
use Rattle.core_state.proofs.PageLists.{in_or_not}
use Rattle.core_state.proofs.Trees.Steps.{Grows, Step, Keeps, KeepsIn}

module _ {E : Type 0} (o : Order E) (bottom top : E) (N M : ℕ → Node E) (g : TreeGhost E) where
  -- the tree grows, and each key stays
  abbrev pub Growing : TreeGhost E → Type 0
  Growing g' = (s : Grows o bottom top N M g g') × ((k : E) → KeepsIn o bottom top N M g g' k s)

  -- a step, in which each key stays that isn't removed
  abbrev pub Stepping : TreeGhost E → (E → Type 0) → Type 0
  Stepping g' Removed = (s : Step o bottom top N M g g') × ((k : E) → (Removed k → ⊥) → Keeps o bottom top N M g g' k s)

  pub as_step : (g' : TreeGhost E) (Removed : E → Type 0) → Growing g' → Stepping g' Removed
  as_step g' Removed s = (Step.grows s.0, λ k n. s.1 k)

  -- where the pages that changed have no place, or show the same node, nothing happens
  pub quiet_here : (cs : List ℕ) → ((q : ℕ) → (In q cs → ⊥) → M q ≡ N q)
      → ((q : ℕ) → In q cs → g.place q ≢ none → M q ≡ N q) → Growing g
  quiet_here cs off on = (
    Grows.quiet (λ q n. elim (in_or_not q cs) [ inl m ↦ on q m n | inr m ↦ off q m ]) refl,
    λ k. tt,
  )
