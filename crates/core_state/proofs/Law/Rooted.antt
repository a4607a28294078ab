-- The pages of each tree hang together below its root.
use Rattle.std.specs.Prelude.{◌≡◌, ℕ, suc}
use Rattle.core_state.specs.Trees.Nodes.{Node, TreeGhost}
use Rattle.core_state.specs.Trees.Nodes.TreePlace.{tree, left}
use Rattle.core_state.proofs.Trees.Below.{Rooted}

-- each tree has its root, whose bounds are the least and the greatest; a tree that lost a leaf has
-- an inner page
pub record AreRooted {E : Type 0} (bottom top : E) (N : ℕ → Node E) (g : TreeGhost E) : Type 0 where
  pub roots : (r h : ℕ) → g.place r ≡ tree r h → Rooted N g r h
  pub low : (r h : ℕ) → g.place r ≡ tree r h → g.low r ≡ bottom
  pub high : (r h : ℕ) → g.place r ≡ tree r h → g.high r ≡ top
  pub trees : (p r h : ℕ) → g.place p ≡ tree r h → (k : ℕ) × (g.place r ≡ tree r k)
  pub lefts : (p r : ℕ) → g.place p ≡ left r → (k : ℕ) × (g.place r ≡ tree r (suc k))
