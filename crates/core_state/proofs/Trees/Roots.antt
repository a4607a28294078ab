-- The root of a tree.
use Rattle.std.proofs.Common.{◌≡◌, ◌≤◌, ℕ, suc, sym, ◌∙◌, arith}
use Rattle.core_state.specs.Trees.Ext.{Ext}
use Rattle.core_state.specs.Trees.Ext.Ext.{least, greatest}
use Rattle.core_state.specs.Trees.Nodes.{Node, TreeGhost}
use Rattle.core_state.specs.Trees.Nodes.TreePlace.{tree, left}
use Rattle.core_state.proofs.Trees.Order.{same_tree}
use Rattle.core_state.proofs.Law.Rooted.{AreRooted}

-- page r is the root of the tree r: it has the greatest height, and no bounds; what was deleted of
-- the tree was no root
pub record IsRootAt {E : Type 0} (g : TreeGhost (Ext E)) (r top : ℕ) : Type 0 where
  pub at_root : g.place r ≡ tree r top
  pub highest : (x h : ℕ) → g.place x ≡ tree r h → h ≤ top
  pub low : g.low r ≡ least
  pub high : g.high r ≡ greatest
  pub left_low : (x : ℕ) → g.place x ≡ left r → 1 ≤ top

pub root_at : {E : Type 0} (N : ℕ → Node (Ext E)) (g : TreeGhost (Ext E)) → AreRooted least greatest N g → (r top : ℕ)
    → g.place r ≡ tree r top → IsRootAt g r top
root_at N g A r top e = record {
  at_root = e;
  highest = (A.roots r top e).highest;
  low = A.low r top e;
  high = A.high r top e;
  left_low = λ x l. let k = A.lefts x r l in
      let s = (same_tree r r (suc k.0) top (sym k.1 ∙ e)).1 in
      omega (arith, s);
}
