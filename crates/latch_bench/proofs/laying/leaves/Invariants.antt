use Rattle.std.proofs.Common.{◌≡◌, ℕ, length}
use mathlib.Core.Option.{some}
use lib.ListN.{get_elem?}
use Rattle.latch_bench.specs.declared.slots.Leaf.{Leaf}
use Rattle.latch_bench.proofs.laying.leaves.Given as goal

abbrev pub invariant-loop-page : goal.invariant-loop-page
invariant-loop-page l = (length l.leaves.items ≡ l.page)
    × ((i : ℕ) (f : Leaf) → get_elem? l.leaves.items i ≡ some f → f.page ≡ i)
