use Rattle.std.proofs.Common.{◌≡◌, ◌<◌, ℕ, Some}
use Rattle.std.specs.List.{slice_get}
use Rattle.entry_tree.specs.Adding.{tree_entry}
use Rattle.store_cases.proofs.entry_tests.none_leads_down.Given as goal

abbrev pub invariant-loop-k : goal.invariant-loop-k
invariant-loop-k l = (j : ℕ) → j < l.k → (root : ℕ) → slice_get l.entries j ≡ Some (tree_entry l.key root) → ⊥
