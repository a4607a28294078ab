use Rattle.std.proofs.Common.{◌≡◌, ◌≤◌, ◌-◌, ℕ, take, drop}
use Rattle.core_state.specs.Log.{In}
use Rattle.core_state.specs.Documents.{page_of}
use Rattle.gin_vacuum.proofs.freeing.end_of.Given as goal

abbrev pub invariant-loop-k : goal.invariant-loop-k
invariant-loop-k l =
    (l.from ≤ l.k) × ((i : ℕ) → In i (take (l.k - l.from) (drop l.from l.items)) → page_of i ≡ l.page)
