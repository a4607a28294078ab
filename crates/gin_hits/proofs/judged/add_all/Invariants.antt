use Rattle.std.proofs.Common.{◌⊎◌, ◌↔◌, ℕ, map, take}
use Rattle.core_state.specs.Log.{In}
use Rattle.gin_hits.proofs.JoinedLists.{InOne}
use Rattle.gin_hits.proofs.judged.add_all.Given as goal

abbrev pub invariant-loop-list : goal.invariant-loop-list
invariant-loop-list l =
    (i : ℕ) → In i l.items.items
    ↔ (In i l.fn.items.items ⊎ InOne i (map (λ v. v.items) (take l.list-index l.lists)))
