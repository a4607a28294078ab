use Rattle.std.proofs.Common.{◌≤◌, ℕ, List, ap, subst}
use Rattle.core_state.specs.Log.{In}
use Rattle.core_state.specs.PageChoice.{IsLeastIfAny}
use Rattle.core_state.specs.Rooms.{InMemory}
use Rattle.core_state.proofs.table.TransactionTable.heap_from.Goals as goal

pub returns : goal.returns
returns c =
    subst (λ (qs : List ℕ). IsLeastIfAny (λ (p : ℕ). (c.args.page ≤ p) × In p qs) c.from.result)
    (ap (λ (h : InMemory). h.value.heaps) c.self.view_is) c.from.ensures
