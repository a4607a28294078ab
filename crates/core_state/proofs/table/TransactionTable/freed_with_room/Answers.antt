use Rattle.std.proofs.Common.{◌≤◌, ℕ, sym, subst}
use Rattle.core_state.specs.PageChoice.{IsLeastIfAny}
use Rattle.core_state.specs.Rooms.{InMemory}
use Rattle.core_state.specs.Inner.PageRooms.{HasRoomIn}
use Rattle.core_state.proofs.table.TransactionTable.freed_with_room.Goals as goal

pub returns-in_err-place-clause-least : goal.returns-in_err-place-clause-least
returns-in_err-place-clause-least c =
    subst (λ (h : InMemory). IsLeastIfAny
    (λ (p : ℕ). (c.args.k ≤ p) × HasRoomIn h.value.freed h.value.sizes c.args.bytes p) c.from_residual.result)
    c.self.view_is
    (subst (IsLeastIfAny
    (λ (p : ℕ). (c.args.k ≤ p) × HasRoomIn c.self.inside.freed.pages c.self.inside.freed.sizes c.args.bytes p))
    (sym c.from_residual.ensures) c.in_err-place.ensures.least)
