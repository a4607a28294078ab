use Rattle.std.proofs.Common.{◌≤◌, ℕ, subst}
use Rattle.core_state.specs.PageChoice.{IsLeastIfAny, HasRoomAt}
use Rattle.core_state.specs.Rooms.{InMemory}
use Rattle.core_state.proofs.HeapRooms.{room_framed}
use Rattle.core_state.proofs.state.State.room_from.Goals as goal

pub returns : goal.returns
returns c =
    subst (λ (h : InMemory). IsLeastIfAny (λ (p : ℕ). (c.args.k ≤ p) × HasRoomAt h.value c.args.bytes p)
    c.room_from.result) c.self.view_is
    (room_framed c.self.inside.table.value c.self.inside.records c.self.inside.uses.items c.args.k c.args.bytes
    c.room_from.result c.room_from.ensures)
