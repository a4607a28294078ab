use Rattle.std.proofs.Common.{sym, ap, ◌∙◌}
use Rattle.core_state.specs.Rooms.{InMemory}
use Rattle.core_state.proofs.HeapRooms.{room_alone}
use Rattle.core_state.proofs.table.TransactionTable.room_from.Goals as goal

pub returns-in-None : goal.returns-in-None
returns-in-None c =
    room_alone c.args.self.now.value c.args.k c.args.bytes c.freed_with_room.result
    (sym (ap (λ (h : InMemory). h.value.current) c.self.view_is) ∙ c.in-None.is) c.freed_with_room.ensures.least
