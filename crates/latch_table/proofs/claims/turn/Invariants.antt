use Rattle.std.proofs.Common.{◌≡◌}
use Rattle.latch_table.specs.Held.{turned_by}
use Rattle.latch_table.proofs.claims.turn.Given as goal

abbrev pub invariant-loop : goal.invariant-loop
invariant-loop g l = (l.seat.table_id ≡ l.initial.seat.table_id) × (l.seat.id ≡ l.initial.seat.id)
    × (l.seat.me ≡ (l.initial.seat.me.0, turned_by l.counter l.initial.seat.me.1))
