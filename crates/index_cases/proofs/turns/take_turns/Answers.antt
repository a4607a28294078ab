-- The passes are one again.
use Rattle.std.proofs.Common.{ap, arith}
use Rattle.buffer_frames.specs.declared.pass.Pass.{Pass}
use Rattle.index_cases.proofs.turns.take_turns.Goals as goal

pub join-requires-clause-rooms : goal.join-requires-clause-rooms
join-requires-clause-rooms g c = omega (arith, c.close-turns.ensures.room, c.close-turns.ensures.other.room)

pub join-requires-clause-ended : goal.join-requires-clause-ended
join-requires-clause-ended g c =
    let other = c.close-turns.ensures.other in (other.idle.0, other.none, other.idle.1)

pub returns-in_ok-flush_log-in-Ok : goal.returns-in_ok-flush_log-in-Ok
returns-in_ok-flush_log-in-Ok g c =
    let is = ap (λ (p : Pass). p.room) c.join.ensures.value in
    omega (arith, c.flush_log.ensures.keeps.room, is, c.close-turns.ensures.room, c.close-turns.ensures.other.room)
