use Rattle.core_state.proofs.Steps.Pins.{legal_keeps_now, flush_keeps_now, pin_is_taken}
use Rattle.core_state.proofs.sessions.pins_hold.Goals as goal

pub returns-clause-legal : goal.returns-clause-legal
returns-clause-legal c = legal_keeps_now

pub returns-clause-flush : goal.returns-clause-flush
returns-clause-flush c = flush_keeps_now

pub returns-clause-taken : goal.returns-clause-taken
returns-clause-taken c = pin_is_taken
