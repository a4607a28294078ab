use Rattle.core_state.proofs.Steps.Seen.{own_holds, idle_holds}
use Rattle.core_state.proofs.Steps.Pinned.{pin_holds, right_holds}
use Rattle.core_state.proofs.Steps.Drawn.{not_drawn}
use Rattle.core_state.proofs.sessions.views_hold.Goals as goal

pub returns-clause-own : goal.returns-clause-own
returns-clause-own c = own_holds

pub returns-clause-pin : goal.returns-clause-pin
returns-clause-pin c = pin_holds

pub returns-clause-right : goal.returns-clause-right
returns-clause-right c = right_holds

pub returns-clause-not_drawn : goal.returns-clause-not_drawn
returns-clause-not_drawn c = not_drawn

pub returns-clause-idle : goal.returns-clause-idle
returns-clause-idle c = idle_holds
