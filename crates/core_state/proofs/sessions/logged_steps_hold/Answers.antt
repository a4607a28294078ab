use Rattle.core_state.proofs.Steps.Logged.{logged_steps, abort_of_all}
use Rattle.core_state.proofs.sessions.logged_steps_hold.Goals as goal

pub returns-clause-steps : goal.returns-clause-steps
returns-clause-steps c = logged_steps

pub returns-clause-abort_of_all : goal.returns-clause-abort_of_all
returns-clause-abort_of_all c = abort_of_all
