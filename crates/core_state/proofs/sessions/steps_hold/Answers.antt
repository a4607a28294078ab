use Rattle.core_state.proofs.Steps.Transactions.{begin_may, commit_may, abort_may}
use Rattle.core_state.proofs.Steps.Documents.{place_may, put_overflow_may, mark_may}
use Rattle.core_state.proofs.sessions.steps_hold.Goals as goal

pub returns-clause-begin : goal.returns-clause-begin
returns-clause-begin c = begin_may

pub returns-clause-commit : goal.returns-clause-commit
returns-clause-commit c = commit_may

pub returns-clause-abort : goal.returns-clause-abort
returns-clause-abort c = abort_may

pub returns-clause-place : goal.returns-clause-place
returns-clause-place c = place_may

pub returns-clause-put_overflow : goal.returns-clause-put_overflow
returns-clause-put_overflow c = put_overflow_may

pub returns-clause-mark : goal.returns-clause-mark
returns-clause-mark c = mark_may
