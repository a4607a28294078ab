use Rattle.core_state.proofs.Steps.Pending.{put_pending_may, add_row_may, link_pending_may}
use Rattle.core_state.proofs.LawsHold.{linked_indexed, put_in_front, others_keep_rows}
use Rattle.core_state.proofs.sessions.pending_steps_hold.Goals as goal

pub returns-clause-put_pending : goal.returns-clause-put_pending
returns-clause-put_pending c = put_pending_may

pub returns-clause-add_row : goal.returns-clause-add_row
returns-clause-add_row c = add_row_may

pub returns-clause-link_pending : goal.returns-clause-link_pending
returns-clause-link_pending c = link_pending_may

pub returns-clause-indexed : goal.returns-clause-indexed
returns-clause-indexed c = linked_indexed

pub returns-clause-in_front : goal.returns-clause-in_front
returns-clause-in_front c = put_in_front

pub returns-clause-others : goal.returns-clause-others
returns-clause-others c = others_keep_rows
