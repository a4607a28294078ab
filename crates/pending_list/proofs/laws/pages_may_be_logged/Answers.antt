use Rattle.pending_list.proofs.LoggedRows.{added_logged, packed_logged, have_all, pages_follow}
use Rattle.pending_list.proofs.laws.pages_may_be_logged.Goals as goal

pub returns-clause-added : goal.returns-clause-added
returns-clause-added c = added_logged

pub returns-clause-packed : goal.returns-clause-packed
returns-clause-packed c = packed_logged

pub returns-clause-all : goal.returns-clause-all
returns-clause-all c = have_all

pub returns-clause-follow : goal.returns-clause-follow
returns-clause-follow c = pages_follow
