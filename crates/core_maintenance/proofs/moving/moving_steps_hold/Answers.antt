use Rattle.core_maintenance.proofs.Moves.{shift_may, add_items_may, add_postings_may}
use Rattle.core_maintenance.proofs.moving.moving_steps_hold.Goals as goal

pub returns-clause-shift : goal.returns-clause-shift
returns-clause-shift c = shift_may

pub returns-clause-add_items : goal.returns-clause-add_items
returns-clause-add_items c = add_items_may

pub returns-clause-add_postings : goal.returns-clause-add_postings
returns-clause-add_postings c = add_postings_may
