use Rattle.core_maintenance.proofs.AddedPairs.{items_are_main, postings_are_main}
use Rattle.core_maintenance.proofs.moving.added_items_are_main.Goals as goal

pub returns-clause-items : goal.returns-clause-items
returns-clause-items c = items_are_main

pub returns-clause-postings : goal.returns-clause-postings
returns-clause-postings c = postings_are_main
