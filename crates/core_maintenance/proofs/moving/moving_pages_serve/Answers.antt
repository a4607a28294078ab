use Rattle.core_maintenance.proofs.Serving.{items_serve, postings_serve}
use Rattle.core_maintenance.proofs.moving.moving_pages_serve.Goals as goal

pub returns-clause-items : goal.returns-clause-items
returns-clause-items c = items_serve

pub returns-clause-postings : goal.returns-clause-postings
returns-clause-postings c = postings_serve
