use Rattle.core_maintenance.proofs.WaysLead.{ways_hold}
use Rattle.core_maintenance.proofs.leading.ways_lead.Goals as goal

pub returns : goal.returns
returns c = ways_hold
