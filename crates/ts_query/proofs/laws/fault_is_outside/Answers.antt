use Rattle.ts_base.specs.Fault.{Stands}
use Rattle.ts_base.proofs.Faults.{fault_outside}
use Rattle.ts_query.specs.Queries.{Query}
use Rattle.ts_query.specs.Grammar.{IsQueryText}
use Rattle.ts_query.proofs.laws.fault_is_outside.Goals as goal

pub returns : goal.returns
returns c text n f q h = fault_outside (Stands Query IsQueryText) text n f (q, h)
