use Rattle.ts_base.specs.Fault.{Stands}
use Rattle.ts_base.proofs.Faults.{fault_one}
use Rattle.ts_query.specs.Queries.{Query}
use Rattle.ts_query.specs.Grammar.{IsQueryText}
use Rattle.ts_query.proofs.laws.fault_has_one_place.Goals as goal

pub returns : goal.returns
returns c text m n f g = fault_one (Stands Query IsQueryText) text m n f g
