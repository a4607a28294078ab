use Rattle.page_types.proofs.PageLaws.{page_told, has_parts, delta_leads}
use Rattle.page_types.proofs.laws.pages_are_told.Goals as goal

pub returns-clause-one : goal.returns-clause-one
returns-clause-one c = page_told

pub returns-clause-parts : goal.returns-clause-parts
returns-clause-parts c = has_parts

pub returns-clause-deltas : goal.returns-clause-deltas
returns-clause-deltas c = delta_leads
