use Rattle.page_types.proofs.RecordTelling.{record_told, records_told}
use Rattle.page_types.proofs.laws.records_are_told.Goals as goal

pub returns-clause-one : goal.returns-clause-one
returns-clause-one c = record_told

pub returns-clause-row : goal.returns-clause-row
returns-clause-row c = records_told
