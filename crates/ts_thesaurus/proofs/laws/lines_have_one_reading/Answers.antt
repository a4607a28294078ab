use Rattle.ts_thesaurus.proofs.Readings.{one_reading}
use Rattle.ts_thesaurus.proofs.laws.lines_have_one_reading.Goals as goal

pub returns : goal.returns
returns c = one_reading
