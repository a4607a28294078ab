use Rattle.ts_thesaurus.proofs.Readings.{one_fits}
use Rattle.ts_thesaurus.proofs.laws.one_fits.Goals as goal

pub returns : goal.returns
returns c = one_fits
