use Rattle.ts_config.proofs.Whole.{phrases_whole}
use Rattle.ts_config.proofs.laws.phrases_are_whole.Goals as goal

pub returns : goal.returns
returns c = phrases_whole
