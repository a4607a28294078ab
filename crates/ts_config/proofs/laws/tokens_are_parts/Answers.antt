use Rattle.ts_config.proofs.Alone.{tokens_alone}
use Rattle.ts_config.proofs.laws.tokens_are_parts.Goals as goal

pub returns : goal.returns
returns c = tokens_alone
