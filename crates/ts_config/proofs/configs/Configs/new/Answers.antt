use Rattle.ts_config.proofs.Within.{within_first}
use Rattle.ts_config.proofs.configs.Configs.new.Goals as goal

pub invariant_of-result : goal.invariant_of-result
invariant_of-result c = within_first _ _ c.in_ok-dictionaries.ensures c.in_ok-configurations.ensures
