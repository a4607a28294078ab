use Rattle.ts_parser.proofs.KindNames.{names_tell}
use Rattle.ts_parser.proofs.laws.names_tell_types.Goals as goal

pub returns : goal.returns
returns c = names_tell
