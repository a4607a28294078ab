use Rattle.ts_parser.proofs.KindNames.{numbers_tell}
use Rattle.ts_parser.proofs.laws.numbers_tell_types.Goals as goal

pub returns : goal.returns
returns c = numbers_tell
