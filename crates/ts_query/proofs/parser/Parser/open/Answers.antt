use Rattle.std.proofs.Common.{refl}
use Rattle.ts_query.proofs.Stacks.{open_took}
use Rattle.ts_query.proofs.parser.Parser.open.Goals as goal

pub returns : goal.returns
returns c s d h = open_took c.args.self.now _ s d h refl c.in_ok-push.ensures.items refl
