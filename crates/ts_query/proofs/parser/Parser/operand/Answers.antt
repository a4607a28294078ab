use Rattle.std.proofs.Common.{refl}
use Rattle.ts_query.proofs.Stacks.{word_took}
use Rattle.ts_query.proofs.parser.Parser.operand.Goals as goal

pub returns : goal.returns
returns c at s d h = word_took c.args.self.now _ s at c.args.operand d h refl refl c.in_ok-push.ensures.items
