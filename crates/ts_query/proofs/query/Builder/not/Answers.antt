use Rattle.std.proofs.Common.{refl}
use Rattle.ts_query.proofs.Built.{built_not}
use Rattle.ts_query.proofs.query.Builder.not.Goals as goal

pub returns-clause-built : goal.returns-clause-built
returns-clause-built c is h = built_not c.args.self.now _ is h c.in_ok-push.ensures.items refl
