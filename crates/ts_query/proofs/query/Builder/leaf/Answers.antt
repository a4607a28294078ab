use Rattle.std.proofs.Common.{length, ap}
use Rattle.ts_query.proofs.Built.{built_leaf}
use Rattle.ts_query.proofs.query.Builder.leaf.Goals as goal

pub returns-clause-built : goal.returns-clause-built
returns-clause-built c is h = built_leaf c.args.self.now _ is c.args.operand _ h
    (ap length c.as_slice.ensures.value) c.in_ok-push.ensures.items c.in-Ok.ensures.items
