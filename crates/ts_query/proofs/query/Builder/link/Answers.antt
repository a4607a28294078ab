use Rattle.std.proofs.Common.{refl}
use Rattle.ts_query.specs.Inner.Parsing.{link_joint}
use Rattle.ts_query.proofs.Built.{built_joint}
use Rattle.ts_query.proofs.query.Builder.link.Goals as goal

pub returns-clause-built : goal.returns-clause-built
returns-clause-built c is h = built_joint c.args.self.now _ is
    (link_joint c.args.link) c.node_of.result h c.node_of.ensures c.in_ok-push.ensures.items refl
