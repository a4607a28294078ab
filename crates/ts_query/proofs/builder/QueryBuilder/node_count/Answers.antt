use Rattle.std.proofs.Common.{length, ap, subst, ◌∙◌}
use Rattle.ts_query.specs.Building.{nodes_among, AreSound}
use Rattle.ts_query.specs.Inner.Built.{trees_in}
use Rattle.ts_query.proofs.Building.{nodes_counted}
use Rattle.ts_query.proofs.builder.QueryBuilder.node_count.Goals as goal

pub returns-clause-value : goal.returns-clause-value
returns-clause-value c =
    ap length c.as_slice.ensures.value ∙ nodes_counted c.self.inside.lists
    (trees_in c.self.inside.lists) c.self.invariant.built ∙ ap nodes_among c.self.view_is

pub returns-clause-sound : goal.returns-clause-sound
returns-clause-sound c = subst AreSound c.self.view_is c.self.invariant.sound
