use Rattle.std.proofs.Common.{[]}
use Rattle.ts_query.proofs.Building.{trees_built, written, none_sound}
use Rattle.ts_query.proofs.builder.QueryBuilder.new.Goals as goal

pub invariant_of-result : goal.invariant_of-result
invariant_of-result c = written c.new.result [] c.new.ensures none_sound

pub returns : goal.returns
returns c = trees_built c.new.result [] c.new.ensures
