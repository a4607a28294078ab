use Rattle.std.proofs.Common.{sym, subst}
use Rattle.ts_query.specs.Queries.{IsSound}
use Rattle.ts_query.proofs.Built.{stored_built, query_built}
use Rattle.ts_query.proofs.query.Builder.finish.Goals as goal

pub invariant_of-result : goal.invariant_of-result
invariant_of-result c = stored_built c.args.self c.requires.0 c.requires.1 c.requires.2

pub returns-clause-value : goal.returns-clause-value
returns-clause-value c q h = query_built c.args.self q h

pub returns-clause-sound : goal.returns-clause-sound
returns-clause-sound c = subst IsSound (sym (query_built c.args.self c.requires.0 c.requires.1)) c.requires.2
