use Rattle.std.proofs.Common.{[]}
use Rattle.ts_query.proofs.query.TsQuery.copied.Goals as goal

pub finish-requires : goal.finish-requires
finish-requires c = (c.args.self.now, c.in_ok-copy.ensures.items [] c.new-builder.ensures, c.in_ok-copy.ensures.sound)

pub returns-clause-value : goal.returns-clause-value
returns-clause-value c = c.finish.ensures.value c.args.self.now (c.in_ok-copy.ensures.items [] c.new-builder.ensures)
