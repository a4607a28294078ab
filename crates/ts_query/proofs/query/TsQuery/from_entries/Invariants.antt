use Rattle.std.proofs.Common.{take, map}
use Rattle.ts_query.specs.Inner.Parsing.{entry_item}
use Rattle.ts_query.specs.Inner.Built.{IsBuilt}
use Rattle.ts_query.proofs.query.TsQuery.from_entries.Given as goal

abbrev pub invariant-loop-entry : goal.invariant-loop-entry
invariant-loop-entry l = IsBuilt l.builder (map entry_item (take l.entry-index l.entries))
