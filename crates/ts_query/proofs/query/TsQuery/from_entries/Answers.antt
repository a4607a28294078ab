use Rattle.std.proofs.Common.{sym, ◌∙◌}
use Rattle.ts_query.proofs.Entries.{entry_length, entry_few}
use Rattle.ts_query.proofs.query.TsQuery.from_entries.Goals as goal

pub operand_of-requires : goal.operand_of-requires
operand_of-requires c =
    entry_length c.args.entries.now c.loop-entry.entry-index c.entry-item.result c.in-Operand.word c.requires.0
    c.loop-entry-test.true (sym c.entry-item.is ∙ c.in-Operand.is) c.requires.1 c.requires.2

pub leaf-requires : goal.leaf-requires
leaf-requires c = entry_few c.args.entries.now c.loop-entry.entry-index c.requires.0 c.loop-entry.builder c.requires.1
    c.requires.2 c.loop-entry.invariant
