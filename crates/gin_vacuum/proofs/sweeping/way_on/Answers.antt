use Rattle.std.proofs.Common.{sym, subst}
use Rattle.entry_tree.specs.Adding.{IsEntryLeaf}
use Rattle.gin_vacuum.proofs.sweeping.way_on.Goals as goal

pub returns-in-EntryLeaf : goal.returns-in-EntryLeaf
returns-in-EntryLeaf c = subst IsEntryLeaf (sym c.in-EntryLeaf.is) (IsEntryLeaf.leaf _ _)
