use Rattle.entry_tree.proofs.SplitParts.{leaf_parts, inner_parts}
use Rattle.entry_tree.proofs.splitting.part_of.Goals as goal

pub returns-in-EntryLeaf : goal.returns-in-EntryLeaf
returns-in-EntryLeaf c =
    leaf_parts c.args.page.now.body c.args.high.now c.in-EntryLeaf.high c.in-EntryLeaf.entries c.args.from c.args.to
    c.leaf_part.result c.in-EntryLeaf.is c.leaf_part.ensures

pub returns-in-EntryInner : goal.returns-in-EntryInner
returns-in-EntryInner c =
    inner_parts c.args.page.now.body c.args.high.now c.in-EntryInner.children c.args.from c.args.to
    c.inner_part.result c.in-EntryInner.is c.inner_part.ensures
