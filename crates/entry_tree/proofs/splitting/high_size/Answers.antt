use Rattle.std.proofs.Common.{ap, arith}
use Rattle.page_types.specs.Encoding.{count_of}
use Rattle.entry_tree.proofs.SplitParts.{left_leaf_size, key_small}
use Rattle.entry_tree.proofs.splitting.high_size.Goals as goal

pub returns-in-EntryLeaf-clause-size : goal.returns-in-EntryLeaf-clause-size
returns-in-EntryLeaf-clause-size c =
    left_leaf_size c.args.page.now c.in-EntryLeaf.high c.in-EntryLeaf.entries c.args.k c.key_of.result.now
    c.requires.page c.in-EntryLeaf.is (omega (arith, c.requires.there, ap count_of c.in-EntryLeaf.is)) c.key_of.ensures

pub returns-in-EntryLeaf-clause-small : goal.returns-in-EntryLeaf-clause-small
returns-in-EntryLeaf-clause-small c =
    let small = key_small c.args.page.now c.in-EntryLeaf.high c.in-EntryLeaf.entries c.args.k c.key_of.result.now
    c.requires.page c.in-EntryLeaf.is (omega (arith, c.requires.there, ap count_of c.in-EntryLeaf.is))
    c.key_of.ensures in
    omega (arith, small)
