use Rattle.std.proofs.Common.{suc, arith}
use Rattle.page_types.specs.Parts.{entry_shown, child_shown}
use Rattle.entry_tree.proofs.SplitParts.{next_entry, next_child, before_small}
use Rattle.entry_tree.proofs.splitting.member_size.Goals as goal

pub entry_size-requires : goal.entry_size-requires
entry_size-requires c =
    let next = next_entry c.args.page.now.body c.in-EntryLeaf.high c.in-EntryLeaf.entries c.args.k
    (entry_shown c.in-Some.entry) c.in-EntryLeaf.is c.in-Some.ensures.some in
    let small = before_small c.args.page.now.body (suc c.args.k) c.requires.entries in
    omega (arith, next, small, c.requires.page.fits)

pub returns-in-Some : goal.returns-in-Some
returns-in-Some c =
    let next = next_entry c.args.page.now.body c.in-EntryLeaf.high c.in-EntryLeaf.entries c.args.k
    (entry_shown c.in-Some.entry) c.in-EntryLeaf.is c.in-Some.ensures.some in
    omega (arith, next, c.entry_size.ensures)

pub returns-in-Some-get : goal.returns-in-Some-get
returns-in-Some-get c =
    next_child c.args.page.now.body c.in-EntryInner.children c.args.k (child_shown c.in-Some-get.child)
    c.in-EntryInner.is c.in-Some-get.ensures.some
