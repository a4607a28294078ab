use Rattle.std.proofs.Common.{arith}
use Rattle.page_code.proofs.Appending.{puts_none}
use Rattle.page_types.proofs.BodySizes.{length-meta, length-posting}
use Rattle.page_code.proofs.Sizes.{bounds_short}
use Rattle.page_code.proofs.writing.put_body.Goals as goal

pub put_meta-requires : goal.put_meta-requires
put_meta-requires c =
    let room = rw c.in-Meta.is at c.requires.room in
    omega (arith, room, length-meta c.in-Meta.first c.in-Meta.last c.in-Meta.pages)

pub put_entry_children-requires-clause-sizes : goal.put_entry_children-requires-clause-sizes
put_entry_children-requires-clause-sizes c =
    let is = rw c.in-EntryInner.is at c.requires.body.2 in
    bounds_short c.requires.body.0 c.in-EntryInner.children is.each

pub put_posting-requires : goal.put_posting-requires
put_posting-requires c =
    let room = rw c.in-PostLeaf.is at c.requires.room in
    omega (arith, room, length-posting c.in-PostLeaf.high c.in-PostLeaf.items)

pub returns-in-Free : goal.returns-in-Free
returns-in-Free c = rw c.in-Free.is (puts_none c.args.at c.args.out.now)
