use Rattle.store_bench.proofs.Keys.{is_key, no_tree}
use Rattle.store_bench.proofs.pages.takes_item.Goals as goal

pub add-requires-clause-no_tree : goal.add-requires-clause-no_tree
add-requires-clause-no_tree c =
    let list = c.in-Some.ensures.list in
    no_tree c.args.page.now c.args.k c.in-Some.key.now list.0 c.requires c.in-Some.ensures.leaf list.1

pub add-requires-clause-key : goal.add-requires-clause-key
add-requires-clause-key c =
    let list = c.in-Some.ensures.list in
    is_key c.args.page.now c.args.k c.in-Some.key.now list.0 c.requires c.in-Some.ensures.leaf list.1
