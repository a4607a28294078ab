use Rattle.std.proofs.Common.{[], arith}
use Rattle.entry_tree.proofs.AddedPages.{here_size, new_size}
use Rattle.entry_tree.proofs.adding.size_with.Goals as goal

pub overflow_sub-result : goal.overflow_sub-result
overflow_sub-result c =
    let s = c.args.spot in
    let size = here_size c.args.page.now.body c.args.key.now s.old.now [] s.place s.there c.requires.leaf
    c.requires.spot c.if-spot.true in
    omega (arith, size, c.body_length.ensures)

pub returns-then-spot : goal.returns-then-spot
returns-then-spot c =
    let s = c.args.spot in
    let size = here_size c.args.page.now.body c.args.key.now s.old.now c.args.list.now s.place s.there c.requires.leaf
    c.requires.spot c.if-spot.true in
    let none = here_size c.args.page.now.body c.args.key.now s.old.now [] s.place s.there c.requires.leaf
    c.requires.spot c.if-spot.true in
    omega (arith, size, none, c.body_length.ensures)

pub returns-else-spot : goal.returns-else-spot
returns-else-spot c =
    let s = c.args.spot in
    let size = new_size c.args.page.now.body c.args.key.now s.old.now c.args.list.now s.place s.there c.requires.leaf
    c.requires.spot c.if-spot.false in
    omega (arith, size, c.body_length-else-spot.ensures)
