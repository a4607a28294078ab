use Rattle.std.proofs.Common.{◌∙◌, ◌++◌, ℕ, List, ap}
use Rattle.gin_hits.proofs.JoinedLists.{one_added, all_added}
use Rattle.gin_hits.proofs.judged.add_all.Goals as goal

pub loop-list-preserved : goal.loop-list-preserved
loop-list-preserved c =
    let now = c.loop-list.items.items in
    one_added c.args.lists.now c.loop-list.list-index c.list-item.result c.args.items.now.items now
    c.extend_from_slice.new.self.items c.loop-list-test.true c.list-item.is
    (c.in_ok-extend_from_slice.ensures.items ∙ ap (λ (is : List ℕ). now ++ is) c.as_slice.ensures.value)
    c.loop-list.invariant

pub returns : goal.returns
returns c =
    all_added c.args.lists.now c.loop-list.list-index c.args.items.now.items c.loop-list.items.items
    c.loop-list-test.false c.loop-list.invariant
