use Rattle.std.proofs.Common.{refl, inl, inr}
use Rattle.page_types.specs.Items.{items_of}
use Rattle.core_state.specs.Changes.{ItemUpTo}
use Rattle.posting_tree.specs.Finding.{IsFoundIn}
use Rattle.posting_tree.proofs.Members.{not_there, there}
use Rattle.posting_tree.proofs.Reached.{past_high}
use Rattle.posting_tree.proofs.finding.find_item.Goals as goal
use Rattle.posting_tree.proofs.finding.find_item.Goals.{else-high-ne0-via-then-high-ne0+else-high-item}
use Rattle.posting_tree.proofs.finding.find_item.Goals.{else-high-ne0-via-else-high-ne0}

pub returns-then-high-item : goal.returns-then-high-item
returns-then-high-item c =
    IsFoundIn.past_leaf c.args.high c.args.list.now refl
    (past_high c.args.item c.args.high c.if-high-ne0.true c.if-high-item.true)

pub returns-then-lacks : goal.returns-then-lacks
returns-then-lacks c =
    let up : ItemUpTo c.args.item c.args.high = elim c.else-high-ne0.branch [
      | else-high-ne0-via-then-high-ne0+else-high-item w ↦ inr w.if-high-item.false
      | else-high-ne0-via-else-high-ne0 w ↦ inl w.if-high-ne0.false
    ] in
    IsFoundIn.absent c.args.high c.args.list.now refl up
    (not_there c.lacks.result (items_of c.args.list.now) c.args.item c.lacks.ensures c.if-lacks.true)

pub returns-else-lacks : goal.returns-else-lacks
returns-else-lacks c =
    let up : ItemUpTo c.args.item c.args.high = elim c.else-high-ne0.branch [
      | else-high-ne0-via-then-high-ne0+else-high-item w ↦ inr w.if-high-item.false
      | else-high-ne0-via-else-high-ne0 w ↦ inl w.if-high-ne0.false
    ] in
    IsFoundIn.here c.args.high c.args.list.now refl up
    (there c.lacks.result (items_of c.args.list.now) c.args.item c.lacks.ensures c.if-lacks.false)
