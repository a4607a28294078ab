use Rattle.std.proofs.Common.{ap, length, arith}
use Rattle.page_types.proofs.ItemReading.{some_left}
use Rattle.core_state.proofs.UpperBounds.{up_to_by}
use Rattle.core_state.proofs.tree_items.is_up_to.Goals as goal

pub returns-else-is_empty : goal.returns-else-is_empty
returns-else-is_empty c =
    let some = some_left c.args.bound.now c.is_empty.result c.if-is_empty.false c.is_empty.ensures in
    up_to_by c.args.key.now c.args.bound.now c.is_below.result (λ e. omega (arith, some, ap length e))
    c.is_below.ensures
