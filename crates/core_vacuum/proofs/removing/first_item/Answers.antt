use Rattle.core_state.specs.Inner.TreeItems.{IsFirstItem}
use Rattle.core_vacuum.proofs.removing.first_item.Goals as goal

pub returns-in-Ok : goal.returns-in-Ok
returns-in-Ok c = IsFirstItem.found c.in-Ok.found.0 c.in-Ok.found.1.now c.in-Ok.ensures.next

pub returns-in-Err : goal.returns-in-Err
returns-in-Err c = IsFirstItem.none c.in-Err.field-0 c.args.list.now c.in-Err.ensures.next
