use Rattle.page_types.specs.Parts.{child_shown}
use Rattle.entry_tree.proofs.KeyOrders.{rising_bounds}
use Rattle.entry_tree.proofs.Reached.{found_down, found_past}
use Rattle.entry_tree.proofs.finding.find_child.Goals as goal

pub below-place-requires : goal.below-place-requires
below-place-requires g c = rising_bounds c.args.children.now c.requires.rising

pub returns-in-Some : goal.returns-in-Some
returns-in-Some g c =
    found_down c.args.right c.args.children.now c.args.key.now c.below-place.result (child_shown c.in-Some.child)
    c.below-place.ensures c.in-Some.ensures.some

pub returns-in-None : goal.returns-in-None
returns-in-None g c =
    found_past c.args.right c.args.children.now c.args.key.now c.below-place.result c.below-place.ensures
    c.in-None.ensures.none
