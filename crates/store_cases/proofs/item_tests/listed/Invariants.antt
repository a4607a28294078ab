use Rattle.std.proofs.Common.{◌≡◌, ◌++◌}
use Rattle.page_types.specs.Items.{items_of}
use Rattle.store_cases.proofs.item_tests.listed.Given as goal

abbrev pub invariant-loop-item : goal.invariant-loop-item
invariant-loop-item l = l.items.items ++ l.item-iterator ≡ items_of l.bytes
