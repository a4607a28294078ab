use Rattle.std.proofs.Common.{◌≡◌, ◌++◌}
use Rattle.page_types.specs.Items.{items_of}
use Rattle.gin_hits.proofs.hits.add_list.Given as goal

abbrev pub invariant-loop-item : goal.invariant-loop-item
invariant-loop-item l = l.items.items ++ l.item-iterator ≡ l.initial.items.items ++ items_of l.bytes
