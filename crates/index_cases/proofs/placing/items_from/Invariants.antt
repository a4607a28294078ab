use Rattle.std.proofs.Common.{◌<◌}
use Rattle.page_types.specs.Items.{AreItems}
use Rattle.index_cases.proofs.Rising.{IsAboveFrom}
use Rattle.index_cases.proofs.placing.items_from.Given as goal

abbrev pub invariant-loop : goal.invariant-loop
invariant-loop l = record {
  rise : AreItems l.items.items;
  above : IsAboveFrom 0 l.items.items l.next;
  some : 0 < l.fn.step;
}
