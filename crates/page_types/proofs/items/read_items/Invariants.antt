use Rattle.std.proofs.Common.{◌-◌}
use Rattle.page_types.proofs.ItemReading.{IsReading}
use Rattle.page_types.proofs.items.read_items.Given as goal

abbrev pub invariant-loop-count : goal.invariant-loop-count
invariant-loop-count l = IsReading l.most l.bytes l.rest l.last l.count

abbrev pub decreases-loop-count : goal.decreases-loop-count
decreases-loop-count l = l.most - l.count
