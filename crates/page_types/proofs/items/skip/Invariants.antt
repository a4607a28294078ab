use Rattle.std.proofs.Common.{◌≡◌, length}
use Rattle.page_types.specs.ItemReading.{number_end}
use Rattle.page_types.proofs.items.skip.Given as goal

abbrev pub invariant-loop-rest : goal.invariant-loop-rest
invariant-loop-rest l = number_end l.rest ≡ number_end l.bytes

abbrev pub decreases-loop-rest : goal.decreases-loop-rest
decreases-loop-rest l = length l.rest
