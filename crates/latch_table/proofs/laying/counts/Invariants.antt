use Rattle.std.proofs.Common.{◌≡◌, length}
use Rattle.latch_table.proofs.laying.counts.Given as goal

abbrev pub invariant-loop : goal.invariant-loop
invariant-loop l = length l.counts.items ≡ l.counter
