use Rattle.std.proofs.Common.{◌≡◌, length}
use Rattle.gin_hits.proofs.ToldValues.{AreValues}
use Rattle.gin_hits.proofs.judged.put_values.Given as goal

abbrev pub invariant-loop-k : goal.invariant-loop-k
invariant-loop-k l = record {
  count : length l.values.items ≡ length l.fn.values.items;
  are : AreValues l.hits l.item l.absent l.k l.values.items;
}
