use Rattle.std.proofs.Common.{map}
use Rattle.gin_hits.proofs.PutInOrder.{AreFirst}
use Rattle.gin_hits.proofs.hits.Hits.put_in_order.Given as goal

abbrev pub invariant-loop-items : goal.invariant-loop-items
invariant-loop-items l =
    AreFirst l.items-index (map (λ v. v.items) l.initial.items-items) (map (λ v. v.items) l.items-items)
