use Rattle.std.proofs.Common.{leb, ℕ, rules}
use Rattle.std.proofs.lemmas.List.Sorted.{IsPartitionPoint-from_clause}
use Rattle.gin_place.proofs.UpToItems.{items_parted, some_up_to, all_items}
use Rattle.gin_place.proofs.postings.up_to.Goals as goal

pub returns-then-high-eq0 : goal.returns-then-high-eq0
returns-then-high-eq0 c = all_items c.args.items.now c.args.high _ c.if-high-eq0.true (search rules)

pub returns : goal.returns
returns c =
    let items = c.args.items.now in
    let high = c.args.high in
    some_up_to items high c.partition_point.result (search rules) c.if-high-eq0.false
    (IsPartitionPoint-from_clause (λ (i : ℕ). leb i high) items c.partition_point.result
    c.partition_point.ensures.partitioned (items_parted items high c.requires.items) (λ a r q k. search rules))
