use Rattle.std.proofs.Common.{ltb, rules}
use Rattle.std.proofs.lemmas.List.Sorted.{IsPartitionPoint-from_clause}
use Rattle.page_types.specs.declared.page.PostChild.{PostChild}
use Rattle.posting_tree.proofs.Reached.{parted, divided_at}
use Rattle.posting_tree.proofs.finding.below.Goals as goal

pub returns : goal.returns
returns c =
    let children = c.args.children.now in
    let item = c.args.item in
    divided_at children item c.partition_point.result
    (IsPartitionPoint-from_clause (λ (b : PostChild). ltb b.bound item) children c.partition_point.result
    c.partition_point.ensures.partitioned (parted children item c.requires) (λ a r q k. search rules))
