use Rattle.gin_hits.specs.Sides.{MayBeKept}
use Rattle.gin_hits.proofs.ToldHits.{then_too}
use Rattle.gin_hits.proofs.ItemLists.{permuted, rising_once, same_once}
use Rattle.gin_hits.proofs.JoinedLists.{only_these}
use Rattle.gin_hits.proofs.judged.items_of.Goals as goal

pub returns-clause-rising : goal.returns-clause-rising
returns-clause-rising c =
    rising_once c.sort.new.self.items c.dedup.new.self.items c.dedup.ensures.filtered
    c.in_ok-sort.ensures.sorted

pub returns-clause-just : goal.returns-clause-just
returns-clause-just c =
    let added = c.add_possible.new.items.items in
    λ i. then_too (same_once c.sort.new.self.items c.dedup.new.self.items c.dedup.ensures.filtered i)
    (then_too (permuted added c.sort.new.self.items c.sort.ensures.permutation i)
    (only_these i c.new-items.result.items added (MayBeKept c.args.all c.args.pending.now c.args.main.now i)
    c.new-items.ensures.items (c.in_ok-add_possible.ensures i)))
