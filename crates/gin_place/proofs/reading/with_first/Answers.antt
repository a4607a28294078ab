use Rattle.std.proofs.Common.{take, subst}
use Rattle.entry_tree.specs.Adding.{IsAdded}
use Rattle.gin_place.specs.Inner.Reading.{IsReading}
use Rattle.gin_place.proofs.ShortEntries.{short_on, takes_some, not_too_long, some_fresh, all_fresh}
use Rattle.gin_place.proofs.ShortLists.{first_items}
use Rattle.gin_place.proofs.reading.with_first.Goals as goal

pub fitting-count-requires : goal.fitting-count-requires
fitting-count-requires g c =
    let s = short_on c.args.page.now c.args.key.now c.args.list.now c.requires.asked.page c.requires.list in
    record { list = s.is_list; items = c.requires.asked.items }

pub add-requires-clause-no_tree : goal.add-requires-clause-no_tree
add-requires-clause-no_tree g c =
    (short_on c.args.page.now c.args.key.now c.args.list.now c.requires.asked.page c.requires.list).no_tree

pub add-requires-clause-items : goal.add-requires-clause-items
add-requires-clause-items g c = first_items c.fitting-count.result c.args.items.now c.requires.asked.items

pub returns-in-Done : goal.returns-in-Done
returns-in-Done g c =
    let n = c.fitting-count.result in
    let s = short_on c.args.page.now c.args.key.now c.args.list.now c.requires.asked.page c.requires.list in
    let t = takes_some c.args.page.now c.args.key.now c.args.list.now c.args.items.now s n c.requires.asked.items
    c.requires.long c.fitting-count.ensures in
    IsReading.more c.in-Done.new n c.requires.leaf t.some c.fitting-count.ensures.among
    (subst (IsAdded c.args.page.now c.args.key.now (take n c.args.items.now)) c.in-Done.is c.in_ok-new.ensures.added)
    c.requires.within (some_fresh c.args.page.now c.args.key.now c.args.list.now c.args.items.now s n t)
    (c.in_ok-new.ensures.is_page c.in-Done.new c.in-Done.is) s.no_tree

pub returns-in-Full : goal.returns-in-Full
returns-in-Full g c =
    let n = c.fitting-count.result in
    let s = short_on c.args.page.now c.args.key.now c.args.list.now c.requires.asked.page c.requires.list in
    let t = takes_some c.args.page.now c.args.key.now c.args.list.now c.args.items.now s n c.requires.asked.items
    c.requires.long c.fitting-count.ensures in
    IsReading.full_leaf n c.requires.leaf
    (subst (IsAdded c.args.page.now c.args.key.now (take n c.args.items.now)) c.in-Full.is c.in_ok-new.ensures.added)
    (all_fresh c.args.page.now c.args.key.now c.args.list.now c.args.items.now s n t) s.no_tree

pub unreachable-requires : goal.unreachable-requires
unreachable-requires g c =
    let n = c.fitting-count.result in
    let s = short_on c.args.page.now c.args.key.now c.args.list.now c.requires.asked.page c.requires.list in
    let t = takes_some c.args.page.now c.args.key.now c.args.list.now c.args.items.now s n c.requires.asked.items
    c.requires.long c.fitting-count.ensures in
    not_too_long c.args.page.now c.args.key.now c.args.list.now c.args.items.now s n t.some c.fitting-count.ensures
    (subst (IsAdded c.args.page.now c.args.key.now (take n c.args.items.now)) c.in-TooLong.is c.in_ok-new.ensures.added)
