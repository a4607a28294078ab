use Rattle.std.proofs.Common.{◌≡◌, length, refl, ap, subst, rules}
use Rattle.std.specs.Prelude.{Option, Some, IfNone}
use Rattle.std.specs.List.{slice_get}
use Rattle.page_types.specs.Parts.{entry_shown, postings_shown}
use Rattle.page_types.specs.Views.{entries_in}
use Rattle.page_types.specs.declared.page.Entry.{Entry}
use Rattle.page_types.specs.declared.page.Postings.TheVariants.{Inline, Root}
use Rattle.entry_tree.specs.Adding.{IsAdded}
use Rattle.entry_tree.specs.declared.adding.Added.TheVariants as added
use Rattle.gin_place.specs.declared.reading.Reading.{Reading}
use Rattle.gin_place.specs.Inner.Reading.{IsReading, IsShortList}
use Rattle.gin_place.proofs.ReadPages.{is_here, leaf_here, within_here, this_entry, tree_here, no_tree_here, fresh_here}
use Rattle.gin_place.proofs.ReadPages.{stands_here, never_past, item_list_here, list_is}
use Rattle.gin_place.proofs.reading.read_entry.Goals as goal

pub returns-in_default : goal.returns-in_default
returns-in_default g c =
    let h = is_here c.args.page.now c.args.key.now c.args.place c.requires.here in
    absurd (never_past c.args.page.now c.args.key.now c.requires.asked.page c.args.place h c.in_default.ensures.none)

pub returns-in-Root : goal.returns-in-Root
returns-in-Root g c =
    let h = is_here c.args.page.now c.args.key.now c.args.place c.requires.here in
    let e : Entry = entry_shown c.in-Some.entry in
    let same = this_entry c.args.page.now c.args.key.now c.requires.asked.page c.args.place h e
    c.in-Some.ensures.some in
    let is_root : e.postings ≡ Root c.in-Root.root = ap postings_shown c.in-Root.is in
    IsReading.tree c.in-Root.root
    (tree_here c.args.page.now c.args.key.now c.requires.asked.page c.args.place h e c.in-Root.root same is_root)

pub lacks-requires : goal.lacks-requires
lacks-requires g c =
    let h = is_here c.args.page.now c.args.key.now c.args.place c.requires.here in
    let e : Entry = entry_shown c.in-Some.entry in
    let same = this_entry c.args.page.now c.args.key.now c.requires.asked.page c.args.place h e
    c.in-Some.ensures.some in
    let is_list : e.postings ≡ Inline c.in-Inline.list.now = ap postings_shown c.in-Inline.is in
    record {
      list = item_list_here c.args.page.now c.args.key.now c.requires.asked.page c.args.place h e c.in-Inline.list.now
          same is_list;
      items = c.requires.asked.items;
    }

pub with_items-requires-clause-leaf : goal.with_items-requires-clause-leaf
with_items-requires-clause-leaf g c =
    leaf_here c.args.page.now c.args.key.now c.requires.asked.page c.args.place
    (is_here c.args.page.now c.args.key.now c.args.place c.requires.here)

pub with_items-requires-clause-within : goal.with_items-requires-clause-within
with_items-requires-clause-within g c =
    within_here c.args.page.now c.args.key.now c.requires.asked.page c.args.place
    (is_here c.args.page.now c.args.key.now c.args.place c.requires.here)

pub with_items-requires-clause-no_tree : goal.with_items-requires-clause-no_tree
with_items-requires-clause-no_tree g c =
    let h = is_here c.args.page.now c.args.key.now c.args.place c.requires.here in
    let e : Entry = entry_shown c.in-Some.entry in
    let same = this_entry c.args.page.now c.args.key.now c.requires.asked.page c.args.place h e
    c.in-Some.ensures.some in
    let is_list : e.postings ≡ Inline c.in-Inline.list.now = ap postings_shown c.in-Inline.is in
    no_tree_here c.args.page.now c.args.key.now c.requires.asked.page c.args.place h e c.in-Inline.list.now same is_list

pub with_items-requires-clause-fresh : goal.with_items-requires-clause-fresh
with_items-requires-clause-fresh g c =
    let h = is_here c.args.page.now c.args.key.now c.args.place c.requires.here in
    let e : Entry = entry_shown c.in-Some.entry in
    let same = this_entry c.args.page.now c.args.key.now c.requires.asked.page c.args.place h e
    c.in-Some.ensures.some in
    let is_list : e.postings ≡ Inline c.in-Inline.list.now = ap postings_shown c.in-Inline.is in
    let new = c.lacks.ensures.0 (search rules) in (
      new.0,
      new.1,
      fresh_here c.args.page.now c.args.key.now c.requires.asked.page c.args.place h e c.in-Inline.list.now same is_list
          new.0 new.2,
    )

pub with_first-requires-clause-leaf : goal.with_first-requires-clause-leaf
with_first-requires-clause-leaf g c =
    leaf_here c.args.page.now c.args.key.now c.requires.asked.page c.args.place
    (is_here c.args.page.now c.args.key.now c.args.place c.requires.here)

pub with_first-requires-clause-within : goal.with_first-requires-clause-within
with_first-requires-clause-within g c =
    within_here c.args.page.now c.args.key.now c.requires.asked.page c.args.place
    (is_here c.args.page.now c.args.key.now c.args.place c.requires.here)

pub with_first-requires-clause-list : goal.with_first-requires-clause-list
with_first-requires-clause-list g c =
    let h = is_here c.args.page.now c.args.key.now c.args.place c.requires.here in
    let e : Entry = entry_shown c.in-Some.entry in
    let same = this_entry c.args.page.now c.args.key.now c.requires.asked.page c.args.place h e
    c.in-Some.ensures.some in
    let is_list : e.postings ≡ Inline c.in-Inline.list.now = ap postings_shown c.in-Inline.is in
    let entry = list_is c.args.page.now c.args.key.now c.requires.asked.page c.args.place h e c.in-Inline.list.now same
    is_list in
    IsShortList.short c.args.place c.in-Inline.list.now c.requires.here
    (subst (λ (d : Entry). slice_get (entries_in c.args.page.now.body) c.args.place ≡ Some d) entry
    c.in-Some.ensures.some) c.if-list-lt2.true

pub with_first-requires-clause-long : goal.with_first-requires-clause-long
with_first-requires-clause-long g c =
    subst (λ (o : Option Reading). IfNone o (IsAdded c.args.page.now c.args.key.now c.args.items.now added.TooLong))
    c.in-None.is c.in_ok-reading-in-Inline.ensures.none

pub returns-in-None-2 : goal.returns-in-None-2
returns-in-None-2 g c =
    let h = is_here c.args.page.now c.args.key.now c.args.place c.requires.here in
    let e : Entry = entry_shown c.in-Some.entry in
    let same = this_entry c.args.page.now c.args.key.now c.requires.asked.page c.args.place h e
    c.in-Some.ensures.some in
    let is_list : e.postings ≡ Inline c.in-Inline.list.now = ap postings_shown c.in-Inline.is in
    let entry = list_is c.args.page.now c.args.key.now c.requires.asked.page c.args.place h e c.in-Inline.list.now same
    is_list in
    let new = c.lacks.ensures.0 (search rules) in
    IsReading.long c.args.place (record {
      page = c.requires.asked.page;
      leaf = leaf_here c.args.page.now c.args.key.now c.requires.asked.page c.args.place h;
      list = c.in-Inline.list.now;
      there = subst (λ (d : Entry). slice_get (entries_in c.args.page.now.body) c.args.place ≡ Some d) entry
          c.in-Some.ensures.some;
      two = c.if-list-lt2.false;
    })
    (subst (λ (o : Option Reading). IfNone o (IsAdded c.args.page.now c.args.key.now c.args.items.now added.TooLong))
    c.in-None.is c.in_ok-reading-in-Inline.ensures.none) (
      new.0,
      new.1,
      fresh_here c.args.page.now c.args.key.now c.requires.asked.page c.args.place h e c.in-Inline.list.now same is_list
          new.0 new.2,
    )
    (no_tree_here c.args.page.now c.args.key.now c.requires.asked.page c.args.place h e c.in-Inline.list.now same
    is_list)

pub returns-then-not-lacks : goal.returns-then-not-lacks
returns-then-not-lacks g c =
    let h = is_here c.args.page.now c.args.key.now c.args.place c.requires.here in
    let e : Entry = entry_shown c.in-Some.entry in
    let same = this_entry c.args.page.now c.args.key.now c.requires.asked.page c.args.place h e
    c.in-Some.ensures.some in
    let is_list : e.postings ≡ Inline c.in-Inline.list.now = ap postings_shown c.in-Inline.is in
    IsReading.stand (length c.args.items.now) refl (stands_here c.args.page.now c.args.key.now
    c.requires.asked.page c.args.place h e
    c.in-Inline.list.now same is_list c.args.items.now
    (λ new. let z : ⊥ = search (rules, c.lacks.ensures.1 new) in z))
