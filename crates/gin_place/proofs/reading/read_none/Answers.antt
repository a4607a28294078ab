use Rattle.std.proofs.Common.{◌≡◌, rules, sym, ap, subst, length}
use Rattle.std.specs.Prelude.{Option, IfNone}
use Rattle.entry_tree.specs.Adding.{IsAdded}
use Rattle.entry_tree.specs.declared.adding.Added.TheVariants as added
use Rattle.gin_place.specs.declared.reading.Reading.{Reading}
use Rattle.gin_place.specs.Inner.Reading.{IsReading, IsShortList}
use Rattle.gin_place.proofs.ReadPages.{is_absent, leaf_absent, within_absent, no_tree_absent, fresh_absent, none_in}
use Rattle.gin_place.proofs.reading.read_none.Goals as goal

pub returns-then-is_empty : goal.returns-then-is_empty
returns-then-is_empty g c =
    let none : length c.args.items.now ≡ 0 = search rules in
    IsReading.stand 0 (sym none) (λ i on. absurd (none_in i c.args.items.now none on))

pub with_items-requires-clause-leaf : goal.with_items-requires-clause-leaf
with_items-requires-clause-leaf g c =
    let h = is_absent c.args.page.now c.args.key.now c.requires.absent.0 c.requires.absent.1 in
    leaf_absent c.args.page.now c.args.key.now c.requires.asked.page h

pub with_items-requires-clause-within : goal.with_items-requires-clause-within
with_items-requires-clause-within g c =
    let h = is_absent c.args.page.now c.args.key.now c.requires.absent.0 c.requires.absent.1 in
    within_absent c.args.page.now c.args.key.now c.requires.asked.page h

pub with_items-requires-clause-no_tree : goal.with_items-requires-clause-no_tree
with_items-requires-clause-no_tree g c =
    let h = is_absent c.args.page.now c.args.key.now c.requires.absent.0 c.requires.absent.1 in
    no_tree_absent c.args.page.now c.args.key.now c.requires.asked.page h

pub with_items-requires-clause-fresh : goal.with_items-requires-clause-fresh
with_items-requires-clause-fresh g c =
    let h = is_absent c.args.page.now c.args.key.now c.requires.absent.0 c.requires.absent.1 in
    fresh_absent c.args.page.now c.args.key.now c.requires.asked.page h c.args.items.now (λ e.
    let none : length c.args.items.now ≡ 0 = ap length e in
    let z : ⊥ = search (rules, none) in z)

pub with_first-requires-clause-leaf : goal.with_first-requires-clause-leaf
with_first-requires-clause-leaf g c =
    let h = is_absent c.args.page.now c.args.key.now c.requires.absent.0 c.requires.absent.1 in
    leaf_absent c.args.page.now c.args.key.now c.requires.asked.page h

pub with_first-requires-clause-within : goal.with_first-requires-clause-within
with_first-requires-clause-within g c =
    let h = is_absent c.args.page.now c.args.key.now c.requires.absent.0 c.requires.absent.1 in
    within_absent c.args.page.now c.args.key.now c.requires.asked.page h

pub with_first-requires-clause-list : goal.with_first-requires-clause-list
with_first-requires-clause-list g c = IsShortList.none c.requires.absent.0 c.requires.absent.1

pub with_first-requires-clause-long : goal.with_first-requires-clause-long
with_first-requires-clause-long g c =
    subst (λ (o : Option Reading). IfNone o (IsAdded c.args.page.now c.args.key.now c.args.items.now added.TooLong))
    c.in-None.is c.in_ok-reading.ensures.none
