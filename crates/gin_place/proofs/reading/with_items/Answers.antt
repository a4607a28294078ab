use Rattle.std.proofs.Common.{◌≡◌, ℕ, List, length, take, sym, subst, arith}
use Rattle.std.proofs.lemmas.List.{take_all}
use Rattle.entry_tree.specs.Adding.{IsAdded}
use Rattle.entry_tree.specs.declared.adding.Added.TheVariants as added
use Rattle.gin_place.specs.Inner.Reading.{HasFresh, IsReading}
use Rattle.gin_place.proofs.reading.with_items.Goals as goal

pub returns-in-Done-clause-some : goal.returns-in-Done-clause-some
returns-in-Done-clause-some g c =
    let items = c.args.items.now in
    let all : take (length items) items ≡ items = take_all (length items) items (omega arith) in
    let done = subst (IsAdded c.args.page.now c.args.key.now items) c.in-Done.is c.in_ok-new.ensures.added in
    IsReading.more c.in-Done.new (length items) c.requires.leaf (omega (arith, c.requires.fresh.1.1)) (omega arith)
    (subst (λ (l : List ℕ). IsAdded c.args.page.now c.args.key.now l (added.Done c.in-Done.new)) (sym all) done)
    c.requires.within
    (subst (HasFresh c.args.page.now.body c.args.key.now) (sym all) c.requires.fresh)
    (c.in_ok-new.ensures.is_page c.in-Done.new c.in-Done.is) c.requires.no_tree

pub returns-in-Full-clause-some : goal.returns-in-Full-clause-some
returns-in-Full-clause-some g c =
    let items = c.args.items.now in
    let all : take (length items) items ≡ items = take_all (length items) items (omega arith) in
    let full = subst (IsAdded c.args.page.now c.args.key.now items) c.in-Full.is c.in_ok-new.ensures.added in
    IsReading.full_leaf (length items) c.requires.leaf
    (subst (λ (l : List ℕ). IsAdded c.args.page.now c.args.key.now l added.Full) (sym all) full) c.requires.fresh
    c.requires.no_tree

pub returns-in-TooLong-clause-some : goal.returns-in-TooLong-clause-some
returns-in-TooLong-clause-some g c = tt
