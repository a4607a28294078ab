use Rattle.std.proofs.Common.{◌≡◌, ◌≢◌, ℕ, List, [], length, take, sym, ap, subst, arith, rules}
use Rattle.std.proofs.lemmas.List.{length-take-le}
use Rattle.posting_code.specs.Uniting.{TakesFirst}
use Rattle.posting_tree.specs.Adding.{IsAdded}
use Rattle.posting_tree.specs.Full.{most_list}
use Rattle.gin_place.proofs.PostPages.{LacksSome, leaf_past, leaf_full, leaf_stand, leaf_more, takes_fits}
use Rattle.gin_place.proofs.ShortLists.{first_items}
use Rattle.gin_place.proofs.postings.read_leaf.Goals as goal

pub returns-then-is_empty : goal.returns-then-is_empty
returns-then-is_empty c =
    let none : length (take c.up_to.result c.args.items.now) ≡ 0 = search rules in
    leaf_past c.args.page.now c.in-PostLeaf.high c.in-PostLeaf.list c.in-PostLeaf.is c.args.items.now c.up_to.result
    c.up_to.ensures c.requires.some
    (omega (arith, none, length-take-le c.up_to.result c.args.items.now c.up_to.ensures.among))

pub fitting-count-requires-clause-items : goal.fitting-count-requires-clause-items
fitting-count-requires-clause-items c = first_items c.up_to.result c.args.items.now c.requires.items

pub returns-then-count-eq0 : goal.returns-then-count-eq0
returns-then-count-eq0 c =
    let within = take c.up_to.result c.args.items.now in
    let some : within ≢ [] = λ e.
    let none : length within ≡ 0 = ap length e in
    let z : ⊥ = search (rules, none) in z in
    let takes : TakesFirst c.in-PostLeaf.list within most_list c.fitting-count.result =
    subst (λ (l : List ℕ). TakesFirst l within most_list c.fitting-count.result) c.as_slice.ensures
    c.fitting-count.ensures in
    leaf_full c.args.page.now c.in-PostLeaf.high c.in-PostLeaf.list c.in-PostLeaf.is c.args.items.now c.up_to.result
    c.up_to.ensures c.requires.page some
    (subst (TakesFirst c.in-PostLeaf.list within most_list) c.if-count-eq0.true takes)

pub lacks-requires-clause-items : goal.lacks-requires-clause-items
lacks-requires-clause-items c =
    first_items c.fitting-count.result (take c.up_to.result c.args.items.now)
    (first_items c.up_to.result c.args.items.now c.requires.items)

pub returns-then-not-lacks : goal.returns-then-not-lacks
returns-then-not-lacks c =
    let within = take c.up_to.result c.args.items.now in
    let takes : TakesFirst c.in-PostLeaf.list within most_list c.fitting-count.result =
    subst (λ (l : List ℕ). TakesFirst l within most_list c.fitting-count.result) c.as_slice.ensures
    c.fitting-count.ensures in
    leaf_stand c.args.page.now c.in-PostLeaf.high c.in-PostLeaf.list c.in-PostLeaf.is c.args.items.now c.up_to.result
    c.up_to.ensures c.fitting-count.result (omega (arith, c.if-count-eq0.false)) takes (λ new.
    let had = subst (LacksSome (take c.fitting-count.result within)) (sym c.as_slice-2.ensures) new in
    let z : ⊥ = search (rules, c.lacks.ensures.1 had) in z)

pub add-requires-clause-items : goal.add-requires-clause-items
add-requires-clause-items c =
    first_items c.fitting-count.result (take c.up_to.result c.args.items.now)
    (first_items c.up_to.result c.args.items.now c.requires.items)

pub unreachable-requires-in-Full : goal.unreachable-requires-in-Full
unreachable-requires-in-Full c =
    let within = take c.up_to.result c.args.items.now in
    let takes : TakesFirst c.in-PostLeaf.list within most_list c.fitting-count.result =
    subst (λ (l : List ℕ). TakesFirst l within most_list c.fitting-count.result) c.as_slice.ensures
    c.fitting-count.ensures in
    takes_fits c.args.page.now c.in-PostLeaf.high c.in-PostLeaf.list within c.fitting-count.result c.in-PostLeaf.is
    (omega (arith, c.if-count-eq0.false)) takes
    (subst (IsAdded c.args.page.now (take c.fitting-count.result within)) c.in-Full.is c.in_ok-new.ensures.added)

pub returns : goal.returns
returns c =
    let within = take c.up_to.result c.args.items.now in
    let takes : TakesFirst c.in-PostLeaf.list within most_list c.fitting-count.result =
    subst (λ (l : List ℕ). TakesFirst l within most_list c.fitting-count.result) c.as_slice.ensures
    c.fitting-count.ensures in
    leaf_more c.args.page.now c.in-PostLeaf.high c.in-PostLeaf.list c.in-PostLeaf.is c.args.items.now c.up_to.result
    c.up_to.ensures c.fitting-count.result (omega (arith, c.if-count-eq0.false)) takes c.in-Done.new
    (subst (IsAdded c.args.page.now (take c.fitting-count.result within)) c.in-Done.is c.in_ok-new.ensures.added)
    (c.in_ok-new.ensures.is_page c.in-Done.new c.in-Done.is)
    (subst (LacksSome (take c.fitting-count.result within)) c.as_slice-2.ensures (c.lacks.ensures.0 (search rules)))
