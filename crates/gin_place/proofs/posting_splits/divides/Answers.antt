use Rattle.std.proofs.Common.{◌≤◌, ◌+◌, List, get_or, length, take, drop, subst, sym, arith}
use Rattle.std.proofs.lemmas.List.{take_all}
use Rattle.std.proofs.lemmas.Option.{slice_get-get_or}
use Rattle.page_types.specs.declared.page.PostChild.{PostChild}
use Rattle.page_types.proofs.Cutting.{take_get}
use Rattle.gin_place.specs.Adopting.{DividesItems, item_divider}
use Rattle.gin_place.specs.Inner.Dividing.{PassedItem}
use Rattle.gin_place.proofs.Passing.{at_place, barred, told}
use Rattle.gin_place.proofs.posting_splits.divides.Goals as goal

-- what a place after the last would give
abbrev no_child : PostChild
no_child = record { page = 0; bound = 0 }

pub loop-child-init : goal.loop-child-init
loop-child-init c = λ b i. absurd i

pub loop-child-preserved : goal.loop-child-preserved
loop-child-preserved c =
    let xs = c.args.children.now in
    let k = c.loop-child.child-index in
    let more = take_get xs k (get_or xs k no_child) (slice_get-get_or xs k no_child c.loop-child-test.true) in
    subst (λ (ys : List PostChild). PassedItem c.in-Some.now ys c.args.page c.args.mid) (sym more)
    (c.in-Some.ensures.some (take k xs) c.loop-child.invariant)

pub returns-in_default : goal.returns-in_default
returns-in_default c =
    let xs = c.args.children.now in
    let k = c.loop-child.child-index in
    let x = get_or xs k no_child in
    let whole = at_place k xs x (take_get xs k x (slice_get-get_or xs k no_child c.loop-child-test.true)) in (
      λ t. let z : ⊥ = cc in absurd z,
      λ d. absurd (barred (item_divider c.args.mid) c.args.page (take k xs) (drop (k + 1) xs) x
          (subst (λ (l : List PostChild). DividesItems l c.args.page c.args.mid) whole d) c.loop-child.named
          c.loop-child.invariant c.in_default.ensures.none),
    )

pub returns : goal.returns
returns c =
    let far : length c.args.children.now ≤ c.loop-child.child-index = omega (arith, c.loop-child-test.false) in
    told (item_divider c.args.mid) c.args.page c.loop-child.named c.args.children.now
    (subst (λ (xs : List PostChild). PassedItem c.loop-child.named xs c.args.page c.args.mid)
    (take_all c.loop-child.child-index c.args.children.now far) c.loop-child.invariant)
