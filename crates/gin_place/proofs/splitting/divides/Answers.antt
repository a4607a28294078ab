use Rattle.std.proofs.Common.{◌≤◌, ◌+◌, List, length, take, drop, subst, sym, arith}
use Rattle.std.proofs.lemmas.List.{take_all}
use Rattle.page_types.specs.Parts.{child_shown}
use Rattle.page_types.specs.declared.page.EntryChild.{EntryChild}
use Rattle.page_types.proofs.Cutting.{take_get}
use Rattle.gin_place.specs.Adopting.{Divides, key_divider}
use Rattle.gin_place.specs.Inner.Dividing.{Passed}
use Rattle.gin_place.proofs.Passing.{at_place, barred, told}
use Rattle.gin_place.proofs.splitting.divides.Goals as goal

pub loop-k-init : goal.loop-k-init
loop-k-init g c = λ b i. absurd i

pub loop-k-preserved : goal.loop-k-preserved
loop-k-preserved g c =
    let more = take_get c.args.children.now c.loop-k.k (child_shown c.in-Some.child) c.in-Some.ensures.some in
    subst (λ (xs : List EntryChild). Passed c.in-Some-named_by.now xs c.args.page c.args.mid.now) (sym more)
    (c.in-Some-named_by.ensures.some (take c.loop-k.k c.args.children.now) c.loop-k.invariant)

pub returns-in_default-named_by : goal.returns-in_default-named_by
returns-in_default-named_by g c =
    let xs = c.args.children.now in
    let x = child_shown c.in-Some.child in
    let whole = at_place c.loop-k.k xs x (take_get xs c.loop-k.k x c.in-Some.ensures.some) in (
      λ t. let z : ⊥ = cc in absurd z,
      λ d. absurd (barred (key_divider c.args.mid.now) c.args.page (take c.loop-k.k xs) (drop (c.loop-k.k + 1) xs) x
          (subst (λ (l : List EntryChild). Divides l c.args.page c.args.mid.now) whole d) c.loop-k.named
          c.loop-k.invariant c.in_default-named_by.ensures.none),
    )

pub returns : goal.returns
returns g c =
    let far : length c.args.children.now ≤ c.loop-k.k = omega (arith, c.loop-k-test.false, c.len-k-end.ensures) in
    told (key_divider c.args.mid.now) c.args.page c.loop-k.named c.args.children.now
    (subst (λ (xs : List EntryChild). Passed c.loop-k.named xs c.args.page c.args.mid.now)
    (take_all c.loop-k.k c.args.children.now far) c.loop-k.invariant)
