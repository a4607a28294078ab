use Rattle.std.proofs.Common.{refl, sym, ◌∙◌, arith}
use Rattle.std.proofs.lemmas.Bool.{false≢true}
use Rattle.posting_code.proofs.Uniting.{lacking_starts, lacking_goes_on, lacking_one, lacking_none}
use Rattle.posting_code.proofs.merging.lacks.Goals as goal

pub loop-item-init : goal.loop-item-init
loop-item-init c = lacking_starts c.args.list.now c.args.items.now c.requires.list c.requires.items

pub returns-then-not-stands_here : goal.returns-then-not-stands_here
returns-then-not-stands_here c =
    let p = c.skip_below-place in (
      λ e. lacking_one c.args.list.now c.args.items.now c.loop-item.item-index c.loop-item.place.last _ p.result.last
          c.loop-item.place.rest.now p.result.rest.now c.loop-item.invariant c.loop-item-test.true refl p.ensures
          (λ k. false≢true (sym c.if-not-stands_here.true ∙ c.stands_here.ensures.1 k)),
      λ w. refl,
    )

pub loop-item-preserved : goal.loop-item-preserved
loop-item-preserved c =
    let p = c.skip_below-place in
    lacking_goes_on c.args.list.now c.args.items.now c.loop-item.item-index c.loop-item.place.last _ p.result.last
    c.loop-item.place.rest.now p.result.rest.now c.loop-item.invariant c.loop-item-test.true refl p.ensures
    (c.stands_here.ensures.0 c.if-not-stands_here.false)

pub returns : goal.returns
returns c = (
  λ e. absurd cc,
  λ w. absurd (lacking_none c.args.list.now c.args.items.now c.loop-item.item-index c.loop-item.place.last
      c.loop-item.place.rest.now c.loop-item.invariant (omega (arith, c.loop-item-test.false)) w),
)
