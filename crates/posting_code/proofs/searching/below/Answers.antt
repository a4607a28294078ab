use Rattle.std.proofs.Common.{arith}
use Rattle.posting_code.proofs.Windows.{ends_at, shrinks, one_more_below}
use Rattle.posting_code.proofs.searching.below.Goals as goal

pub loop-place-init : goal.loop-place-init
loop-place-init c = c.narrowed-few.ensures.below

pub loop-place-preserved : goal.loop-place-preserved
loop-place-preserved c =
    one_more_below c.args.items.now c.args.item c.loop-place.place c.loop-place.invariant c.if-items-place.false

pub returns-then-items-place : goal.returns-then-items-place
returns-then-items-place c =
    let few = c.narrowed-few.result in
    let place = c.loop-place.place in
    ends_at c.args.items.now c.args.item c.requires.rise place few.high place
    (shrinks c.args.items.now c.args.item few.low few.high place c.narrowed-few.ensures
    (omega (arith, c.loop-place-test.true)) c.loop-place.invariant) c.loop-place-test.true (omega arith)
    c.if-items-place.true

pub returns : goal.returns
returns c =
    let few = c.narrowed-few.result in
    shrinks c.args.items.now c.args.item few.low few.high few.high c.narrowed-few.ensures (omega arith)
    (λ j lt. c.loop-place.invariant j (omega (arith, lt, c.loop-place-test.false)))
