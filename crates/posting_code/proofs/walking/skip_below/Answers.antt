use Rattle.std.proofs.Common.{arith}
use Rattle.page_types.proofs.ItemReading.{item_shorter}
use Rattle.posting_code.proofs.Places.{passing_starts, passing_goes_on, passes_at, passes_all}
use Rattle.posting_code.proofs.walking.skip_below.Goals as goal

pub loop-item-init : goal.loop-item-init
loop-item-init c = passing_starts c.args.bound c.args.place.last c.args.place.rest.now c.requires

pub returns-then-item-bound : goal.returns-then-item-bound
returns-then-item-bound c =
    passes_at c.args.bound c.args.place.last c.args.place.rest.now c.loop-item.last c.loop-item.rest.now c.in-Ok.item
    c.in-Ok.after.now c.loop-item.invariant c.in-Ok.ensures.next (omega (arith, c.if-item-bound.true))

pub loop-item-smaller : goal.loop-item-smaller
loop-item-smaller c =
    item_shorter c.loop-item.last c.loop-item.rest.now c.in-Ok.item c.in-Ok.after.now c.in-Ok.ensures.next

pub loop-item-preserved : goal.loop-item-preserved
loop-item-preserved c =
    passing_goes_on c.args.bound c.args.place.last c.args.place.rest.now c.loop-item.last c.loop-item.rest.now
    c.in-Ok.item c.in-Ok.after.now c.loop-item.invariant c.in-Ok.ensures.next (omega (arith, c.if-item-bound.false))

pub returns : goal.returns
returns c = passes_all c.args.bound c.args.place.last c.args.place.rest.now c.loop-item.last c.loop-item.rest.now
    c.in_default.field-0 c.loop-item.invariant c.in_default.ensures.next
