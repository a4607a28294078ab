use Rattle.std.proofs.Common.{arith}
use Rattle.page_types.proofs.ItemReading.{item_shorter}
use Rattle.posting_code.proofs.Cutting.{tried_starts, tried_keeps, tried_goes_on, ends_past, ends_all, tells_some}
use Rattle.posting_code.proofs.Cutting.{tells_none, halves_front, halves_back, next_first}
use Rattle.posting_code.proofs.dividing.last_within.Goals as goal

pub loop-item-init : goal.loop-item-init
loop-item-init c = tried_starts c.args.most c.args.list.now c.requires

pub returns-then-size-most-clause-some : goal.returns-then-size-most-clause-some
returns-then-size-most-clause-some c =
    tells_some c.args.most c.args.list.now c.loop-item.found (ends_past c.args.most c.args.list.now c.loop-item.found
    c.loop-item.last c.loop-item.rest.now c.loop-item.invariant (omega (arith, c.if-size-most.true)))

pub returns-then-size-most-clause-none : goal.returns-then-size-most-clause-none
returns-then-size-most-clause-none c =
    tells_none c.args.most c.args.list.now c.loop-item.found (ends_past c.args.most c.args.list.now c.loop-item.found
    c.loop-item.last c.loop-item.rest.now c.loop-item.invariant (omega (arith, c.if-size-most.true)))

pub loop-item-smaller-then-size-gt0 : goal.loop-item-smaller-then-size-gt0
loop-item-smaller-then-size-gt0 c =
    item_shorter c.loop-item.last c.loop-item.rest.now c.in-Ok.item c.in-Ok.after.now c.in-Ok.ensures.next

pub loop-item-preserved-then-size-gt0 : goal.loop-item-preserved-then-size-gt0
loop-item-preserved-then-size-gt0 c =
    let g = c.loop-item.invariant in
    tried_keeps c.args.most c.args.list.now c.loop-item.found c.loop-item.last c.loop-item.rest.now
    c.in-Ok.item c.in-Ok.after.now _ g c.in-Ok.ensures.next (omega (arith, c.if-size-gt0.true))
    (omega (arith, c.if-size-most.false)) (record {
      front_is = halves_front c.args.list.now c.loop-item.last c.loop-item.rest.now g.place;
      last_is = g.place.last_is;
      next_is = next_first c.args.list.now c.loop-item.last c.loop-item.rest.now c.in-Ok.item c.in-Ok.after.now g.place
          c.in-Ok.ensures.next;
      back_is = halves_back c.args.list.now c.loop-item.last c.loop-item.rest.now c.in-Ok.item c.in-Ok.after.now g.place
          c.in-Ok.ensures.next;
    })

pub loop-item-smaller : goal.loop-item-smaller
loop-item-smaller c =
    item_shorter c.loop-item.last c.loop-item.rest.now c.in-Ok.item c.in-Ok.after.now c.in-Ok.ensures.next

pub loop-item-preserved : goal.loop-item-preserved
loop-item-preserved c =
    tried_goes_on c.args.most c.args.list.now c.loop-item.found c.loop-item.last c.loop-item.rest.now c.in-Ok.item
    c.in-Ok.after.now c.loop-item.invariant c.in-Ok.ensures.next (omega (arith, c.if-size-gt0.false))

pub returns-clause-some : goal.returns-clause-some
returns-clause-some c =
    tells_some c.args.most c.args.list.now c.loop-item.found (ends_all c.args.most c.args.list.now c.loop-item.found
    c.loop-item.last c.loop-item.rest.now c.in_default.field-0 c.loop-item.invariant c.in_default.ensures.next)

pub returns-clause-none : goal.returns-clause-none
returns-clause-none c =
    tells_none c.args.most c.args.list.now c.loop-item.found (ends_all c.args.most c.args.list.now c.loop-item.found
    c.loop-item.last c.loop-item.rest.now c.in_default.field-0 c.loop-item.invariant c.in_default.ensures.next)
