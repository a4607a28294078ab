use Rattle.std.proofs.Common.{arith}
use Rattle.page_types.proofs.ItemReading.{item_shorter}
use Rattle.posting_code.proofs.Cutting.{under_starts, under_goes_on, found_first, none_first, halves_front, halves_back}
use Rattle.posting_code.proofs.Cutting.{next_first}
use Rattle.posting_code.proofs.dividing.first_from.Goals as goal
use Rattle.posting_code.proofs.dividing.first_from.Goals.{else-size-gt0-via-then-size-gt0+else-size-least}
use Rattle.posting_code.proofs.dividing.first_from.Goals.{else-size-gt0-via-else-size-gt0}

pub loop-item-init : goal.loop-item-init
loop-item-init c = under_starts c.args.least c.args.list.now c.requires

pub returns-then-size-least-clause-some : goal.returns-then-size-least-clause-some
returns-then-size-least-clause-some c =
    let g = c.loop-item.invariant in (
      g.place.front,
      _,
      found_first c.args.least c.args.list.now c.loop-item.last c.loop-item.rest.now c.in-Ok.item c.in-Ok.after.now g
          c.in-Ok.ensures.next (omega (arith, c.if-size-gt0.true)) (omega (arith, c.if-size-least.true)),
      record {
        front_is = halves_front c.args.list.now c.loop-item.last c.loop-item.rest.now g.place;
        last_is = g.place.last_is;
        next_is = next_first c.args.list.now c.loop-item.last c.loop-item.rest.now c.in-Ok.item c.in-Ok.after.now
            g.place c.in-Ok.ensures.next;
        back_is = halves_back c.args.list.now c.loop-item.last c.loop-item.rest.now c.in-Ok.item c.in-Ok.after.now
            g.place c.in-Ok.ensures.next;
      },
    )

pub loop-item-smaller : goal.loop-item-smaller
loop-item-smaller c =
    item_shorter c.loop-item.last c.loop-item.rest.now c.in-Ok.item c.in-Ok.after.now c.in-Ok.ensures.next

pub loop-item-preserved : goal.loop-item-preserved
loop-item-preserved c =
    under_goes_on c.args.least c.args.list.now c.loop-item.last c.loop-item.rest.now c.in-Ok.item c.in-Ok.after.now
    c.loop-item.invariant c.in-Ok.ensures.next (λ some. elim c.else-size-gt0.branch [
      | else-size-gt0-via-then-size-gt0+else-size-least w ↦ omega (arith, w.if-size-least.false)
      | else-size-gt0-via-else-size-gt0 w ↦ absurd (omega (arith, some, w.if-size-gt0.false))
    ])

pub returns-clause-none : goal.returns-clause-none
returns-clause-none c = none_first c.args.least c.args.list.now c.loop-item.last c.loop-item.rest.now
    c.in_default.field-0 c.loop-item.invariant c.in_default.ensures.next
