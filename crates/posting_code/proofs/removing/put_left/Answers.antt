use Rattle.std.proofs.Common.{sym, ◌∙◌, arith}
use Rattle.std.proofs.lemmas.Bool.{false≢true}
use Rattle.page_types.proofs.ItemReading.{item_shorter}
use Rattle.posting_code.proofs.Places.{next_place, next_small}
use Rattle.posting_code.proofs.Leaving.{leaving_starts, dead_passed, live_written, leaving_ends, leaving_cut}
use Rattle.posting_code.proofs.removing.put_left.Goals as goal

pub loop-item-init : goal.loop-item-init
loop-item-init c = leaving_starts c.args.out.now.items c.args.list.now c.args.dead.now c.requires

pub overflow_sub-item : goal.overflow_sub-item
overflow_sub-item c =
    let n = next_place c.loop-item.before c.loop-item.rest.now c.in-Ok.item c.in-Ok.after.now
    c.loop-item.invariant.stands c.in-Ok.ensures.next in
    omega (arith, n.rises, c.loop-item.invariant.low)

pub put_varbyte-requires : goal.put_varbyte-requires
put_varbyte-requires c =
    let small = next_small c.loop-item.before c.loop-item.rest.now c.in-Ok.item c.in-Ok.after.now
    c.loop-item.invariant.stands c.in-Ok.ensures.next in
    omega (arith, small)

pub returns-in_err-put_varbyte-clause-front : goal.returns-in_err-put_varbyte-clause-front
returns-in_err-put_varbyte-clause-front c = leaving_cut c.args.out.now.items c.args.list.now c.args.dead.now
    c.loop-item.out.items c.put_varbyte.new.out.items c.loop-item.before c.loop-item.rest.now c.loop-item.last
    c.loop-item.count c.loop-item.invariant c.put_varbyte.ensures.front

pub overflow_add-count : goal.overflow_add-count
overflow_add-count c =
    let n = next_place c.loop-item.before c.loop-item.rest.now c.in-Ok.item c.in-Ok.after.now
    c.loop-item.invariant.stands c.in-Ok.ensures.next in
    let small = next_small c.loop-item.before c.loop-item.rest.now c.in-Ok.item c.in-Ok.after.now
    c.loop-item.invariant.stands c.in-Ok.ensures.next in
    omega (arith, small, n.rises, c.loop-item.invariant.low, c.loop-item.invariant.few)

pub loop-item-smaller-then-not-has : goal.loop-item-smaller-then-not-has
loop-item-smaller-then-not-has c =
    item_shorter c.loop-item.before c.loop-item.rest.now c.in-Ok.item c.in-Ok.after.now c.in-Ok.ensures.next

pub loop-item-preserved-then-not-has : goal.loop-item-preserved-then-not-has
loop-item-preserved-then-not-has c =
    live_written c.args.out.now.items c.args.list.now c.args.dead.now c.loop-item.out.items
    c.put_varbyte.new.out.items c.loop-item.before c.loop-item.rest.now c.loop-item.last
    c.loop-item.count c.in-Ok.item c.in-Ok.after.now c.loop-item.invariant c.in-Ok.ensures.next
    (λ k. false≢true (sym c.if-not-has.true ∙ c.has.ensures.1 k)) c.in_ok-put_varbyte.ensures.ok

pub loop-item-smaller : goal.loop-item-smaller
loop-item-smaller c =
    item_shorter c.loop-item.before c.loop-item.rest.now c.in-Ok.item c.in-Ok.after.now c.in-Ok.ensures.next

pub loop-item-preserved : goal.loop-item-preserved
loop-item-preserved c = dead_passed c.args.out.now.items c.args.list.now c.args.dead.now c.loop-item.out.items
    c.loop-item.before c.loop-item.rest.now c.loop-item.last c.loop-item.count c.in-Ok.item c.in-Ok.after.now
    c.loop-item.invariant c.in-Ok.ensures.next (c.has.ensures.0 c.if-not-has.false)

pub returns-clause-ok : goal.returns-clause-ok
returns-clause-ok c = leaving_ends c.args.out.now.items c.args.list.now c.args.dead.now c.loop-item.out.items
    c.loop-item.before c.loop-item.rest.now c.loop-item.last c.loop-item.count c.in_default.field-0 c.requires
    c.loop-item.invariant c.in_default.ensures.next
