use Rattle.std.proofs.Common.{◌<◌, length, arith}
use Rattle.std.proofs.lemmas.Result.{err_from_is_err_and}
use Rattle.page_types.proofs.ItemReading.{reading_goes_on, reading_ends, reading_fails, some_left, none_left}
use Rattle.page_types.proofs.items.read_items.Goals as goal
use Rattle.page_types.proofs.items.read_items.Goals.{then-loop-count-test+else-not-is_empty, else-loop-count-test}

pub returns-in_err-item-clause-fault : goal.returns-in_err-item-clause-fault
returns-in_err-item-clause-fault c =
    let p = err_from_is_err_and c.from_residual.result c.from_residual.ensures.1 in
    let some : 0 < length c.loop-count.rest.now =
    some_left c.loop-count.rest.now c.is_empty.result c.if-not-is_empty.true c.is_empty.ensures in
    rw (p.1, p.2) (reading_fails c.args.most c.args.bytes.now c.loop-count.rest.now c.loop-count.last c.loop-count.count
    c.in_err-item.field-0.0 c.loop-count.invariant c.loop-count-test.true some c.in_err-item.ensures.next)

pub loop-count-preserved : goal.loop-count-preserved
loop-count-preserved c =
    reading_goes_on c.args.most c.args.bytes.now c.loop-count.rest.now c.loop-count.last c.loop-count.count
    c.in_ok-item.item c.in_ok-item.after.now c.loop-count.invariant c.loop-count-test.true c.in_ok-item.ensures.next

pub returns-clause-read : goal.returns-clause-read
returns-clause-read c =
    let e = reading_ends c.args.most c.args.bytes.now c.loop-count.rest.now c.loop-count.last c.loop-count.count
    c.loop-count.invariant (elim c.loop-count-test.branch [
      | then-loop-count-test+else-not-is_empty w ↦ λ lt.
          none_left c.loop-count.rest.now w.is_empty.result w.if-not-is_empty.false w.is_empty.ensures
      | else-loop-count-test w ↦ λ lt. absurd (omega (arith, w.loop-count-test.false))
    ]) in
    (e.given, e.same, e.counted, e.ends)
