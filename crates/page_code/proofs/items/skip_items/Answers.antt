use Rattle.std.proofs.Common.{arith}
use Rattle.page_code.proofs.ItemReading.{few_read, enough_read, not_read}
use Rattle.page_code.proofs.items.skip_items.Goals as goal

pub returns-in-Ok : goal.returns-in-Ok
returns-in-Ok c =
    let r = c.in-Ok.ensures.read in
    few_read c.args.count c.from.result c.args.bytes.now r.0 c.in-Ok.read.rest.now c.from.ensures r.1
    (omega (arith, r.2, c.if-read-from.true))

pub returns-in-Ok-2 : goal.returns-in-Ok-2
returns-in-Ok-2 c =
    let r = c.in-Ok.ensures.read in
    enough_read c.args.count c.from.result c.args.bytes.now r.0 c.in-Ok.read.rest.now c.from.ensures r.1
    (omega (arith, r.2, c.if-read-from.false))

pub returns-in-Err : goal.returns-in-Err
returns-in-Err c =
    not_read c.args.count c.from.result c.args.bytes.now c.in-Err.left c.from.ensures c.in-Err.ensures.fault
