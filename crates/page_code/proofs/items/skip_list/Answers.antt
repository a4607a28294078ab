use Rattle.page_code.proofs.ItemReading.{list_read, list_not_read}
use Rattle.page_code.proofs.items.skip_list.Goals as goal

pub returns-in-Ok : goal.returns-in-Ok
returns-in-Ok c = list_read c.args.bytes.now c.in-Ok.ensures.read.0 c.in-Ok.read.rest.now c.in-Ok.ensures.read.1

pub returns-in-Err : goal.returns-in-Err
returns-in-Err c = list_not_read c.args.bytes.now c.in-Err.left c.in-Err.ensures.fault
