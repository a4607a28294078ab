use Rattle.std.proofs.Common.{arith}
use Rattle.page_types.proofs.BodySizes.{high_some}
use Rattle.page_code.proofs.Sizes.{high_none}
use Rattle.page_code.proofs.writing.put_high_key.Goals as goal

pub put_key-requires-clause-room : goal.put_key-requires-clause-room
put_key-requires-clause-room c =
    let some = high_some c.args.high.now c.is_empty.result c.if-is_empty.false c.is_empty.ensures in
    omega (arith, c.requires.room, some.1)

pub returns-then-is_empty : goal.returns-then-is_empty
returns-then-is_empty c =
    high_none c.args.at c.args.high.now c.args.out.now c.is_empty.result c.if-is_empty.true c.is_empty.ensures

pub returns-else-is_empty : goal.returns-else-is_empty
returns-else-is_empty c =
    let some = high_some c.args.high.now c.is_empty.result c.if-is_empty.false c.is_empty.ensures in
    rw (some.0) c.put_key.ensures.puts
