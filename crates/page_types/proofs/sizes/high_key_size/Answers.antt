use Rattle.page_types.proofs.BodySizes.{high_some}
use Rattle.std.proofs.Common.{sym}
use Rattle.page_types.proofs.sizes.high_key_size.Goals as goal

pub returns-else-is_empty : goal.returns-else-is_empty
returns-else-is_empty c = sym (high_some c.args.high.now c.is_empty.result c.if-is_empty.false c.is_empty.ensures).1
