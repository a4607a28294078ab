use Rattle.std.proofs.Common.{sym}
use Rattle.page_types.proofs.BodySizes.{high_some}
use Rattle.core_state.proofs.splitting.high_size.Goals as goal

pub returns : goal.returns
returns c = sym (high_some c.args.high.now c.is_empty.result c.if-is_empty.false c.is_empty.ensures).1
