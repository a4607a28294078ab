use Rattle.std.proofs.Common.{arith}
use Rattle.posting_code.proofs.Sizing.{most_bytes}
use Rattle.posting_code.proofs.dividing.both_fit.Goals as goal

pub overflow_add-result : goal.overflow_add-result
overflow_add-result c =
    omega (arith, c.varbyte_size.ensures, most_bytes c.args.halves.next c.requires, c.if-halves-le-MOST_LIST-2.true)
