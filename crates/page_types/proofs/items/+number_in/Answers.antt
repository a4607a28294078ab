use Rattle.std.proofs.Common.{arith}
use Rattle.page_types.proofs.Varbytes.{power_large}
use Rattle.page_types.proofs.items.+number_in.Goals as goal

pub returns-then-b-lt128-clause-bound : goal.returns-then-b-lt128-clause-bound
returns-then-b-lt128-clause-bound t c =
    let large = power_large c.args.most (omega arith) in omega (arith, large, c.from.ensures)
