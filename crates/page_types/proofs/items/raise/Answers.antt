use Rattle.std.proofs.Common.{arith}
use Rattle.page_types.proofs.Varbytes.{power_small}
use Rattle.page_types.proofs.items.raise.Goals as goal

pub overflow_mul-result : goal.overflow_mul-result
overflow_mul-result c =
    let h = rw c.in-Some.is at c.requires.high in omega (arith, h, power_small c.args.most c.requires.most)

pub overflow_add-result : goal.overflow_add-result
overflow_add-result c =
    let h = rw c.in-Some.is at c.requires.high in omega (arith, h, power_small c.args.most c.requires.most)
