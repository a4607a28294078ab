use Rattle.std.proofs.Common.{◌-◌, arith}
use Rattle.posting_code.proofs.Sizing.{most_bytes}
use Rattle.posting_code.proofs.merging.with_item.Goals as goal

pub overflow_add-result : goal.overflow_add-result
overflow_add-result c =
    let fits = c.requires.item in
    let few = most_bytes (c.args.item - c.args.taken.last) (omega (arith, fits)) in
    omega (arith, few, c.varbyte_size.ensures, c.requires.size)
