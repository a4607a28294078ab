use Rattle.std.proofs.Common.{arith}
use Rattle.page_types.specs.Numbers.{u32_bytes}
use Rattle.page_code.proofs.Appending.{puts_then}
use Rattle.page_code.proofs.writing.put_posting.Goals as goal

pub returns : goal.returns
returns c =
    let list = rw c.as_slice.ensures at c.put_bytes.ensures in
    puts_then c.args.at c.put_u32-at.result c.put_bytes.result (u32_bytes c.args.high) c.args.items.now c.args.out.now
    c.put_u32-at.new.out c.put_bytes.new.out (omega arith) c.put_u32-at.ensures.puts list
