use Rattle.std.proofs.Common.{arith}
use Rattle.page_types.specs.Parts.{head_shown}
use Rattle.page_code.proofs.Sizes.{puts_head}
use Rattle.page_code.proofs.writing.put_head.Goals as goal

pub returns : goal.returns
returns c =
    puts_head c.args.at c.put_u64-at.result c.put_u32-at.result c.put_u32-at-2.result c.put_u32-at-3.result
    c.put_u32-at-4.result c.put_u32-at-5.result c.put_bytes.result (head_shown c.args.head)
    c.args.out.now c.put_u64-at.new.out c.put_u32-at.new.out c.put_u32-at-2.new.out c.put_u32-at-3.new.out
    c.put_u32-at-4.new.out c.put_u32-at-5.new.out c.put_bytes.new.out
    (omega arith) (omega arith) (omega arith) (omega arith) (omega arith) (omega arith)
    c.put_u64-at.ensures.puts c.put_u32-at.ensures.puts c.put_u32-at-2.ensures.puts c.put_u32-at-3.ensures.puts
    c.put_u32-at-4.ensures.puts c.put_u32-at-5.ensures.puts c.put_bytes.ensures
