use Rattle.std.proofs.Common.{arith}
use Rattle.page_code.proofs.Sizes.{puts_meta}
use Rattle.page_code.proofs.writing.put_meta.Goals as goal

pub returns : goal.returns
returns c =
    puts_meta c.args.at c.put_u32-at.result c.put_u32-at-2.result c.put_u32.result c.args.first c.args.last c.args.pages
    c.args.out.now c.put_u32-at.new.out c.put_u32-at-2.new.out c.put_u32.new.out (omega arith) (omega arith)
    c.put_u32-at.ensures.puts c.put_u32-at-2.ensures.puts c.put_u32.ensures.puts
