use Rattle.std.proofs.Common.{arith}
use Rattle.page_code.proofs.Sizes.{puts_front}
use Rattle.page_code.proofs.writing.put_front.Goals as goal

pub returns : goal.returns
returns c =
    puts_front c.args.page.now c.kind_number.result c.was_number.result c.count_in.result c.put_byte-at.result
    c.put_byte-at-2.result c.put_u16-at.result c.put_u32.result c.args.out.now c.put_byte-at.new.out
    c.put_byte-at-2.new.out c.put_u16-at.new.out c.put_u32.new.out
    c.kind_number.ensures c.was_number.ensures c.count_in.ensures c.requires.room (omega arith)
    (omega arith) c.put_byte-at.ensures c.put_byte-at-2.ensures c.put_u16-at.ensures.puts c.put_u32.ensures.puts
