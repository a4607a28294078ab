use Rattle.std.proofs.Common.{refl, arith}
use Rattle.page_code.proofs.Sizes.{puts_key}
use Rattle.page_code.proofs.writing.put_key.Goals as goal

pub returns-clause-puts : goal.returns-clause-puts
returns-clause-puts c = puts_key c.args.at c.put_u16-at.result c.put_bytes.result _ c.args.key.now c.args.out.now
    c.put_u16-at.new.out c.put_bytes.new.out refl (omega arith) c.put_u16-at.ensures.puts c.put_bytes.ensures
