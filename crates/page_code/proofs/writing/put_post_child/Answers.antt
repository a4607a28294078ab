use Rattle.std.proofs.Common.{arith}
use Rattle.page_types.proofs.BodySizes.{length-post_child_bytes}
use Rattle.page_code.proofs.Sizes.{puts_post_child}
use Rattle.page_code.proofs.writing.put_post_child.Goals as goal

pub put_u32-at-requires : goal.put_u32-at-requires
put_u32-at-requires c = omega (arith, c.requires, length-post_child_bytes c.args.child)

pub put_u32-requires : goal.put_u32-requires
put_u32-requires c = omega (arith, c.requires, length-post_child_bytes c.args.child)

pub returns : goal.returns
returns c = puts_post_child c.args.at c.put_u32-at.result c.put_u32.result c.args.child c.args.out.now
    c.put_u32-at.new.out c.put_u32.new.out (omega (arith, c.requires)) c.put_u32-at.ensures.puts c.put_u32.ensures.puts
