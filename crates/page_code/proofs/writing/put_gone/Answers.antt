use Rattle.std.proofs.Common.{arith}
use Rattle.page_types.proofs.BodySizes.{length-posting}
use Rattle.page_code.proofs.writing.put_gone.Goals as goal

pub put_posting-requires : goal.put_posting-requires
put_posting-requires c =
    let room = rw c.in-PostLeaf.is at c.requires.room in
    omega (arith, room, length-posting c.in-PostLeaf.high c.in-PostLeaf.items)
