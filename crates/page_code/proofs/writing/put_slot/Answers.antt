use Rattle.std.proofs.Common.{◌∷◌, [], arith}
use Rattle.page_types.specs.Parts.{head_shown}
use Rattle.page_types.specs.Encoding.{head_bytes}
use Rattle.page_code.proofs.Appending.{puts_then}
use Rattle.page_types.proofs.BodySizes.{length-head_bytes}
use Rattle.page_code.proofs.writing.put_slot.Goals as goal

pub put_head-requires : goal.put_head-requires
put_head-requires c =
    let room = rw c.in-Some.is at c.requires in
    omega (arith, room, length-head_bytes (head_shown c.in-Some.head), c.put_byte-at.ensures.0)

pub returns-in-Some : goal.returns-in-Some
returns-in-Some c =
    let room = rw c.in-Some.is at c.requires in
    rw c.in-Some.is (puts_then c.args.at c.put_byte-at.result c.put_head.result (1 ∷ [])
    (head_bytes (head_shown c.in-Some.head)) c.args.out.now c.put_byte-at.new.out c.put_head.new.out
    (omega (arith, room)) c.put_byte-at.ensures c.put_head.ensures)
