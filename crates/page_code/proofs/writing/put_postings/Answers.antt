use Rattle.std.proofs.Common.{◌∷◌, [], arith}
use Rattle.page_types.specs.Numbers.{u32_bytes}
use Rattle.page_types.proofs.Framing.{length-u32_bytes}
use Rattle.page_code.proofs.Appending.{puts_then}
use Rattle.page_types.proofs.BodySizes.{length-inline}
use Rattle.page_code.proofs.Sizes.{puts_inline}
use Rattle.page_code.proofs.writing.put_postings.Goals as goal

pub put_key-requires-clause-room : goal.put_key-requires-clause-room
put_key-requires-clause-room c =
    let room = rw c.in-Inline.is at c.requires.room in
    omega (arith, room, length-inline c.in-Inline.items.now, c.put_byte-at.ensures.0)

pub put_u32-requires : goal.put_u32-requires
put_u32-requires c =
    let room = rw c.in-Root.is at c.requires.room in
    omega (arith, room, length-u32_bytes c.in-Root.root, c.put_byte-at-in-Root.ensures.0)

pub returns-in-Inline : goal.returns-in-Inline
returns-in-Inline c =
    let room = rw c.in-Inline.is at c.requires.room in
    rw c.in-Inline.is (puts_inline c.args.at c.put_byte-at.result c.put_key.result c.in-Inline.items.now c.args.out.now
    c.put_byte-at.new.out c.put_key.new.out (omega (arith, room)) c.put_byte-at.ensures c.put_key.ensures.puts)

pub returns-in-Root : goal.returns-in-Root
returns-in-Root c =
    let room = rw c.in-Root.is at c.requires.room in
    rw c.in-Root.is (puts_then c.args.at c.put_byte-at-in-Root.result c.put_u32.result (1 ∷ [])
    (u32_bytes c.in-Root.root) c.args.out.now c.put_byte-at-in-Root.new.out c.put_u32.new.out
    (omega (arith, room)) c.put_byte-at-in-Root.ensures c.put_u32.ensures.puts)
