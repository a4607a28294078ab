use Rattle.std.proofs.Common.{arith}
use Rattle.page_types.specs.Parts.{row_shown}
use Rattle.page_types.proofs.BodySizes.{length-row_bytes}
use Rattle.page_code.proofs.Sizes.{keys_short, puts_row}
use Rattle.page_code.proofs.writing.put_row.Goals as goal

pub put_u32-at-requires : goal.put_u32-at-requires
put_u32-at-requires c = omega (arith, c.requires.room, length-row_bytes (row_shown c.args.row))

pub put_u16-at-requires : goal.put_u16-at-requires
put_u16-at-requires c = omega (arith, c.requires.room, length-row_bytes (row_shown c.args.row))

pub put_keys-requires-clause-sizes : goal.put_keys-requires-clause-sizes
put_keys-requires-clause-sizes c = keys_short (row_shown c.args.row).keys c.requires.row.keys

pub put_keys-requires-clause-room : goal.put_keys-requires-clause-room
put_keys-requires-clause-room c = omega (arith, c.requires.room, length-row_bytes (row_shown c.args.row))

pub returns : goal.returns
returns c =
    puts_row c.args.at c.put_u32-at.result c.put_u16-at.result c.put_keys.result _
    (row_shown c.args.row) c.args.out.now c.put_u32-at.new.out c.put_u16-at.new.out c.put_keys.new.out c.len.ensures
    (omega (arith, c.requires.room)) (omega (arith, c.requires.room, length-row_bytes (row_shown c.args.row)))
    c.put_u32-at.ensures.puts c.put_u16-at.ensures.puts c.put_keys.ensures
