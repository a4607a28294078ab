use Rattle.std.proofs.Common.{arith}
use Rattle.page_types.specs.Parts.{entry_shown}
use Rattle.page_types.proofs.PageTelling.{key_short}
use Rattle.page_types.proofs.BodySizes.{length-entry_bytes}
use Rattle.page_code.proofs.Sizes.{puts_entry}
use Rattle.page_code.proofs.writing.put_entry.Goals as goal

pub put_key-at-requires-clause-size : goal.put_key-at-requires-clause-size
put_key-at-requires-clause-size c = key_short c.args.entry.key.now c.requires.entry.key

pub put_key-at-requires-clause-room : goal.put_key-at-requires-clause-room
put_key-at-requires-clause-room c = omega (arith, c.requires.room, length-entry_bytes (entry_shown c.args.entry))

pub put_postings-requires-clause-room : goal.put_postings-requires-clause-room
put_postings-requires-clause-room c = omega (arith, c.requires.room, length-entry_bytes (entry_shown c.args.entry))

pub returns : goal.returns
returns c =
    puts_entry c.args.at c.put_key-at.result c.put_postings.result
    (entry_shown c.args.entry) c.args.out.now c.put_key-at.new.out c.put_postings.new.out
    (omega (arith, c.requires.room)) c.put_key-at.ensures.puts c.put_postings.ensures
