use Rattle.std.proofs.Common.{◌<◌, ◌^◌, length, arith}
use Rattle.page_types.specs.Parts.{pieces_shown}
use Rattle.page_types.specs.Encoding.{key_field}
use Rattle.page_code.proofs.Appending.{all_got, first_none, first_room, first_more}
use Rattle.page_types.proofs.BodySizes.{length-key_field}
use Rattle.page_code.proofs.writing.put_keys.Goals as goal

pub loop-k-init : goal.loop-k-init
loop-k-init c = first_none key_field (pieces_shown c.args.keys) c.args.at c.args.out.now

pub put_key-end-requires-clause-size : goal.put_key-end-requires-clause-size
put_key-end-requires-clause-size c = all_got (λ key. length key < 2 ^ 16)
    (pieces_shown c.args.keys) c.loop-k.k c.at.result.now c.requires.sizes c.at.ensures

pub put_key-end-requires-clause-room : goal.put_key-end-requires-clause-room
put_key-end-requires-clause-room c =
    let room = first_room key_field (pieces_shown c.args.keys) c.loop-k.k c.args.at c.args.out.now c.loop-k.end
    c.loop-k.out c.at.result.now (length c.args.out.now) c.loop-k.invariant c.at.ensures c.requires.room in
    omega (arith, room, length-key_field c.at.result.now)

pub loop-k-preserved : goal.loop-k-preserved
loop-k-preserved c =
    first_more key_field (pieces_shown c.args.keys) c.loop-k.k c.args.at c.args.out.now c.loop-k.end
    c.loop-k.out c.at.result.now c.put_key-end.result c.put_key-end.new.out c.loop-k.invariant c.at.ensures
    (omega (arith, c.requires.room)) c.put_key-end.ensures.puts
