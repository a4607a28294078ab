use Rattle.std.proofs.Common.{arith}
use Rattle.std.specs.Option.{option_map}
use Rattle.page_types.specs.Parts.{head_shown}
use Rattle.page_types.specs.Encoding.{slot_bytes}
use Rattle.page_code.proofs.Appending.{first_none, first_room, first_more, slot_got}
use Rattle.page_code.proofs.writing.put_slots.Goals as goal

pub loop-k-init : goal.loop-k-init
loop-k-init c = first_none slot_bytes c.args.slots.now c.args.at c.args.out.now

pub put_slot-end-requires : goal.put_slot-end-requires
put_slot-end-requires c =
    let got = slot_got c.args.slots.now c.loop-k.k (option_map head_shown c.get.result)
    (omega (arith, c.loop-k-test.true, c.len-k-end.ensures)) c.get.ensures in
    first_room slot_bytes c.args.slots.now c.loop-k.k c.args.at c.args.out.now c.loop-k.end c.loop-k.out
    (option_map head_shown c.get.result) _ c.loop-k.invariant got (omega (arith, c.requires))

pub loop-k-preserved : goal.loop-k-preserved
loop-k-preserved c =
    let got = slot_got c.args.slots.now c.loop-k.k (option_map head_shown c.get.result)
    (omega (arith, c.loop-k-test.true, c.len-k-end.ensures)) c.get.ensures in
    first_more slot_bytes c.args.slots.now c.loop-k.k c.args.at c.args.out.now c.loop-k.end c.loop-k.out
    (option_map head_shown c.get.result) c.put_slot-end.result c.put_slot-end.new.out c.loop-k.invariant got
    (omega (arith, c.requires)) c.put_slot-end.ensures
